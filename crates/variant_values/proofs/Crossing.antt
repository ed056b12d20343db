-- Values cross threads, and are shared by them. A search that enters each variant anew runs into its limits, so the terms
-- are written here, once.
use denote.Param.Send.{IsSend, IsSync, sendable, view_send, view_sync}
use denote.Param.SendFields.{declared_send, declared_sync, variants_send, variants_sync}
use Rattle.std.proofs.Crossing as std
use Rattle.std.specs.contracts.alloc.Global as Heap
use Rattle.std.specs.contracts.impls.GlobalAllocator.TheImpl.{ghosts}
use Rattle.std.specs.contracts.sync.ArcStr as ArcStr
use Rattle.std.specs.contracts.string.String as String
use Rattle.variant_values.specs.contracts.classes.ClassId as ClassId
use Rattle.variant_values.specs.contracts.classes.ClassTag as ClassTag
use Rattle.variant_values.specs.contracts.texts.Str as Str
use Rattle.variant_values.specs.contracts.texts.Str.TheInside as StrInside
use Rattle.variant_values.specs.contracts.values.Key as Key
use Rattle.variant_values.specs.contracts.values.Serial as Serial
use Rattle.variant_values.specs.contracts.values.Value as Value

string_send : IsSend (String.the_row Heap.the_row ghosts)
string_send = search (sendable, std.crosses)

string_sync : IsSync (String.the_row Heap.the_row ghosts)
string_sync = search (sendable, std.crosses)

pub text_send : IsSend Str.the_row
text_send = view_send _ _ _ _ _ (declared_send StrInside.the_type (declared_send (ArcStr.the_type Heap.the_row ghosts) (std.Arc-send _ string_send string_sync, tt), tt))

pub text_sync : IsSync Str.the_row
text_sync = view_sync _ _ _ _ _ (declared_sync StrInside.the_type (declared_sync (ArcStr.the_type Heap.the_row ghosts) (std.Arc-sync _ string_send string_sync, tt), tt))

pub serial_send : IsSend Serial.the_row
serial_send = declared_send Serial.the_type (search sendable, tt)

pub serial_sync : IsSync Serial.the_row
serial_sync = declared_sync Serial.the_type (search sendable, tt)

id_send : IsSend ClassId.the_row
id_send = declared_send ClassId.the_type (search sendable, (search sendable, tt))

id_sync : IsSync ClassId.the_row
id_sync = declared_sync ClassId.the_type (search sendable, (search sendable, tt))

pub class_send : IsSend ClassTag.the_row
class_send = variants_send ClassTag.enum (tt, (tt, (tt, ((id_send, tt), tt))))

pub class_sync : IsSync ClassTag.the_row
class_sync = variants_sync ClassTag.enum (tt, (tt, (tt, ((id_sync, tt), tt))))

pub value_send : IsSend Value.the_row
value_send = variants_send Value.enum (tt, ((search sendable, tt), ((search sendable, tt), ((text_send, tt), ((serial_send, tt), ((serial_send, tt), ((serial_send, tt), ((serial_send, (text_send, tt)), ((serial_send, (text_send, tt)), ((class_send, tt), ((search sendable, (text_send, tt)), ((serial_send, tt), tt))))))))))))

pub value_sync : IsSync Value.the_row
value_sync = variants_sync Value.enum (tt, ((search sendable, tt), ((search sendable, tt), ((text_sync, tt), ((serial_sync, tt), ((serial_sync, tt), ((serial_sync, tt), ((serial_sync, (text_sync, tt)), ((serial_sync, (text_sync, tt)), ((class_sync, tt), ((search sendable, (text_sync, tt)), ((serial_sync, tt), tt))))))))))))

pub key_send : IsSend Key.the_row
key_send = variants_send Key.enum ((search sendable, tt), ((search sendable, tt), ((text_send, tt), ((serial_send, tt), tt))))

pub key_sync : IsSync Key.the_row
key_sync = variants_sync Key.enum ((search sendable, tt), ((search sendable, tt), ((text_sync, tt), ((serial_sync, tt), tt))))

-- Facts cross threads, and are shared by them. A search that enters each variant anew runs into its limits, so each type has
-- its lemma, from those of its parts, where it has many as a field (`row`) too.
use denote.Builtin.{u32, i64}
use denote.RattleType.{RattleType}
use denote.Param.Send.{IsSend, IsSync, sendable, view_send, view_sync}
use denote.Param.SendFields.{declared_send, declared_sync, variants_send, variants_sync, as_row_send, as_row_sync}
use Rattle.std.proofs.Crossing as std
use Rattle.std.specs.contracts.option.Option as Option
use Rattle.tree_lists.specs.contracts.items.Items as Items
use Rattle.tree_lists.proofs.Crossing.{items_send, items_sync, lists}
use Rattle.gd_syntax.proofs.Crossing.{place_send, place_sync, script_send, script_sync}
use Rattle.variant_values.specs.contracts.classes.ClassId as ClassId
use Rattle.variant_values.specs.contracts.classes.ClassTag as ClassTag
use Rattle.variant_values.specs.contracts.classes.ElementTag as ElementTag
use Rattle.variant_values.specs.contracts.classes.Lineage as Lineage
use Rattle.variant_values.specs.contracts.classes.Lineage.TheInside as InLineage
use Rattle.variant_values.proofs.Crossing.{text_send, text_sync}
use Rattle.folder_meaning.specs.contracts.const_value.ConstValue as ConstValue
use Rattle.folder_meaning.specs.contracts.script_type.ScriptType as ScriptType
use Rattle.folder_meaning.specs.contracts.shared.Shared as Shared
use Rattle.folder_meaning.specs.contracts.shared.Shared.TheInside as InShared
use Rattle.folder_meaning.specs.contracts.facts.Declaration as Declaration
use Rattle.folder_meaning.specs.contracts.facts.Referent as Referent
use Rattle.folder_meaning.specs.contracts.facts.NodeFacts as NodeFacts
use Rattle.folder_meaning.specs.contracts.facts.BodyFacts as BodyFacts
use Rattle.folder_meaning.specs.contracts.facts.ParamFacts as ParamFacts
use Rattle.folder_meaning.specs.contracts.facts.Signature as Signature
use Rattle.folder_meaning.specs.contracts.facts.MemberFacts as MemberFacts
use Rattle.folder_meaning.specs.contracts.facts.ClassFacts as ClassFacts
use Rattle.folder_meaning.specs.contracts.facts.Content as Content
use Rattle.folder_meaning.specs.contracts.facts.FileFacts as FileFacts
use Rattle.folder_meaning.proofs.const_value.ConstValue.TheLaws.TheKnot.{send-ConstValue, sync-ConstValue}

module _ (T : RattleType) where
  option_send : IsSend T → IsSend (Option.the_row T)
  option_send s = search sendable depth 40

  option_sync : IsSync T → IsSync (Option.the_row T)
  option_sync s = search sendable depth 40

  pub shared_send : IsSend T → IsSync T → IsSend (Shared.the_row T)
  shared_send s y = view_send _ _ _ _ _ (declared_send (InShared.the_type T) (std.Arc-send T s y, tt))

  pub shared_sync : IsSend T → IsSync T → IsSync (Shared.the_row T)
  shared_sync s y = view_sync _ _ _ _ _ (declared_sync (InShared.the_type T) (std.Arc-sync T s y, tt))

numbers_send : IsSend (Items.the_row u32)
numbers_send = items_send u32 (search sendable)

numbers_sync : IsSync (Items.the_row u32)
numbers_sync = items_sync u32 (search sendable)

id_send : IsSend ClassId.the_row
id_send = declared_send ClassId.the_type (search sendable, (search sendable, tt))

id_sync : IsSync ClassId.the_row
id_sync = declared_sync ClassId.the_type (search sendable, (search sendable, tt))

class_row_send : IsSend (ClassTag.the_field).row
class_row_send = search sendable depth 60 fits 4000

class_row_sync : IsSync (ClassTag.the_field).row
class_row_sync = search sendable depth 60 fits 4000

class_send : IsSend ClassTag.the_row
class_send = as_row_send ClassTag.the_field class_row_send

class_sync : IsSync ClassTag.the_row
class_sync = as_row_sync ClassTag.the_field class_row_sync

element_send : IsSend ElementTag.the_row
element_send = variants_send ElementTag.enum (tt, (tt, (tt, (tt, (tt, (tt, (tt, (tt, (tt, ((class_send, tt), tt))))))))))

element_sync : IsSync ElementTag.the_row
element_sync = variants_sync ElementTag.enum (tt, (tt, (tt, (tt, (tt, (tt, (tt, (tt, (tt, ((class_sync, tt), tt))))))))))

lineage_send : IsSend Lineage.the_row
lineage_send = view_send _ _ _ _ _ (declared_send InLineage.the_type (std.Arc-send _ (std.Vec-send _ class_send) (std.Vec-sync _ class_sync), tt))

lineage_sync : IsSync Lineage.the_row
lineage_sync = view_sync _ _ _ _ _ (declared_sync InLineage.the_type (std.Arc-sync _ (std.Vec-send _ class_send) (std.Vec-sync _ class_sync), tt))

pub type_send : IsSend ScriptType.the_row
type_send = variants_send ScriptType.enum (tt, (tt, (tt, (tt, (tt, (tt, ((option_send _ element_send, tt), (tt, (tt, (tt, (tt, (tt, ((class_send, tt), ((class_send, tt), tt))))))))))))))

pub type_sync : IsSync ScriptType.the_row
type_sync = variants_sync ScriptType.enum (tt, (tt, (tt, (tt, (tt, (tt, ((option_sync _ element_sync, tt), (tt, (tt, (tt, (tt, (tt, ((class_sync, tt), ((class_sync, tt), tt))))))))))))))

pub value_send : IsSend ConstValue.the_row
value_send = as_row_send ConstValue.the_field (send-ConstValue (search sendable) (search sendable) text_send items_send (λ h s. search (lists, sendable) depth 40) class_row_send (search sendable))

pub value_sync : IsSync ConstValue.the_row
value_sync = as_row_sync ConstValue.the_field (sync-ConstValue (search sendable) (search sendable) text_sync items_sync (λ h s. search (lists, sendable) depth 40) class_row_sync (search sendable))

pub declaration_send : IsSend Declaration.the_row
declaration_send = declared_send Declaration.the_type (id_send, (search sendable, (search sendable depth 40, tt)))

pub declaration_sync : IsSync Declaration.the_row
declaration_sync = declared_sync Declaration.the_type (id_sync, (search sendable, (search sendable depth 40, tt)))

referent_send : IsSend Referent.the_row
referent_send = variants_send Referent.enum ((place_send, tt), ((declaration_send, tt), ((class_send, tt), ((search sendable, tt), ((search sendable, tt), (tt, (tt, tt)))))))

referent_sync : IsSync Referent.the_row
referent_sync = variants_sync Referent.enum ((place_sync, tt), ((declaration_sync, tt), ((class_sync, tt), ((search sendable, tt), ((search sendable, tt), (tt, (tt, tt)))))))

node_send : IsSend NodeFacts.the_row
node_send = declared_send NodeFacts.the_type (option_send _ referent_send, (option_send _ type_send, tt))

node_sync : IsSync NodeFacts.the_row
node_sync = declared_sync NodeFacts.the_type (option_sync _ referent_sync, (option_sync _ type_sync, tt))

body_send : IsSend BodyFacts.the_row
body_send = declared_send BodyFacts.the_type (items_send _ node_send, tt)

body_sync : IsSync BodyFacts.the_row
body_sync = declared_sync BodyFacts.the_type (items_sync _ node_sync, tt)

param_send : IsSend ParamFacts.the_row
param_send = declared_send ParamFacts.the_type (type_send, (search sendable, tt))

param_sync : IsSync ParamFacts.the_row
param_sync = declared_sync ParamFacts.the_type (type_sync, (search sendable, tt))

signature_send : IsSend Signature.the_row
signature_send = declared_send Signature.the_type (search sendable, (items_send _ param_send, (type_send, tt)))

signature_sync : IsSync Signature.the_row
signature_sync = declared_sync Signature.the_type (search sendable, (items_sync _ param_sync, (type_sync, tt)))

member_send : IsSend MemberFacts.the_row
member_send = declared_send MemberFacts.the_type (declaration_send, (option_send _ (shared_send _ value_send value_sync), (items_send i64 (search sendable), (option_send _ type_send, (option_send _ (shared_send _ signature_send signature_sync), tt)))))

member_sync : IsSync MemberFacts.the_row
member_sync = declared_sync MemberFacts.the_type (declaration_sync, (option_sync _ (shared_sync _ value_send value_sync), (items_sync i64 (search sendable), (option_sync _ type_sync, (option_sync _ (shared_sync _ signature_send signature_sync), tt)))))

class_facts_send : IsSend ClassFacts.the_row
class_facts_send = declared_send ClassFacts.the_type (option_send _ declaration_send, (class_send, (lineage_send, (items_send _ member_send, tt))))

class_facts_sync : IsSync ClassFacts.the_row
class_facts_sync = declared_sync ClassFacts.the_type (option_sync _ declaration_sync, (class_sync, (lineage_sync, (items_sync _ member_sync, tt))))

content_send : IsSend Content.the_row
content_send = variants_send Content.enum ((script_send, tt), tt)

content_sync : IsSync Content.the_row
content_sync = variants_sync Content.enum ((script_sync, tt), tt)

pub facts_send : IsSend FileFacts.the_row
facts_send = declared_send FileFacts.the_type (search sendable, (shared_send _ content_send content_sync, (shared_send _ numbers_send numbers_sync, (shared_send _ numbers_send numbers_sync, (shared_send _ (items_send _ class_facts_send) (items_sync _ class_facts_sync), (shared_send _ (items_send _ (items_send _ body_send)) (items_sync _ (items_sync _ body_sync)), tt))))))

pub facts_sync : IsSync FileFacts.the_row
facts_sync = declared_sync FileFacts.the_type (search sendable, (shared_sync _ content_send content_sync, (shared_sync _ numbers_send numbers_sync, (shared_sync _ numbers_send numbers_sync, (shared_sync _ (items_send _ class_facts_send) (items_sync _ class_facts_sync), (shared_sync _ (items_send _ (items_send _ body_send)) (items_sync _ (items_sync _ body_sync)), tt))))))

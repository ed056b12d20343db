-- What plain names and members give keeps a law.
use Rattle.std.proofs.Common.{ℕ, ℤ, Bool, true, false, List, [], ◌∷◌, Option, Some, None, Ok, Err}
use Rattle.std.specs.Prelude.{bytes_eq, encode_utf8_all, if◌then◌else◌}
use Rattle.std.specs.Option.{option_or}
use Rattle.gd_syntax.specs.declared.fault.Place.{Place}
use Rattle.variant_values.specs.declared.classes.ClassTag.{ClassTag}
use Rattle.variant_values.specs.declared.faults.RunFault.TheVariants.{NullAccess, FreedAccess, NoMember}
use Rattle.variant_values.specs.declared.values.Serial.{Serial}
use Rattle.variant_values.specs.declared.values.Value.{Value}
use Rattle.variant_values.specs.declared.values.Value.TheVariants.{Null, Bool as Truth, Int, Str, Array, Dict, Object, Callable, Signal, Class, Scene, Weak}
use Rattle.variant_values.specs.Heaps.{cell_at, field_in}
use Rattle.variant_values.specs.Indexing.{index_of}
use Rattle.variant_values.specs.Operators.{Outcome}
use Rattle.script_meaning.specs.State.{Making, Local, World}
use Rattle.script_meaning.specs.Projects.{Project, Meant, AField, AFunction, ANativeMethod, ASignal, AConstant, AnEnum, AClass, AnOuterFunction, AGlobalFunction, Unknown, as_class, member_meant, native_class, native_classes, or_unknown, outer_meant, plain_meant, seen_within, where_so}
use Rattle.script_meaning.specs.Meanings.{Here, Moment, Given-to, Site, Valued, Holder, OfValue, OfEnum, Callee, Global, Method, Static, Plain, Target, ToName, ToMember, ToIndex, gives_by, heap_at, frames_of, site_of}
use Rattle.script_meaning.specs.Members.{as_callee, as_holder, callee_by, callee_in, class_behind, class_in, constant_read, enum_in, function_callee, holder_by, is_read_first, item_of, local_of, meant_behind, meant_by, meant_callee, meant_holder, meant_value, member_callee, member_holder, member_in, member_of, member_target, member_value, name_callee, name_holder, name_value, named_callee, named_holder, named_value, object_member, of_object, or_member, read_by, without_object}
use Rattle.script_laws.proofs.Law.{Law, KnownIn}
use Rattle.script_laws.proofs.Moments.{At, AtSite, Good, IsConstant, IsLocal, IsMaking, Keeps, Locals, Passed, Ready, bind, carry, done, failed, given, given_by, given_then, plain, self_ready}

module _ (L : Law) where
  -- ---- what a project has

  -- what reads of its constants give keeps the law
  abbrev pub IsMeant : Meant → Type 0
  IsMeant (AConstant making) = IsMaking L making
  IsMeant meant = Unit {0}

  abbrev pub IsFound : Option Meant → Type 0
  IsFound None = Unit {0}
  IsFound (Some meant) = IsMeant meant

  pub record IsLawful (project : Project) : Type 0 where
    pub members : (class : ClassTag) (name : List ℕ) → IsFound (project.member class name)
    pub constants : (class : ClassTag) (place : Place) → IsMaking L (project.constant_at class place)
    pub resources : (class : ClassTag) (path : List ℕ) (w : World) → KnownIn L.Fine L.Known L.Then w (project.resource class path)

  -- ---- kinds of results

  abbrev pub HolderReady : Site → Holder → Moment → Type 0
  HolderReady s (OfValue v) m = Ready L s v m
  HolderReady s (OfEnum items) m = Unit {0}

  abbrev pub CalleeReady : Site → Callee → Moment → Type 0
  CalleeReady s (Global name) m = Unit {0}
  CalleeReady s (Method of name) m = Ready L s of m
  CalleeReady s (Static class name) m = Unit {0}
  CalleeReady s (Plain v) m = Ready L s v m

  abbrev pub TargetReady : Site → Target → Moment → Type 0
  TargetReady s (ToName name) m = Unit {0}
  TargetReady s (ToMember of name) m = Ready L s of m
  TargetReady s (ToIndex of index) m = Ready L s of m × Ready L s index m

  pub carry_holder : {c : Bool} {s : Site} {m n : Moment} (x : Holder) → Passed L c s m n → HolderReady s x m → HolderReady s x n
  carry_holder (OfValue v) p k = carry L p k
  carry_holder (OfEnum items) p k = tt

  pub carry_callee : {c : Bool} {s : Site} {m n : Moment} (x : Callee) → Passed L c s m n → CalleeReady s x m → CalleeReady s x n
  carry_callee (Global name) p k = tt
  carry_callee (Method of name) p k = carry L p k
  carry_callee (Static class name) p k = tt
  carry_callee (Plain v) p k = carry L p k

  pub carry_target : {c : Bool} {s : Site} {m n : Moment} (x : Target) → Passed L c s m n → TargetReady s x m → TargetReady s x n
  carry_target (ToName name) p k = tt
  carry_target (ToMember of name) p k = carry L p k
  carry_target (ToIndex of index) p k = (carry L p k.0, carry L p k.1)

  pub held_by : {c : Bool} {s : Site} {m : Moment} (r : Valued) → Good L c s m (Ready L s) r → Good L c s m (HolderReady s) (as_holder r)
  held_by (Ok (v, n)) g = record { good = g.good }
  held_by (Err e) g = record { good = g.good }

  pub called_by : {c : Bool} {s : Site} {m : Moment} (r : Valued) → Good L c s m (Ready L s) r → Good L c s m (CalleeReady s) (as_callee r)
  called_by (Ok (v, n)) g = record { good = g.good }
  called_by (Err e) g = record { good = g.good }

  function_ready : (s : Site) (m : Moment) (self : Value) (class : ClassTag) (name : List ℕ) → Ready L s self m → CalleeReady s (function_callee self class name) m
  function_ready s m (Object o) class name k = k
  function_ready s m Null class name k = tt
  function_ready s m (Truth b) class name k = tt
  function_ready s m (Int n) class name k = tt
  function_ready s m (Str t) class name k = tt
  function_ready s m (Array a) class name k = tt
  function_ready s m (Dict a) class name k = tt
  function_ready s m (Callable a n) class name k = tt
  function_ready s m (Signal a n) class name k = tt
  function_ready s m (Class a) class name k = tt
  function_ready s m (Scene a p) class name k = tt
  function_ready s m (Weak a) class name k = tt

  -- ---- what is meant

  module _ {c : Bool} {s : Site} {m : Moment} (at : AtSite L s m.world) where
    pub read : (making : Making) → IsMaking L making → Good L c s m (Ready L s) (constant_read making s m)
    read making k = given_then L (making (heap_at s m)) at (k.makes (frames_of s m) m.world at.fine)

    pub local : (constant : Option Making) (v : Value) → L.Known m.world v → IsConstant L constant → Good L c s m (Ready L s) (read_by constant v s m)
    local (Some making) v known k = read making k
    local None v known k = given L at known

    pub objectless : (meant : Meant) → IsMeant meant → Good L c s m (Ready L s) (without_object meant s m)
    objectless (AConstant making) k = read making k
    objectless (AClass class) k = plain L at tt
    objectless (AField place) k = failed L NoMember at
    objectless (AFunction owner is_static) k = failed L NoMember at
    objectless ANativeMethod k = failed L NoMember at
    objectless ASignal k = failed L NoMember at
    objectless (AnEnum items) k = failed L NoMember at
    objectless (AnOuterFunction owner) k = failed L NoMember at
    objectless AGlobalFunction k = failed L NoMember at
    objectless Unknown k = failed L NoMember at

    field_given : (o : Option Value) → KnownIn L.Fine L.Known L.Then m.world o → Good L c s m (Ready L s) (gives_by (or_member o) s m)
    field_given (Some v) k = given L at k
    field_given None k = failed L NoMember at

    pub objects : (o : Serial) (name : List ℕ) (meant : Meant) → L.Known m.world (Object o) → IsMeant meant → Good L c s m (Ready L s) (of_object o name meant s m)
    objects o name (AField i) known k = field_given (field_in (cell_at m.world.cells o.0) i) (L.field m.world o.0 i at.fine)
    objects o name (AFunction owner is_static) known k = given L at (L.callable m.world o (encode_utf8_all name) known)
    objects o name ANativeMethod known k = given L at (L.callable m.world o (encode_utf8_all name) known)
    objects o name ASignal known k = given L at (L.signal m.world o (encode_utf8_all name) known)
    objects o name (AConstant making) known k = read making k
    objects o name (AnEnum items) known k = failed L NoMember at
    objects o name (AClass class) known k = plain L at tt
    objects o name (AnOuterFunction owner) known k = failed L NoMember at
    objects o name AGlobalFunction known k = failed L NoMember at
    objects o name Unknown known k = failed L NoMember at

    pub meant_given : (self : Value) (name : List ℕ) (meant : Meant) → L.Known m.world self → IsMeant meant → Good L c s m (Ready L s) (meant_value self name meant s m)
    meant_given (Object o) name meant known k = objects o name meant known k
    meant_given Null name meant known k = objectless meant k
    meant_given (Truth b) name meant known k = objectless meant k
    meant_given (Int n) name meant known k = objectless meant k
    meant_given (Str t) name meant known k = objectless meant k
    meant_given (Array a) name meant known k = objectless meant k
    meant_given (Dict a) name meant known k = objectless meant k
    meant_given (Callable a n) name meant known k = objectless meant k
    meant_given (Signal a n) name meant known k = objectless meant k
    meant_given (Class a) name meant known k = objectless meant k
    meant_given (Scene a p) name meant known k = objectless meant k
    meant_given (Weak a) name meant known k = objectless meant k

    pub meant_held : (self : Value) (name : List ℕ) (meant : Meant) → L.Known m.world self → IsMeant meant → Good L c s m (HolderReady s) (meant_holder self name meant s m)
    meant_held self name (AnEnum items) known k = done L at tt
    meant_held self name (AField i) known k = held_by _ (meant_given self name (AField i) known k)
    meant_held self name (AFunction owner is_static) known k = held_by _ (meant_given self name (AFunction owner is_static) known k)
    meant_held self name ANativeMethod known k = held_by _ (meant_given self name ANativeMethod known k)
    meant_held self name ASignal known k = held_by _ (meant_given self name ASignal known k)
    meant_held self name (AConstant making) known k = held_by _ (meant_given self name (AConstant making) known k)
    meant_held self name (AClass class) known k = held_by _ (meant_given self name (AClass class) known k)
    meant_held self name (AnOuterFunction owner) known k = held_by _ (meant_given self name (AnOuterFunction owner) known k)
    meant_held self name AGlobalFunction known k = held_by _ (meant_given self name AGlobalFunction known k)
    meant_held self name Unknown known k = held_by _ (meant_given self name Unknown known k)

    pub meant_called : (self : Value) (name : List ℕ) (meant : Meant) → Ready L s self m → IsMeant meant → Good L c s m (CalleeReady s) (meant_callee self name meant s m)
    meant_called self name (AFunction owner is_static) r k = done L at (function_ready s m self owner name r)
    meant_called self name ANativeMethod r k = done L at r
    meant_called self name (AnOuterFunction owner) r k = done L at tt
    meant_called self name AGlobalFunction r k = done L at tt
    meant_called self name (AField i) r k = called_by _ (meant_given self name (AField i) r.known k)
    meant_called self name ASignal r k = called_by _ (meant_given self name ASignal r.known k)
    meant_called self name (AConstant making) r k = called_by _ (meant_given self name (AConstant making) r.known k)
    meant_called self name (AnEnum items) r k = called_by _ (meant_given self name (AnEnum items) r.known k)
    meant_called self name (AClass class) r k = called_by _ (meant_given self name (AClass class) r.known k)
    meant_called self name Unknown r k = called_by _ (meant_given self name Unknown r.known k)

  -- ---- names

  found_or : (a b : Option Meant) → IsFound a → IsFound b → IsFound (option_or a b)
  found_or None b k l = l
  found_or (Some x) b k l = k

  found_so : (b : Bool) (meant : Meant) → IsMeant meant → IsFound (where_so b meant)
  found_so true meant k = k
  found_so false meant k = tt

  found_class : (o : Option ClassTag) → IsFound (as_class o)
  found_class None = tt
  found_class (Some class) = tt

  found_within : (o : Option Meant) → IsFound o → IsFound (seen_within o)
  found_within None k = tt
  found_within (Some (AField i)) k = tt
  found_within (Some (AFunction owner true)) k = tt
  found_within (Some (AFunction owner false)) k = tt
  found_within (Some ANativeMethod) k = tt
  found_within (Some ASignal) k = tt
  found_within (Some (AConstant making)) k = k
  found_within (Some (AnEnum items)) k = tt
  found_within (Some (AClass class)) k = tt
  found_within (Some (AnOuterFunction owner)) k = tt
  found_within (Some AGlobalFunction) k = tt
  found_within (Some Unknown) k = tt

  meant_or_unknown : (o : Option Meant) → IsFound o → IsMeant (or_unknown o)
  meant_or_unknown None k = tt
  meant_or_unknown (Some meant) k = k

  module _ (project : Project) (lawful : IsLawful project) where
    pub member_found : (class : ClassTag) (name : List ℕ) → IsFound (member_meant project class name)
    member_found class name = found_or (project.member class name) _ (lawful.members class name) (found_so _ ANativeMethod tt)

    outer_found : (classes : List ClassTag) (name : List ℕ) → IsFound (outer_meant project classes name)
    outer_found [] name = tt
    outer_found (class ∷ classes) name = found_or (seen_within (project.member class name)) (outer_meant project classes name) (found_within (project.member class name) (lawful.members class name)) (outer_found classes name)

    pub plain_found : (class : ClassTag) (name : List ℕ) → IsMeant (plain_meant project class name)
    plain_found class name = meant_or_unknown _
        (found_or (member_meant project class name) _ (member_found class name)
        (found_or (outer_meant project (project.enclosing class) name) _ (outer_found (project.enclosing class) name)
        (found_or (as_class (native_class native_classes name)) _ (found_class (native_class native_classes name))
        (found_or (as_class (project.global_class name)) _ (found_class (project.global_class name)) (found_so _ AGlobalFunction tt)))))

    -- ---- plain names

    abbrev LocalIn : World → Option Local → Type 0
    LocalIn w None = Unit {0}
    LocalIn w (Some l) = IsLocal L w l

    local_if : (b : Bool) (w : World) (l : Local) (o : Option Local) → IsLocal L w l → LocalIn w o → LocalIn w (if b then Some l else o)
    local_if true w l o k r = k
    local_if false w l o k r = r

    pub local_found : (w : World) (locals : List Local) (name : List ℕ) → Locals L w locals → LocalIn w (local_of locals name)
    local_found w [] name k = tt
    local_found w (l ∷ ls) name k = local_if (bytes_eq l.name name) w l (local_of ls name) k.0 (local_found w ls name k.1)

    value_of_name : {c : Bool} (h : Here) (m : Moment) (name : List ℕ) (o : Option Local) → At L h m.world → LocalIn m.world o → Good L c (site_of h) m (Ready L (site_of h)) (named_value project o name h m)
    value_of_name h m name (Some l) at k = local at.site l.constant l.value k.0 k.1
    value_of_name h m name None at k = meant_given at.site h.around.self name (meant_by project h name) at.site.self (plain_found h.around.class name)

    pub name_valued : (c : Bool) (name : List ℕ) → Keeps L c (Ready L) (name_value project name)
    name_valued c name h m at = value_of_name h m name (local_of h.locals name) at (local_found m.world h.locals name at.locals)

    holder_of_name : {c : Bool} (h : Here) (m : Moment) (name : List ℕ) (o : Option Local) → At L h m.world → LocalIn m.world o → Good L c (site_of h) m (HolderReady (site_of h)) (named_holder project o name h m)
    holder_of_name h m name (Some l) at k = held_by _ (local at.site l.constant l.value k.0 k.1)
    holder_of_name h m name None at k = meant_held at.site h.around.self name (meant_by project h name) at.site.self (plain_found h.around.class name)

    pub name_held : (c : Bool) (name : List ℕ) → Keeps L c HolderReady (name_holder project name)
    name_held c name h m at = holder_of_name h m name (local_of h.locals name) at (local_found m.world h.locals name at.locals)

    callee_of_name : {c : Bool} (h : Here) (m : Moment) (name : List ℕ) (o : Option Local) → At L h m.world → LocalIn m.world o → Good L c (site_of h) m (CalleeReady (site_of h)) (named_callee project o name h m)
    callee_of_name h m name (Some l) at k = called_by _ (local at.site l.constant l.value k.0 k.1)
    callee_of_name h m name None at k = meant_called at.site h.around.self name (meant_by project h name) (self_ready L at.site) (plain_found h.around.class name)

    pub name_called : (c : Bool) (name : List ℕ) → Keeps L c CalleeReady (name_callee project name)
    name_called c name h m at = callee_of_name h m name (local_of h.locals name) at (local_found m.world h.locals name at.locals)

    -- ---- members

    behind_found : (o : Option ClassTag) (name : List ℕ) → IsFound (meant_behind project o name)
    behind_found None name = tt
    behind_found (Some class) name = member_found class name

    module _ {c : Bool} {s : Site} {m : Moment} (at : AtSite L s m.world) where
      object_given : (o : Option ClassTag) (x : Serial) (name : List ℕ) → L.Known m.world (Object x) → Good L c s m (Ready L s) (object_member project o x name s m)
      object_given None x name k = failed L FreedAccess at
      object_given (Some class) x name k = objects at x name (or_unknown (member_meant project class name)) k (meant_or_unknown (member_meant project class name) (member_found class name))

      pub member_given : (v : Value) (name : List ℕ) → L.Known m.world v → Good L c s m (Ready L s) (member_of project v name s m)
      member_given Null name k = failed L NullAccess at
      member_given (Dict d) name k = given_by L (index_of m.world.cells (Dict d) (Str (encode_utf8_all name))) at (L.index m.world (Dict d) (Str (encode_utf8_all name)) at.fine k (L.plain m.world (Str (encode_utf8_all name)) tt))
      member_given (Object x) name k = object_given (class_in m (Object x)) x name k
      member_given (Class class) name k = objectless at (or_unknown (member_meant project class name)) (meant_or_unknown (member_meant project class name) (member_found class name))
      member_given (Truth b) name k = failed L NoMember at
      member_given (Int n) name k = failed L NoMember at
      member_given (Str t) name k = failed L NoMember at
      member_given (Array a) name k = failed L NoMember at
      member_given (Callable a n) name k = failed L NoMember at
      member_given (Signal a n) name k = failed L NoMember at
      member_given (Scene a p) name k = failed L NoMember at
      member_given (Weak a) name k = failed L NoMember at

      items_given : (items : List (List ℕ × ℤ)) (name : List ℕ) → Good L c s m (Ready L s) (gives_by (item_of items name) s m)
      items_given [] name = failed L NoMember at
      items_given (item ∷ items) name = item_if (bytes_eq item.0 name) item.1 (item_of items name) (items_given items name)
        where
          item_if : (b : Bool) (n : ℤ) (o : Outcome) → Good L c s m (Ready L s) (gives_by o s m) → Good L c s m (Ready L s) (gives_by (if b then Ok (Int n) else o) s m)
          item_if true n o g = plain L at tt
          item_if false n o g = g

      pub member_in_given : (x : Holder) (name : List ℕ) → HolderReady s x m → Good L c s m (Ready L s) (member_in project x name s m)
      member_in_given (OfEnum items) name k = items_given items name
      member_in_given (OfValue v) name k = member_given v name k.known

      holder_given : (o : Option (List (List ℕ × ℤ))) (x : Holder) (name : List ℕ) → HolderReady s x m → Good L c s m (HolderReady s) (holder_by project o x name s m)
      holder_given (Some items) x name k = done L at tt
      holder_given None x name k = held_by _ (member_in_given x name k)

      callee_if : (b : Bool) (v : Value) (name : List ℕ) → Ready L s v m → Good L c s m (CalleeReady s) (callee_by project b v name s m)
      callee_if true v name k = called_by _ (member_given v name k.known)
      callee_if false v name k = done L at k

      callee_given : (x : Holder) (name : List ℕ) → HolderReady s x m → Good L c s m (CalleeReady s) (callee_in project x name s m)
      callee_given (OfEnum items) name k = called_by _ (items_given items name)
      callee_given (OfValue v) name k = callee_if (is_read_first v (meant_behind project (class_behind m v) name)) v name k

    pub member_held : (c : Bool) (place : Place) (of : Given-to Holder) (name : List ℕ) → Keeps L c HolderReady of → Keeps L c HolderReady (member_holder project place of name)
    member_held c place of name k h m at = bind L (of h m) _ (k h m at) (λ x n p r. holder_given p.at (enum_in project (project.knows_enum_at h.around.class place) n x name) x name r)

    pub member_valued : (c : Bool) (of : Given-to Holder) (name : List ℕ) → Keeps L c HolderReady of → Keeps L c (Ready L) (member_value project of name)
    member_valued c of name k h m at = bind L (of h m) _ (k h m at) (λ x n p r. member_in_given p.at x name r)

    pub member_called : (c : Bool) (of : Given-to Holder) (name : List ℕ) → Keeps L c HolderReady of → Keeps L c CalleeReady (member_callee project of name)
    member_called c of name k h m at = bind L (of h m) _ (k h m at) (λ x n p r. callee_given p.at x name r)

    pub member_targeted : (c : Bool) (of : Given-to Value) (name : List ℕ) → Keeps L c (Ready L) of → Keeps L c TargetReady (member_target project of name)
    member_targeted c of name k h m at = bind L (of h m) _ (k h m at) (λ x n p r. done L p.at r)

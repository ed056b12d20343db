-- Operations and calls on values give no steps back, where calls of functions give none.
use Rattle.std.proofs.Common.{ℕ, ℤ, ◌≤◌, Bool, true, false, List, Result}
use Rattle.std.specs.Prelude.{Some, None, Option, Ok, Err, encode_utf8_all}
use Rattle.variant_values.specs.Indexing.{index_of}
use Rattle.variant_values.specs.declared.classes.ClassTag.{ClassTag}
use Rattle.variant_values.specs.declared.values.Serial.{Serial}
use Rattle.variant_values.specs.declared.values.Value.{Value}
use Rattle.variant_values.specs.declared.values.Value.TheVariants as value
use Rattle.variant_values.specs.Changes.{Given}
use Rattle.variant_values.specs.Operators.{Outcome}
use Rattle.script_meaning.specs.State.{Making, Stop, and_then}
use Rattle.script_meaning.specs.Projects.{Project, Meant, AField, AFunction, ANativeMethod, ASignal, AConstant, AnEnum, AClass, AnOuterFunction, AGlobalFunction, Unknown, or_unknown, member_meant}
use Rattle.script_meaning.specs.Meanings.{Site, Moment, Holder, OfValue, OfEnum, gives, gives_by, gives_then}
use Rattle.script_meaning.specs.Members.{constant_read, without_object, of_object, meant_value, object_member, member_of, member_in, holder_by, callee_by, callee_in, as_holder, as_callee, class_in, class_behind, is_read_first, meant_behind, item_of}
use Rattle.gd_bytecode.specs.CodeLaws.{Each}

pub each_then : {A B : Type 0} (P : A → Type 0) (Q : B → Type 0) (o : Result A Stop) (f : A → Result B Stop) → Each P o → ((x : A) → P x → Each Q (f x)) → Each Q (and_then o f)
each_then P Q (Ok x) f h g = g x h
each_then P Q (Err stop) f h g = tt

-- An evaluation that stops, or leaves at most so many steps.
pub record Within {A : Type 0} (l : ℕ) (r : Result (A × Moment) Stop) : Type 0 where
  pub within : Each (λ x. x.1.world.left ≤ l) r

pub bind : {A B : Type 0} (l : ℕ) (r : Result (A × Moment) Stop) (f : A × Moment → Result (B × Moment) Stop) → Within l r → ((x : A × Moment) → x.1.world.left ≤ l → Within l (f x)) → Within l (and_then r f)
bind {A} {B} l (Ok x) f h g = g x h.within
bind {A} {B} l (Err stop) f h g = record { within = tt }

-- ---- values

module _ (l : ℕ) (s : Site) where
  pub gives_in : (v : Value) (m : Moment) → m.world.left ≤ l → Within l (gives v m)
  gives_in v m h = record { within = h }

  pub gives_by_in : (o : Outcome) (m : Moment) → m.world.left ≤ l → Within l (gives_by o s m)
  gives_by_in (Ok v) m h = record { within = h }
  gives_by_in (Err kind) m h = record { within = tt }

  pub gives_then_in : (g : Given) (m : Moment) → m.world.left ≤ l → Within l (gives_then g s m)
  gives_then_in (Ok (v, heap)) m h = record { within = h }
  gives_then_in (Err kind) m h = record { within = tt }

  pub constant_read_in : (making : Making) (m : Moment) → m.world.left ≤ l → Within l (constant_read making s m)
  constant_read_in making m h = gives_then_in _ m h

  without_object_in : (meant : Meant) (m : Moment) → m.world.left ≤ l → Within l (without_object meant s m)
  without_object_in (AField place) m h = record { within = tt }
  without_object_in (AFunction owner is_static) m h = record { within = tt }
  without_object_in ANativeMethod m h = record { within = tt }
  without_object_in ASignal m h = record { within = tt }
  without_object_in (AConstant making) m h = constant_read_in making m h
  without_object_in (AnEnum items) m h = record { within = tt }
  without_object_in (AClass class) m h = record { within = h }
  without_object_in (AnOuterFunction owner) m h = record { within = tt }
  without_object_in AGlobalFunction m h = record { within = tt }
  without_object_in Unknown m h = record { within = tt }

  of_object_in : (o : Serial) (name : List ℕ) (meant : Meant) (m : Moment) → m.world.left ≤ l → Within l (of_object o name meant s m)
  of_object_in o name (AField place) m h = gives_by_in _ m h
  of_object_in o name (AFunction owner is_static) m h = record { within = h }
  of_object_in o name ANativeMethod m h = record { within = h }
  of_object_in o name ASignal m h = record { within = h }
  of_object_in o name (AConstant making) m h = constant_read_in making m h
  of_object_in o name (AnEnum items) m h = record { within = tt }
  of_object_in o name (AClass class) m h = record { within = h }
  of_object_in o name (AnOuterFunction owner) m h = record { within = tt }
  of_object_in o name AGlobalFunction m h = record { within = tt }
  of_object_in o name Unknown m h = record { within = tt }

  pub meant_value_in : (self : Value) (name : List ℕ) (meant : Meant) (m : Moment) → m.world.left ≤ l → Within l (meant_value self name meant s m)
  meant_value_in value.Null name meant m h = without_object_in meant m h
  meant_value_in (value.Bool b) name meant m h = without_object_in meant m h
  meant_value_in (value.Int n) name meant m h = without_object_in meant m h
  meant_value_in (value.Str t) name meant m h = without_object_in meant m h
  meant_value_in (value.Array a) name meant m h = without_object_in meant m h
  meant_value_in (value.Dict d) name meant m h = without_object_in meant m h
  meant_value_in (value.Object o) name meant m h = of_object_in o name meant m h
  meant_value_in (value.Callable o n) name meant m h = without_object_in meant m h
  meant_value_in (value.Signal o n) name meant m h = without_object_in meant m h
  meant_value_in (value.Class c) name meant m h = without_object_in meant m h
  meant_value_in (value.Scene f p) name meant m h = without_object_in meant m h
  meant_value_in (value.Weak o) name meant m h = without_object_in meant m h

  -- ---- members

  as_holder_in : (r : Result (Value × Moment) Stop) → Within l r → Within l (as_holder r)
  as_holder_in (Ok x) h = record { within = h.within }
  as_holder_in (Err stop) h = record { within = tt }

  as_callee_in : (r : Result (Value × Moment) Stop) → Within l r → Within l (as_callee r)
  as_callee_in (Ok x) h = record { within = h.within }
  as_callee_in (Err stop) h = record { within = tt }

  module _ (project : Project) where
    object_member_in : (class : Option ClassTag) (o : Serial) (name : List ℕ) (m : Moment) → m.world.left ≤ l → Within l (object_member project class o name s m)
    object_member_in None o name m h = record { within = tt }
    object_member_in (Some class) o name m h = of_object_in o name (or_unknown (member_meant project class name)) m h

    pub member_of_in : (v : Value) (name : List ℕ) (m : Moment) → m.world.left ≤ l → Within l (member_of project v name s m)
    member_of_in value.Null name m h = record { within = tt }
    member_of_in (value.Bool b) name m h = record { within = tt }
    member_of_in (value.Int n) name m h = record { within = tt }
    member_of_in (value.Str t) name m h = record { within = tt }
    member_of_in (value.Array a) name m h = record { within = tt }
    member_of_in (value.Dict d) name m h = gives_by_in (index_of m.world.cells (value.Dict d) (value.Str (encode_utf8_all name))) m h
    member_of_in (value.Object o) name m h = object_member_in (class_in m (value.Object o)) o name m h
    member_of_in (value.Callable o n) name m h = record { within = tt }
    member_of_in (value.Signal o n) name m h = record { within = tt }
    member_of_in (value.Class c) name m h = without_object_in (or_unknown (member_meant project c name)) m h
    member_of_in (value.Scene f p) name m h = record { within = tt }
    member_of_in (value.Weak o) name m h = record { within = tt }

    pub member_in_in : (of : Holder) (name : List ℕ) (m : Moment) → m.world.left ≤ l → Within l (member_in project of name s m)
    member_in_in (OfValue v) name m h = member_of_in v name m h
    member_in_in (OfEnum items) name m h = gives_by_in (item_of items name) m h

    pub holder_by_in : (items : Option (List (List ℕ × ℤ))) (of : Holder) (name : List ℕ) (m : Moment) → m.world.left ≤ l → Within l (holder_by project items of name s m)
    holder_by_in (Some items) of name m h = record { within = h }
    holder_by_in None of name m h = as_holder_in (member_in project of name s m) (member_in_in of name m h)

    callee_by_in : (reads : Bool) (v : Value) (name : List ℕ) (m : Moment) → m.world.left ≤ l → Within l (callee_by project reads v name s m)
    callee_by_in true v name m h = as_callee_in (member_of project v name s m) (member_of_in v name m h)
    callee_by_in false v name m h = record { within = h }

    pub callee_in_in : (of : Holder) (name : List ℕ) (m : Moment) → m.world.left ≤ l → Within l (callee_in project of name s m)
    callee_in_in (OfValue v) name m h = callee_by_in (is_read_first v (meant_behind project (class_behind m v) name)) v name m h
    callee_in_in (OfEnum items) name m h = as_callee_in (member_in project (OfEnum items) name s m) (member_in_in (OfEnum items) name m h)

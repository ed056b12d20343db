-- Names and members in two worlds that differ in the steps that are left.
use Rattle.std.proofs.Common.{◌≡◌, refl, sym, subst, ℕ, ℤ, List, Option, Some, None, Ok, Err, true, false, Bool}
use Rattle.gd_syntax.specs.declared.fault.Place.{Place}
use Rattle.variant_values.specs.declared.classes.ClassTag.{ClassTag}
use Rattle.variant_values.specs.declared.faults.RunFault.{RunFault}
use Rattle.variant_values.specs.declared.faults.RunFault.TheVariants.{NullAccess, FreedAccess, NoMember}
use Rattle.variant_values.specs.declared.values.Serial.{Serial}
use Rattle.variant_values.specs.declared.values.Value.{Value}
use Rattle.variant_values.specs.declared.values.Value.TheVariants.{Null, Dict, Object, Class}
use Rattle.variant_values.specs.Changes.{Given}
use Rattle.variant_values.specs.Operators.{Outcome}
use Rattle.script_meaning.specs.State.{Local, Making}
use Rattle.script_meaning.specs.Projects.{Project, Meant, AField, AFunction, ANativeMethod, ASignal, AConstant, AClass, AnEnum, AnOuterFunction, AGlobalFunction, or_unknown, member_meant}
use Rattle.script_meaning.specs.Meanings
use Rattle.script_meaning.specs.Meanings.{Here, Site, site_of, Moment, Given-to, At-site, Valued, Holder, OfValue, OfEnum, Callee, Method, Static, Plain, Target, gives, gives_by, gives_then}
use Rattle.script_meaning.specs.Members
use Rattle.script_laws.proofs.TwiceForm.{Carrier, Agrees, bind, gave, failed, later}
use Rattle.script_laws.proofs.TwiceCalls.{Called}

abbrev pub moved : ℕ → Moment → Moment
moved k m = record m { world = later k m.world }

abbrev pub given : {A : Type 0} → Carrier (A × Moment)
given = record { move = λ k x. (x.0, moved k x.1); text = λ x. x.1.world.printed; left = λ x. x.1.world.left }

-- what is the same with k steps more
pub record Twice {A : Type 0} (k : ℕ) (f : Given-to A) : Type 0 where
  pub at : (h : Here) → Called k h.around.call → (m : Moment) → Agrees k given m.world.printed m.world.left (f h m) (f h (moved k m))

-- the same, where no name is looked up
pub record TwiceAt {A : Type 0} (k : ℕ) (f : At-site A) : Type 0 where
  pub at : (s : Site) → Called k s.call → (m : Moment) → Agrees k given m.world.printed m.world.left (f s m) (f s (moved k m))

module _ (k : ℕ) where
  pub twice_by : (o : Outcome) → TwiceAt k (gives_by o)
  twice_by (Ok v) = record { at = λ s c m. gave _ }
  twice_by (Err kind) = record { at = λ s c m. failed kind s.spot m.world }

  pub twice_then : (o : Given) → TwiceAt k (gives_then o)
  twice_then (Ok v) = record { at = λ s c m. gave _ }
  twice_then (Err kind) = record { at = λ s c m. failed kind s.spot m.world }

  pub twice_fails : {A : Type 0} (kind : RunFault) → TwiceAt {A = A} k (Meanings.fails kind)
  twice_fails kind = record { at = λ s c m. failed kind s.spot m.world }

  pub twice_holder : {t : List ℕ} {n : ℕ} {r q : Valued} → Agrees k given t n r q → Agrees k given t n (Members.as_holder r) (Members.as_holder q)
  twice_holder a = bind a (λ x. gave {c = given} (OfValue x.0, x.1))

  pub twice_callee : {t : List ℕ} {n : ℕ} {r q : Valued} → Agrees k given t n r q → Agrees k given t n (Members.as_callee r) (Members.as_callee q)
  twice_callee a = bind a (λ x. gave {c = given} (Plain x.0, x.1))

  -- ---- names

  twice_constant : (making : Making) → TwiceAt k (Members.constant_read making)
  twice_constant making = record { at = λ s c m. (twice_then (making (Meanings.heap_at s m))).at s c m }

  twice_read : (o : Option Making) (v : Value) → TwiceAt k (Members.read_by o v)
  twice_read (Some making) v = twice_constant making
  twice_read None v = record { at = λ s c m. gave _ }

  twice_without : (meant : Meant) → TwiceAt k (Members.without_object meant)
  twice_without (AConstant making) = twice_constant making
  twice_without (AClass class) = record { at = λ s c m. gave _ }
  twice_without meant = record { at = λ s c m. failed NoMember s.spot m.world }

  twice_of_object : (o : Serial) (name : List ℕ) (meant : Meant) → TwiceAt k (Members.of_object o name meant)
  twice_of_object o name (AField i) = record { at = λ s c m. (twice_by _).at s c m }
  twice_of_object o name (AFunction owner is_static) = record { at = λ s c m. gave _ }
  twice_of_object o name ANativeMethod = record { at = λ s c m. gave _ }
  twice_of_object o name ASignal = record { at = λ s c m. gave _ }
  twice_of_object o name meant = record { at = λ s c m. (twice_without meant).at s c m }

  pub twice_meant : (self : Value) (name : List ℕ) (meant : Meant) → TwiceAt k (Members.meant_value self name meant)
  twice_meant (Object o) name meant = record { at = λ s c m. (twice_of_object o name meant).at s c m }
  twice_meant self name meant = record { at = λ s c m. (twice_without meant).at s c m }

  twice_meant_holder : (self : Value) (name : List ℕ) (meant : Meant) → TwiceAt k (Members.meant_holder self name meant)
  twice_meant_holder self name (AnEnum items) = record { at = λ s c m. gave _ }
  twice_meant_holder self name meant = record { at = λ s c m. twice_holder ((twice_meant self name meant).at s c m) }

  twice_meant_callee : (self : Value) (name : List ℕ) (meant : Meant) → TwiceAt k (Members.meant_callee self name meant)
  twice_meant_callee self name (AFunction owner is_static) = record { at = λ s c m. gave _ }
  twice_meant_callee self name ANativeMethod = record { at = λ s c m. gave _ }
  twice_meant_callee self name (AnOuterFunction owner) = record { at = λ s c m. gave _ }
  twice_meant_callee self name AGlobalFunction = record { at = λ s c m. gave _ }
  twice_meant_callee self name meant = record { at = λ s c m. twice_callee ((twice_meant self name meant).at s c m) }

  module _ (P : Project) where
    twice_named : (o : Option Local) (name : List ℕ) → Twice k (Members.named_value P o name)
    twice_named (Some l) name = record { at = λ h c m. (twice_read l.constant l.value).at (site_of h) c m }
    twice_named None name = record { at = λ h c m. (twice_meant h.around.self name (Members.meant_by P h name)).at (site_of h) c m }

    pub twice_name : (name : List ℕ) → Twice k (Members.name_value P name)
    twice_name name = record { at = λ h c m. (twice_named (Members.local_of h.locals name) name).at h c m }

    twice_named_holder : (o : Option Local) (name : List ℕ) → Twice k (Members.named_holder P o name)
    twice_named_holder (Some l) name = record { at = λ h c m. twice_holder ((twice_read l.constant l.value).at (site_of h) c m) }
    twice_named_holder None name = record { at = λ h c m. (twice_meant_holder h.around.self name (Members.meant_by P h name)).at (site_of h) c m }

    pub twice_name_holder : (name : List ℕ) → Twice k (Members.name_holder P name)
    twice_name_holder name = record { at = λ h c m. (twice_named_holder (Members.local_of h.locals name) name).at h c m }

    twice_named_callee : (o : Option Local) (name : List ℕ) → Twice k (Members.named_callee P o name)
    twice_named_callee (Some l) name = record { at = λ h c m. twice_callee ((twice_read l.constant l.value).at (site_of h) c m) }
    twice_named_callee None name = record { at = λ h c m. (twice_meant_callee h.around.self name (Members.meant_by P h name)).at (site_of h) c m }

    pub twice_name_callee : (name : List ℕ) → Twice k (Members.name_callee P name)
    twice_name_callee name = record { at = λ h c m. (twice_named_callee (Members.local_of h.locals name) name).at h c m }

    -- ---- members

    twice_object_member : (class : Option ClassTag) (o : Serial) (name : List ℕ) → TwiceAt k (Members.object_member P class o name)
    twice_object_member None o name = record { at = λ s c m. failed FreedAccess s.spot m.world }
    twice_object_member (Some class) o name = record { at = λ s c m. (twice_of_object o name (or_unknown (member_meant P class name))).at s c m }

    pub twice_member_of : (v : Value) (name : List ℕ) → TwiceAt k (Members.member_of P v name)
    twice_member_of Null name = record { at = λ s c m. failed NullAccess s.spot m.world }
    twice_member_of (Dict d) name = record { at = λ s c m. (twice_by _).at s c m }
    twice_member_of (Object o) name = record { at = λ s c m. (twice_object_member _ o name).at s c m }
    twice_member_of (Class class) name = record { at = λ s c m. (twice_without (or_unknown (member_meant P class name))).at s c m }
    twice_member_of v name = record { at = λ s c m. failed NoMember s.spot m.world }

    twice_member_in : (of : Holder) (name : List ℕ) → TwiceAt k (Members.member_in P of name)
    twice_member_in (OfEnum items) name = record { at = λ s c m. (twice_by _).at s c m }
    twice_member_in (OfValue v) name = twice_member_of v name

    twice_holder_by : (o : Option (List (List ℕ × ℤ))) (of : Holder) (name : List ℕ) → TwiceAt k (Members.holder_by P o of name)
    twice_holder_by (Some items) of name = record { at = λ s c m. gave _ }
    twice_holder_by None of name = record { at = λ s c m. twice_holder ((twice_member_in of name).at s c m) }

    enum_stays : (b : Bool) (m : Moment) (of : Holder) (name : List ℕ) → Members.enum_in P b (moved k m) of name ≡ Members.enum_in P b m of name
    enum_stays true m (OfValue v) name = refl
    enum_stays true m (OfEnum items) name = refl
    enum_stays false m of name = refl

    pub twice_member_holder : (place : Place) (of : Given-to Holder) (name : List ℕ) → Twice k of → Twice k (Members.member_holder P place of name)
    twice_member_holder place of name u = record {
      at = λ h c m. bind (u.at h c m) (λ x.
          let known = P.knows_enum_at h.around.class place in
          subst (λ o. Agrees k given x.1.world.printed x.1.world.left (Members.holder_by P (Members.enum_in P known x.1 x.0 name) x.0 name (site_of h) x.1) (Members.holder_by P o x.0 name (site_of h) (moved k x.1)))
          (sym (enum_stays known x.1 x.0 name)) ((twice_holder_by (Members.enum_in P known x.1 x.0 name) x.0 name).at (site_of h) c x.1));
    }

    pub twice_member_value : (of : Given-to Holder) (name : List ℕ) → Twice k of → Twice k (Members.member_value P of name)
    twice_member_value of name u = record { at = λ h c m. bind (u.at h c m) (λ x. (twice_member_in x.0 name).at (site_of h) c x.1) }

    twice_callee_by : (b : Bool) (v : Value) (name : List ℕ) → TwiceAt k (Members.callee_by P b v name)
    twice_callee_by true v name = record { at = λ s c m. twice_callee ((twice_member_of v name).at s c m) }
    twice_callee_by false v name = record { at = λ s c m. gave _ }

    twice_callee_in : (of : Holder) (name : List ℕ) → TwiceAt k (Members.callee_in P of name)
    twice_callee_in (OfEnum items) name = record { at = λ s c m. twice_callee ((twice_member_in (OfEnum items) name).at s c m) }
    twice_callee_in (OfValue v) name = record { at = λ s c m. (twice_callee_by _ v name).at s c m }

    pub twice_member_callee : (of : Given-to Holder) (name : List ℕ) → Twice k of → Twice k (Members.member_callee P of name)
    twice_member_callee of name u = record { at = λ h c m. bind (u.at h c m) (λ x. (twice_callee_in x.0 name).at (site_of h) c x.1) }

    pub twice_member_target : (of : Given-to Value) (name : List ℕ) → Twice k of → Twice k (Members.member_target P of name)
    twice_member_target of name u = record { at = λ h c m. bind (u.at h c m) (λ x. gave _) }

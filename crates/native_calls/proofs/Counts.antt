-- Arguments of a wrong number are not admitted.
use Rattle.std.proofs.Common.{◌≡◌, ◌∙◌, ℕ, zero, suc, ◌+◌, Bool, true, false, List, [], ◌∷◌, length, Option, Some, None, is_some, refl, ap, arith}
use Rattle.std.specs.Prelude.{if◌then◌else◌, ◌&&◌, nat_le}
use Rattle.std.proofs.Math.Dec.{leb-zero, leb-suc-suc}
use Rattle.variant_values.specs.declared.cells.Cell.{Cell}
use Rattle.variant_values.specs.declared.values.Value.{Value}
use Rattle.native_calls.specs.Table.{NativeType, Params, takes_count, admits, admitted, required_admitted, optional_admitted}

impossible : {A : Type 0} {b : Bool} → b ≡ true → b ≡ false → A
impossible is isnt = cc

and_false : (a b : Bool) → b ≡ false → (a && b) ≡ false
and_false true b h = h
and_false false b h = refl

second_false : (a b : Bool) → a ≡ true → (a && b) ≡ false → b ≡ false
second_false true b is h = h
second_false false b is h = cc

-- where there may be further arguments, none are too many
abbrev bounded : Bool → Bool → Bool
bounded further b = if further then true else b

same_test : (a a' b b' further : Bool) → a ≡ a' → b ≡ b' → (a && bounded further b) ≡ false → (a' && bounded further b') ≡ false
same_test a a' b b' further p q h = ap (λ x. x && bounded further b') (back p) ∙ ap (λ x. a && bounded further x) (back q) ∙ h where
  back : {x y : Bool} → x ≡ y → y ≡ x
  back e = cc

suc_plus : (a m b : ℕ) → nat_le (suc b) (suc a + m) ≡ nat_le b (a + m)
suc_plus a m b = ap (λ n. nat_le (suc b) n) (omega arith) ∙ leb-suc-suc b (a + m)

module _ (cells : List (Option Cell)) where
  optional_out : (further : Option NativeType) (ofs : List NativeType) (vs : List Value) → bounded (is_some further) (nat_le (length vs) (length ofs)) ≡ false → optional_admitted cells further ofs vs ≡ false
  optional_out (Some of) ofs vs h = cc
  optional_out None [] [] h = cc
  optional_out None [] (v ∷ vs) h = refl
  optional_out None (of ∷ ofs) [] h = impossible (leb-zero (suc (length ofs))) h
  optional_out None (of ∷ ofs) (v ∷ vs) h = and_false (admits cells of v) (optional_admitted cells None ofs vs) (optional_out None ofs vs (shorter (leb-suc-suc (length vs) (length ofs)) h)) where
    shorter : {x y : Bool} → x ≡ y → x ≡ false → y ≡ false
    shorter p q = cc

  required_out : (params : Params) (ofs : List NativeType) (vs : List Value) → (nat_le (length ofs) (length vs) && bounded (is_some params.further) (nat_le (length vs) (length ofs + length params.optional))) ≡ false → required_admitted cells params ofs vs ≡ false
  required_out params [] vs h = optional_out params.further params.optional vs (second_false (nat_le zero (length vs)) _ (leb-zero (length vs)) (same_test _ (nat_le zero (length vs)) _ (nat_le (length vs) (length params.optional)) (is_some params.further) refl (ap (λ n. nat_le (length vs) n) (omega arith)) h))
  required_out params (of ∷ ofs) [] h = refl
  required_out params (of ∷ ofs) (v ∷ vs) h = and_false (admits cells of v) (required_admitted cells params ofs vs) (required_out params ofs vs
      (same_test _ (nat_le (length ofs) (length vs)) _ (nat_le (length vs) (length ofs + length params.optional)) (is_some params.further) (leb-suc-suc (length ofs) (length vs)) (suc_plus (length ofs) (length params.optional) (length vs)) h))

pub count_out : (cells : List (Option Cell)) (params : Params) (args : List Value) → takes_count params (length args) ≡ false → admitted cells params args ≡ false
count_out cells params args h = required_out cells params params.required args h

-- What the test of two keys tells.
use Rattle.std.proofs.Common.{◌≡◌, ap, refl, ◌∙◌, ℕ, Bool, true, false, List, [], ◌∷◌}
use Rattle.std.specs.Prelude.{nat_eq}
use Rattle.std.specs.Cmp.{bool_eq_equiv}
use Rattle.std.specs.Cmp.Lexicographic.{pointwise}
use mathlib.Core.Bool.{beq}
use Rattle.std.proofs.lemmas.Bool.{false≢true, and_parts, eqb-true}
use Rattle.std.proofs.lemmas.Bool.Decides.{Decides-int_eq}
use Rattle.std.proofs.lemmas.Cmp.{nat_list_eq_equiv, nat_eq_equiv, int_eq_equiv}
use Rattle.variant_values.specs.declared.values.Key.{Key}
use Rattle.variant_values.specs.declared.values.Key.TheVariants.{Bool as KeyTruth, Int as KeyInt, Str as KeyStr, Object as KeyObject}
use Rattle.variant_values.specs.Keys.{same_key}

pub text_is : (a b : List ℕ) → pointwise nat_eq a b ≡ true → a ≡ b
text_is [] [] h = refl
text_is [] (y ∷ ys) h = absurd (false≢true h)
text_is (x ∷ xs) [] h = absurd (false≢true h)
text_is (x ∷ xs) (y ∷ ys) h =
    let parts = and_parts (nat_eq x y) (pointwise nat_eq xs ys) h in
    ap (λ z. z ∷ xs) (eqb-true x y parts.0) ∙ ap (λ zs. y ∷ zs) (text_is xs ys parts.1)

pub truth_is : (a b : Bool) → beq a b ≡ true → a ≡ b
truth_is true true h = refl
truth_is true false h = absurd (false≢true h)
truth_is false true h = absurd (false≢true h)
truth_is false false h = refl

-- keys that are one are equal
pub same_is : (a b : Key) → same_key a b ≡ true → a ≡ b
same_is (KeyTruth a) (KeyTruth b) h = ap KeyTruth (truth_is a b h)
same_is (KeyTruth a) (KeyInt b) h = absurd (false≢true h)
same_is (KeyTruth a) (KeyStr b) h = absurd (false≢true h)
same_is (KeyTruth a) (KeyObject b) h = absurd (false≢true h)
same_is (KeyInt a) (KeyTruth b) h = absurd (false≢true h)
same_is (KeyInt a) (KeyInt b) h = ap KeyInt ((Decides-int_eq a b).0 h)
same_is (KeyInt a) (KeyStr b) h = absurd (false≢true h)
same_is (KeyInt a) (KeyObject b) h = absurd (false≢true h)
same_is (KeyStr a) (KeyTruth b) h = absurd (false≢true h)
same_is (KeyStr a) (KeyInt b) h = absurd (false≢true h)
same_is (KeyStr a) (KeyStr b) h = ap KeyStr (text_is a b h)
same_is (KeyStr a) (KeyObject b) h = absurd (false≢true h)
same_is (KeyObject a) (KeyTruth b) h = absurd (false≢true h)
same_is (KeyObject a) (KeyInt b) h = absurd (false≢true h)
same_is (KeyObject a) (KeyStr b) h = absurd (false≢true h)
same_is (KeyObject a) (KeyObject b) h = ap (λ n. KeyObject (record { 0 = n })) (eqb-true a.0 b.0 h)

pub same_own : (k : Key) → same_key k k ≡ true
same_own (KeyTruth b) = bool_eq_equiv.refl b
same_own (KeyInt n) = int_eq_equiv.refl n
same_own (KeyStr s) = nat_list_eq_equiv.refl s
same_own (KeyObject s) = nat_eq_equiv.refl s.0

-- Texts as lists of their characters.
use Rattle.std.proofs.Common.{◌≡◌, refl, sym, ap, ◌∙◌, ℕ, Bool, true, false, List}
use Rattle.std.specs.Prelude.{nat_eq}
use Rattle.std.specs.Bool.{Decides}
use Rattle.std.specs.Cmp.Lexicographic.{pointwise}
use Rattle.std.proofs.lemmas.Bool.Decides.{Decides-eqb}
use Rattle.std.proofs.lemmas.Slice.Eq.{slice_eq-Decides}
use Rattle.std.proofs.Math.Utf8.{encodes}
use Rattle.std.specs.Str.{chars, IsUtf8, IsAscii}
use Rattle.std.proofs.lemmas.Str.{chars-IsAscii, encodes-chars}

decided_alike : {P Q : Type 0} (r s : Bool) → Decides r P → Decides s Q → (P → Q) → (Q → P) → r ≡ s
decided_alike true s d e f g = sym (e.1 (f (d.0 refl)))
decided_alike false true d e f g = d.1 (g (e.0 refl))
decided_alike false false d e f g = refl

-- texts are the same where their characters are
pub chars_alike : (xs ys : List ℕ) → IsUtf8 xs → IsUtf8 ys → pointwise nat_eq xs ys ≡ pointwise nat_eq (chars xs) (chars ys)
chars_alike xs ys u v = decided_alike _ _ (slice_eq-Decides Decides-eqb xs ys _ refl) (slice_eq-Decides Decides-eqb (chars xs) (chars ys) _ refl)
    (λ e. ap chars e) (λ e. sym (encodes-chars xs u) ∙ ap encodes e ∙ encodes-chars ys v)

-- a text compared with a word of ASCII characters
pub word_alike : (r : Bool) (bs ws text : List ℕ) → IsUtf8 bs → IsUtf8 ws → IsAscii ws → chars bs ≡ text → r ≡ pointwise nat_eq bs ws → r ≡ pointwise nat_eq text ws
word_alike r bs ws text u v a e h = h ∙ chars_alike bs ws u v ∙ ap (λ t. pointwise nat_eq t (chars ws)) e ∙ ap (λ t. pointwise nat_eq text t) (chars-IsAscii ws a)

-- A front of ASCII characters, in bytes and in characters.
use Rattle.std.proofs.Common.{◌≡◌, ℕ, Bool, true, false, List, [], ◌∷◌, ◌++◌, length, take, drop, refl, sym, ap, ◌∙◌}
use Rattle.std.specs.Prelude.{nat_eq}
use Rattle.std.specs.List.{starts_with}
use Rattle.std.specs.Cmp.Lexicographic.{pointwise}
use Rattle.std.specs.Str.{chars, IsUtf8, IsAscii}
use Rattle.std.proofs.lemmas.Bool.Decides.{Decides-eqb}
use Rattle.std.proofs.lemmas.Slice.Eq.{slice_eq-Decides, starts_is}
use Rattle.std.proofs.Math.Utf8.{encodes}
use Rattle.std.proofs.lemmas.List.{take-append-drop}
use Rattle.std.proofs.lemmas.Str.{chars-IsAscii, encodes-chars, encodes-append, encodes-IsAscii, chars-append, IsUtf8-from_ascii}

both_alike : (r s : Bool) → (r ≡ true → s ≡ true) → (s ≡ true → r ≡ true) → r ≡ s
both_alike true s f g = sym (f refl)
both_alike false true f g = g refl
both_alike false false f g = refl

take_front : (w x : List ℕ) → take (length w) (w ++ x) ≡ w
take_front [] x = refl
take_front (c ∷ w) x = ap (λ t. c ∷ t) (take_front w x)

-- what begins the bytes begins the characters
chars_begin : (bs w text rest : List ℕ) → IsAscii w → chars bs ≡ text → bs ≡ w ++ rest → take (length w) text ≡ w
chars_begin bs w text rest a e h =
    let all : text ≡ w ++ chars rest = sym e ∙ ap chars h ∙ chars-append w rest (IsUtf8-from_ascii w a) ∙ ap (λ t. t ++ chars rest) (chars-IsAscii w a) in
    ap (λ t. take (length w) t) all ∙ take_front w (chars rest)

-- and the other way round
bytes_begin : (bs w text : List ℕ) → IsUtf8 bs → IsAscii w → chars bs ≡ text → take (length w) text ≡ w → bs ≡ w ++ encodes (drop (length w) text)
bytes_begin bs w text u a e h =
    let rest : List ℕ = drop (length w) text in
    sym (encodes-chars bs u) ∙ ap encodes e ∙ ap encodes (sym (take-append-drop (length w) text)) ∙ encodes-append (take (length w) text) rest
    ∙ ap (λ t. encodes t ++ encodes rest) h ∙ ap (λ t. t ++ encodes rest) (encodes-IsAscii w a)

pub fronts_alike : (r : Bool) (bs w text : List ℕ) → IsUtf8 bs → IsAscii w → chars bs ≡ text → r ≡ starts_with nat_eq bs w → r ≡ pointwise nat_eq (take (length w) text) w
fronts_alike r bs w text u a e h =
    let d = starts_is Decides-eqb bs w r h in
    let s = slice_eq-Decides Decides-eqb (take (length w) text) w _ refl in
    both_alike r _ (λ t. s.1 (chars_begin bs w text _ a e (d.0 t))) (λ t. d.1 _ (bytes_begin bs w text u a e (s.0 t)))

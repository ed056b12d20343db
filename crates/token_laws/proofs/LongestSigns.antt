-- The sign that is read is the longest that begins the text.
use Rattle.std.proofs.Common.{◌≡◌, refl, sym, ap, ◌∙◌, ℕ, zero, suc, ◌<◌, ◌≤◌, Bool, true, false, cond, bytes_eq, List, [], ◌∷◌, length, take, Option, Some, None, arith}
use Rattle.std.specs.Prelude.{nat_le, is_some}
use Rattle.std.specs.List.{list_all}
use Rattle.std.proofs.lemmas.Bool.{and_parts}
use Rattle.std.proofs.lemmas.Bool.Decides.{nat_tests}
use Rattle.std.proofs.lemmas.List.{length-take}
use Rattle.gd_syntax.specs.declared.token.Mark.{Mark}
use Rattle.gd_syntax.specs.declared.fault.FaultKind.TheVariants.{BadToken}
use Rattle.gd_syntax.specs.declared.token.Kind.{Kind}
use Rattle.gd_syntax.specs.declared.token.Kind.TheVariants.{Mark as Marked, Name, Int, Text}
use Rattle.gd_syntax.specs.Tokens.{mark_text, signs}
use Rattle.gd_syntax.specs.Spellings.{Found, space, gap, line_end, token, wrong, unended, or_else, sign_at, spelled}
use Rattle.gd_syntax.specs.Longest.{is_sign_text}
use Rattle.token_laws.specs.Laws.{IsSign, IsSignToken}
use Rattle.gd_tokens.proofs.Scans.{spelled_is}

is_short : Mark → Bool
is_short m = nat_le (length (mark_text m)) 3

found_turn : (P : Mark → Bool) (x : Mark) (marks : List Mark) (text : List ℕ) (m : Mark) (b : Bool) → P x ≡ true → cond b (Some x) (spelled marks text) ≡ Some m → (spelled marks text ≡ Some m → P m ≡ true) → P m ≡ true
found_turn P x marks text m true is e others = let same : x ≡ m = cc in ap P (sym same) ∙ is
found_turn P x marks text m false is e others = others e

-- what holds of all marks holds of the one that is found
pub found_passes : (P : Mark → Bool) (marks : List Mark) (text : List ℕ) (m : Mark) → list_all P marks ≡ true → spelled marks text ≡ Some m → P m ≡ true
unfolding spelled
found_passes P [] text m all e = absurd (cc)
found_passes P (x ∷ marks) text m all e =
    let both = and_parts (P x) (list_all P marks) all in
    found_turn P x marks text m (bytes_eq (mark_text x) text) both.0 e (found_passes P marks text m both.1)

signs_short : list_all is_short signs ≡ true
unfolding is_short
signs_short = refl

short_text : (text : List ℕ) (m : Mark) → spelled signs text ≡ Some m → length text ≤ 3
unfolding is_short
short_text text m e =
    let short : nat_le (length (mark_text m)) 3 ≡ true = found_passes is_short signs text m signs_short e in
    let few : length (mark_text m) ≤ 3 = grind (arith, nat_tests) in
    omega (arith, few, ap length (spelled_is signs text m e))

not_some : (o : Option Mark) → ((m : Mark) → o ≡ Some m → ⊥) → is_some o ≡ false
not_some None h = refl
not_some (Some m) h = absurd (h m refl)

past_three : (text : List ℕ) (k : ℕ) → 3 < k → k ≤ length text → is_sign_text (take k text) ≡ false
past_three text k more fits = not_some (spelled signs (take k text)) (λ m e. absurd (omega (arith, more, fits, short_text (take k text) m e, length-take k text)))

pub take_same : (n : ℕ) (text : List ℕ) → take (length (take n text)) text ≡ take n text
take_same zero text = refl
take_same (suc n) [] = refl
take_same (suc n) (c ∷ text) = ap (λ t. c ∷ t) (take_same n text)

-- a sign of at most n characters is the longest of these
record Best (n : ℕ) (text : List ℕ) (size : ℕ) : Type 0 where
  pub fits : size ≤ length text
  pub spelled : is_sign_text (take size text) ≡ true
  pub longest : (k : ℕ) → size < k → k ≤ n → k ≤ length text → is_sign_text (take k text) ≡ false

last_case : (n : ℕ) (text : List ℕ) (size k : ℕ) → spelled signs (take (suc n) text) ≡ None → ((k : ℕ) → size < k → k ≤ n → k ≤ length text → is_sign_text (take k text) ≡ false)
    → size < k → k ≤ suc n → k ≤ length text → (inner : Bool) → nat_le k n ≡ inner → is_sign_text (take k text) ≡ false
last_case n text size k none longest more few fits true is = longest k more (grind (arith, nat_tests)) fits
last_case n text size k none longest more few fits false is =
    let last : k ≡ suc n = grind (arith, nat_tests) in
    ap (λ j. is_sign_text (take j text)) last ∙ ap is_some none

last_turn : (n : ℕ) (text : List ℕ) (size k : ℕ) → spelled signs (take (suc n) text) ≡ None → ((k : ℕ) → size < k → k ≤ n → k ≤ length text → is_sign_text (take k text) ≡ false)
    → size < k → k ≤ suc n → k ≤ length text → is_sign_text (take k text) ≡ false
last_turn n text size k none longest more few fits = last_case n text size k none longest more few fits (nat_le k n) refl

-- what `sign_at` gives where signs of at most n characters are looked for
IsBestToken : ℕ → List ℕ → Kind → ℕ → Type 0
IsBestToken n text (Marked m) size = Best n text size × (spelled signs (take size text) ≡ Some m)
IsBestToken n text (Name _) size = ⊥
IsBestToken n text (Int _) size = ⊥
IsBestToken n text (Text _) size = ⊥

IsBest : ℕ → List ℕ → Found → Type 0
IsBest n text space = ⊥
IsBest n text (gap k) = ⊥
IsBest n text (line_end k) = ⊥
IsBest n text (token kind size) = IsBestToken n text kind size
IsBest n text (wrong kind k) = (kind ≡ BadToken) × ((k ≡ 0) × ((k : ℕ) → 0 < k → k ≤ n → k ≤ length text → is_sign_text (take k text) ≡ false))
IsBest n text unended = ⊥

token_turn : (n : ℕ) (text : List ℕ) (kind : Kind) (size : ℕ) → spelled signs (take (suc n) text) ≡ None → IsBestToken n text kind size → IsBestToken (suc n) text kind size
unfolding IsBestToken
token_turn n text (Marked m) size is (b, same) = (record { fits = b.fits; spelled = b.spelled; longest = λ k more few fits. last_turn n text size k is b.longest more few fits }, same)
token_turn n text (Name name) size is rest = rest
token_turn n text (Int value) size is rest = rest
token_turn n text (Text value) size is rest = rest

none_turn : (n : ℕ) (text : List ℕ) (found : Found) → spelled signs (take (suc n) text) ≡ None → IsBest n text found → IsBest (suc n) text found
unfolding IsBest
none_turn n text space is rest = rest
none_turn n text (gap k) is rest = rest
none_turn n text (line_end k) is rest = rest
none_turn n text (token kind size) is rest = token_turn n text kind size is rest
none_turn n text (wrong kind k) is (bad, (here, none)) = (bad, (here, λ k more few fits. last_turn n text 0 k is none more few fits))
none_turn n text unended is rest = rest

best_turn : (n : ℕ) (text : List ℕ) (o : Option Mark) → spelled signs (take (suc n) text) ≡ o → IsBest n text (sign_at n text) → IsBest (suc n) text (or_else o (sign_at n text))
unfolding IsBest IsBestToken
best_turn n text None is rest = none_turn n text (sign_at n text) is rest
best_turn n text (Some m) is rest =
    let all : length (take (suc n) text) ≡ length (mark_text m) = ap length (sym (spelled_is signs (take (suc n) text) m is)) in
    let same : spelled signs (take (length (mark_text m)) text) ≡ Some m = ap (λ k. spelled signs (take k text)) (sym all) ∙ ap (spelled signs) (take_same (suc n) text) ∙ is in (
      record {
        fits = omega (arith, all, length-take (suc n) text);
        spelled = ap is_some same;
        longest = λ k more few fits. absurd (omega (arith, all, more, few, fits, length-take (suc n) text));
      },
      same,
    )

best : (n : ℕ) (text : List ℕ) → IsBest n text (sign_at n text)
unfolding sign_at IsBest
best zero text = (refl, (refl, λ k more few fits. absurd (omega (arith, more, few))))
best (suc n) text = best_turn n text (spelled signs (take (suc n) text)) refl (best n text)

after_three : (text : List ℕ) (size k : ℕ) → ((k : ℕ) → size < k → k ≤ 3 → k ≤ length text → is_sign_text (take k text) ≡ false) → size < k → k ≤ length text → (few : Bool) → nat_le k 3 ≡ few → is_sign_text (take k text) ≡ false
after_three text size k longest more fits true is = longest k more (grind (arith, nat_tests)) fits
after_three text size k longest more fits false is = past_three text k (grind (arith, nat_tests)) fits

token_whole : (text : List ℕ) (kind : Kind) (size : ℕ) → IsBestToken 3 text kind size → IsSignToken text kind size
unfolding IsBestToken
token_whole text (Marked m) size (b, same) = (record { fits = b.fits; spelled = b.spelled; longest = λ k more fits. after_three text size k b.longest more fits (nat_le k 3) refl }, same)
token_whole text (Name name) size best = best
token_whole text (Int value) size best = best
token_whole text (Text value) size best = best

whole : (text : List ℕ) (found : Found) → IsBest 3 text found → IsSign text found
unfolding IsBest
whole text space best = best
whole text (gap k) best = best
whole text (line_end k) best = best
whole text (token kind size) best = token_whole text kind size best
whole text (wrong kind k) (bad, (here, none)) = (bad, (here, λ k more fits. after_three text 0 k none more fits (nat_le k 3) refl))
whole text unended best = best

pub longest_sign : (text : List ℕ) → IsSign text (sign_at 3 text)
longest_sign text = whole text (sign_at 3 text) (best 3 text)

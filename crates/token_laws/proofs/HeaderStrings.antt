-- The header passes each string and each comment.
use Rattle.std.proofs.Common.{◌≡◌, refl, sym, ap, ◌∙◌, subst, ℕ, zero, suc, ◌+◌, ◌-◌, ◌==◌, Bool, true, false, cond, not, ◌&&◌, List, [], ◌∷◌, length, take, Option, Some, None, arith}
use Rattle.std.specs.Prelude.{nat_lt, option_map}
use Rattle.std.specs.List.{list_all}
use Rattle.std.proofs.lemmas.Bool.{and_parts, and_from}
use Rattle.std.proofs.lemmas.Bool.Decides.{nat_tests}
use Rattle.unicode_ident.specs.Ident.{is_xid_continue}
use Rattle.gd_syntax.specs.Spellings.{Contents, closed, broken, endless, Piece, begins, behind, code_escape, contents, escape_at, escaped, is_digit, is_quote, is_scalar, letter_escape, line_end_len, number_value, one_on, piece_at, repeats}
use Rattle.gd_syntax.specs.Header.{quoted_len}
use Rattle.token_laws.proofs.HeaderParts.{ascii_not, quote_not, digit_xid}

one_on_is : (c : Contents) (a : List ℕ) (k : ℕ) → one_on c ≡ closed a k → (j : ℕ) × (c ≡ closed a j) × (k ≡ suc j)
one_on_is (closed b j) a k e = let same : b ≡ a = cc e in (j, ap (λ t. closed t j) same, sym (cc e))
one_on_is (broken j) a k e = absurd (cc e)
one_on_is endless a k e = absurd (cc e)

behind_is : (front : List ℕ) (c : Contents) (a : List ℕ) (k : ℕ) → behind front c ≡ closed a k → (b : List ℕ) × (c ≡ closed b k)
behind_is front (closed b j) a k e = let same : j ≡ k = cc e in (b, ap (closed b) same)
behind_is front (broken j) a k e = absurd (cc e)
behind_is front endless a k e = absurd (cc e)

-- a character that neither closes a string nor begins an escape
abbrev is_ordinary : ℕ → ℕ → Bool
is_ordinary quote c = not (c == quote) && not (c == 92)

module _ (quote fewer : ℕ) (quotes : is_quote quote ≡ true) where
  no_quote : (c : ℕ) → is_quote c ≡ false → (b : Bool) → (c == quote) ≡ b → b ≡ false
  no_quote c other false is = refl
  no_quote c other true is = absurd (let e : c ≡ quote = grind (arith, nat_tests) in let h : is_quote c ≡ true = ap is_quote e ∙ quotes in cc)

  word_ordinary : (c : ℕ) → is_xid_continue c ≡ true → is_ordinary quote c ≡ true
  word_ordinary c xid = rw (no_quote c (quote_not c xid) (c == quote) refl, ascii_not c 92 (omega arith) refl xid (c == 92) refl) refl

  hex_ordinary : (text : List ℕ) → list_all (is_digit 16) text ≡ true → list_all (is_ordinary quote) text ≡ true
  hex_ordinary [] all = refl
  hex_ordinary (c ∷ text) all =
      let both = and_parts (is_digit 16 c) (list_all (is_digit 16) text) all in
      and_from (is_ordinary quote c) (list_all (is_ordinary quote) text) (word_ordinary c (digit_xid c 16 (omega arith) both.0)) (hex_ordinary text both.1)

  -- what stands behind the letter of an escape is ordinary
  Follows : List ℕ → Piece → Type 0
  Follows text piece = (r : ℕ) × (piece.size ≡ 2 + r) × (list_all (is_ordinary quote) (take r text) ≡ true)

  none_follow : (text gives : List ℕ) (piece : Piece) → Some (record { gives = gives; size = 2 }) ≡ Some piece → Follows text piece
  unfolding Follows
  none_follow text gives piece e = let same : record { gives = gives; size = 2 } ≡ piece = cc e in (0, sym (ap (λ p. p.size) same), refl)

  code_case : (n : ℕ) (text gives : List ℕ) (piece : Piece) (a b : Bool) → list_all (is_digit 16) (take n text) ≡ a → cond ((b && a) && is_scalar (number_value 16 (take n text))) (Some (record { gives = gives; size = 2 + n })) None ≡ Some piece → Follows text piece
  unfolding Follows
  code_case n text gives piece true b digits e = (n, size_case (b && true) (is_scalar (number_value 16 (take n text))) e, hex_ordinary (take n text) digits)
    where
      size_case : (x y : Bool) → cond (x && y) (Some (record { gives = gives; size = 2 + n })) None ≡ Some piece → piece.size ≡ 2 + n
      size_case true true e = let same : record { gives = gives; size = 2 + n } ≡ piece = cc e in sym (ap (λ p. p.size) same)
      size_case true false e = absurd (cc e)
      size_case false y e = absurd (cc e)
  code_case n text gives piece false true digits e = absurd (cc e)
  code_case n text gives piece false false digits e = absurd (cc e)

  code_follows : (n : ℕ) (text : List ℕ) (piece : Piece) → code_escape n text ≡ Some piece → Follows text piece
  unfolding code_escape
  code_follows n text piece e = code_case n text (number_value 16 (take n text) ∷ []) piece (list_all (is_digit 16) (take n text)) (length (take n text) == n) refl e

  ten_ordinary : (text : List ℕ) → begins (λ d. d == 10) text ≡ true → list_all (is_ordinary quote) (take 1 text) ≡ true
  ten_ordinary [] e = absurd (cc e)
  ten_ordinary (d ∷ text) e =
      let ten : d ≡ 10 = grind (arith, nat_tests) in
      let first : is_ordinary quote d ≡ true = ap (is_ordinary quote) ten ∙ (rw (no_quote 10 refl (10 == quote) refl) refl) in
      and_from (is_ordinary quote d) true first refl

  line_case : (d : ℕ) (text : List ℕ) (piece : Piece) (a b e : Bool) → (d == 10) ≡ a → (d == 13) ≡ b → begins (λ d. d == 10) text ≡ e → nat_lt 0 (cond a 1 (cond (b && e) 2 0)) ≡ true
      → Some (record { gives = []; size = 1 + cond a 1 (cond (b && e) 2 0) }) ≡ Some piece → Follows text piece
  unfolding Follows
  line_case d text piece true b e x y z some is = let same : record { gives = []; size = 2 } ≡ piece = cc is in (0, sym (ap (λ p. p.size) same), refl)
  line_case d text piece false true true x y z some is = let same : record { gives = []; size = 3 } ≡ piece = cc is in (1, sym (ap (λ p. p.size) same), ten_ordinary text z)
  line_case d text piece false true false x y z some is = absurd (cc some)
  line_case d text piece false false e x y z some is = absurd (cc some)

  letter_follows : (text : List ℕ) (o : Option ℕ) (piece : Piece) → letter_escape o ≡ Some piece → Follows text piece
  letter_follows text None piece e = absurd (cc e)
  letter_follows text (Some c) piece e = none_follow text (c ∷ []) piece e

  escape_case : (d : ℕ) (text : List ℕ) (piece : Piece) (a b e : Bool) → nat_lt 0 (line_end_len (d ∷ text)) ≡ e
      → cond a (code_escape 4 text) (cond b (code_escape 6 text) (cond e (Some (record { gives = []; size = 1 + line_end_len (d ∷ text) })) (letter_escape (escaped d)))) ≡ Some piece → Follows text piece
  escape_case d text piece true b e some is = code_follows 4 text piece is
  escape_case d text piece false true e some is = code_follows 6 text piece is
  escape_case d text piece false false true some is = line_case d text piece (d == 10) (d == 13) (begins (λ d. d == 10) text) refl refl refl some is
  escape_case d text piece false false false some is = letter_follows text (escaped d) piece is

  escape_follows : (d : ℕ) (text : List ℕ) (piece : Piece) → escape_at (d ∷ text) ≡ Some piece → Follows text piece
  unfolding escape_at
  escape_follows d text piece e = escape_case d text piece (d == 117) (d == 85) (nat_lt 0 (line_end_len (d ∷ text))) refl e

  -- ---- the length of what is quoted

  abbrev count : ℕ
  count = suc fewer

  abbrev Quoted : List ℕ → ℕ → Type 0
  Quoted text k = quoted_len quote count false text ≡ Some k

  ordinary_on : (c : ℕ) (text : List ℕ) (k : ℕ) → is_ordinary quote c ≡ true → Quoted text k → Quoted (c ∷ text) (suc k)
  unfolding quoted_len
  ordinary_on c text k ordinary h = step (c == quote) (c == 92) ordinary
    where
      step : (a b : Bool) → (not a && not b) ≡ true → cond (not false && (a && repeats quote fewer text)) (Some count) (option_map (λ n. suc n) (quoted_len quote count (not false && b) text)) ≡ Some (suc k)
      step false false e = ap (option_map (λ n. suc n)) h
      step false true e = absurd (cc e)
      step true b e = absurd (cc e)

  escaped_on : (d : ℕ) (text : List ℕ) (k : ℕ) → Quoted text k → quoted_len quote count true (d ∷ text) ≡ Some (suc k)
  unfolding quoted_len
  escaped_on d text k h = ap (option_map (λ n. suc n)) h

  -- the first character of a piece, which closes nothing
  goes_on : (c : ℕ) (text : List ℕ) (k : ℕ) (b : Bool) → repeats quote count (c ∷ text) ≡ false → (c == 92) ≡ b → quoted_len quote count b text ≡ Some k → Quoted (c ∷ text) (suc k)
  unfolding quoted_len
  goes_on c text k b going slash h = step (repeats quote count (c ∷ text)) (c == 92) going (ap (λ x. quoted_len quote count x text) slash ∙ h)
    where
      step : (a d : Bool) → a ≡ false → quoted_len quote count d text ≡ Some k → cond (not false && a) (Some count) (option_map (λ n. suc n) (quoted_len quote count (not false && d) text)) ≡ Some (suc k)
      step false d e h = ap (option_map (λ n. suc n)) h
      step true d e h = absurd (cc e)

  closes : (c : ℕ) (text : List ℕ) → repeats quote count (c ∷ text) ≡ true → Quoted (c ∷ text) count
  unfolding quoted_len
  closes c text shut = step (repeats quote count (c ∷ text)) shut
    where
      step : (a : Bool) → a ≡ true → cond (not false && a) (Some count) (option_map (λ n. suc n) (quoted_len quote count (not false && c == 92) text)) ≡ Some count
      step true e = refl
      step false e = absurd (cc e)

  -- what the scanner makes of a piece
  abbrev Goes : Option Piece → List ℕ → Contents
  Goes o text = elim o as (λ _. Contents) [
    | None ↦ broken 0
    | Some piece ↦ behind piece.gives (one_on (contents quote count (piece.size - 1) text))
  ]

  slash_case : (c d : ℕ) (text a : List ℕ) (k : ℕ) (o : Option Piece) → escape_at (d ∷ text) ≡ o → repeats quote count (c ∷ d ∷ text) ≡ false → (c == 92) ≡ true → Goes o (d ∷ text) ≡ closed a k
      → ((r : ℕ) (b : List ℕ) (j : ℕ) → contents quote count r text ≡ closed b j → list_all (is_ordinary quote) (take r text) ≡ true → Quoted text j) → Quoted (c ∷ d ∷ text) k
  unfolding contents Follows
  slash_case c d text a k None is going slash e more = absurd (cc e)
  slash_case c d text a k (Some piece) is going slash e more =
      let follows = escape_follows d text piece is in
      let r = follows.0 in
      let size : piece.size - 1 ≡ suc r = omega (arith, follows.1) in
      let inner = behind_is piece.gives (one_on (contents quote count (piece.size - 1) (d ∷ text))) a k e in
      let first = one_on_is (contents quote count (piece.size - 1) (d ∷ text)) inner.0 k inner.1 in
      let second = one_on_is (contents quote count r text) inner.0 first.0 (sym (ap (λ n. contents quote count n (d ∷ text)) size) ∙ first.1) in
      let rest = more r inner.0 second.0 second.1 follows.2 in
      subst (Quoted (c ∷ d ∷ text)) (ap suc (sym second.2) ∙ sym first.2) (goes_on c (d ∷ text) (suc second.0) true going slash (escaped_on d text second.0 rest))

  piece_case : (c : ℕ) (text a : List ℕ) (k : ℕ) (b : Bool) → (c == 92) ≡ b → repeats quote count (c ∷ text) ≡ false → Goes (cond b (escape_at text) (Some (record { gives = c ∷ []; size = 1 }))) text ≡ closed a k
      → ((b : List ℕ) (j : ℕ) → contents quote count 0 text ≡ closed b j → Quoted text j)
      → (Goes (escape_at text) text ≡ closed a k → (c == 92) ≡ true → Quoted (c ∷ text) k) → Quoted (c ∷ text) k
  piece_case c text a k true slash going e plain escapes = escapes e slash
  piece_case c text a k false slash going e plain escapes =
      let inner = behind_is (c ∷ []) (one_on (contents quote count 0 text)) a k e in
      let first = one_on_is (contents quote count 0 text) inner.0 k inner.1 in
      subst (Quoted (c ∷ text)) (sym first.2) (goes_on c text first.0 false going slash (plain inner.0 first.0 first.1))

  start_case : (c : ℕ) (text a : List ℕ) (k : ℕ) (shut : Bool) → repeats quote count (c ∷ text) ≡ shut → cond shut (closed [] count) (Goes (piece_at (c ∷ text)) text) ≡ closed a k
      → (repeats quote count (c ∷ text) ≡ false → Goes (piece_at (c ∷ text)) text ≡ closed a k → Quoted (c ∷ text) k) → Quoted (c ∷ text) k
  start_case c text a k true shut e going = let same : count ≡ k = cc e in subst (Quoted (c ∷ text)) same (closes c text shut)
  start_case c text a k false shut e going = going shut e

  pub closed_quoted : (n : ℕ) (text a : List ℕ) (k : ℕ) → contents quote count n text ≡ closed a k → list_all (is_ordinary quote) (take n text) ≡ true → Quoted text k
  unfolding contents piece_at escape_at
  closed_quoted n [] a k e all = absurd (cc e)
  closed_quoted (suc n) (c ∷ text) a k e all =
      let both = and_parts (is_ordinary quote c) (list_all (is_ordinary quote) (take n text)) all in
      let first = one_on_is (contents quote count n text) a k e in
      subst (Quoted (c ∷ text)) (sym first.2) (ordinary_on c text first.0 both.0 (closed_quoted n text a first.0 first.1 both.1))
  closed_quoted zero (c ∷ []) a k e all =
      start_case c [] a k (repeats quote count (c ∷ [])) refl e (λ going goes. piece_case c [] a k (c == 92) refl going goes (λ b j f. closed_quoted zero [] b j f refl) (λ f slash. absurd (cc f)))
  closed_quoted zero (c ∷ d ∷ text) a k e all =
      start_case c (d ∷ text) a k (repeats quote count (c ∷ d ∷ text)) refl e
      (λ going goes. piece_case c (d ∷ text) a k (c == 92) refl going goes (λ b j f. closed_quoted zero (d ∷ text) b j f refl)
      (λ f slash. slash_case c d text a k (escape_at (d ∷ text)) refl going slash f (λ r b j g o. closed_quoted r text b j g o)))

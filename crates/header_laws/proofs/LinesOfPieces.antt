-- Where pieces stand, and what stands between two on one line.
use Rattle.std.proofs.Common.{◌≡◌, ◌⊎◌, inl, inr, refl, sym, ap, ◌∙◌, subst, ℕ, zero, suc, ◌+◌, ◌-◌, ◌≤◌, ◌<◌, ◌==◌, ◌^◌, pos, Bool, true, false, cond, not, ◌&&◌, ◌||◌, List, [], ◌∷◌, ◌++◌, take, drop, Option, Some, None, codes, bytes_eq, arith}
use Rattle.std.specs.Prelude.{nat_lt}
use Rattle.std.specs.List.{list_all, prefix_len}
use Rattle.std.specs.Char.{is_ascii_digit}
use Rattle.std.proofs.lemmas.Bool.{and_parts, and_from}
use Rattle.std.proofs.lemmas.Bool.Decides.{nat_tests}
use Rattle.unicode_ident.specs.Ident.{is_xid_start, is_xid_continue}
use Rattle.gd_syntax.specs.declared.fault.Place.{Place}
use Rattle.gd_syntax.specs.declared.fault.FaultKind.TheVariants.{BadToken, NumberTooLarge, Unsupported}
use Rattle.gd_syntax.specs.declared.fault.Form.TheVariants.{Float}
use Rattle.gd_syntax.specs.declared.token.Token.{Token}
use Rattle.gd_syntax.specs.declared.token.Mark.{Mark}
use Rattle.gd_syntax.specs.declared.token.Mark.TheVariants.{End}
use Rattle.gd_syntax.specs.declared.token.Kind.{Kind}
use Rattle.gd_syntax.specs.declared.token.Kind.TheVariants.{Mark as Marked, Int}
use Rattle.gd_syntax.specs.Tokens.{keywords, signs}
use Rattle.gd_syntax.specs.Spellings.{Found, space, gap, line_end, token, wrong, unended, found_at, begins, Contents, closed, broken, endless, contents, digits_len, float_len, is_blank, is_quote, keyword_or_name, line_end_len, line_len, number_at, number_value, or_else, radix_len, radix_of, repeats, sign_at, spelled, starts_word, string_at, string_of, word_at}
use Rattle.gd_syntax.specs.Layout.{Part, blank, skipped, line_over, read, over, Piece, past, piece_onto, pieces}
use Rattle.token_laws.specs.HeaderNames.{is_blank_piece}
use Rattle.token_laws.proofs.LongestSigns.{found_passes}
use Rattle.header_laws.proofs.CutNames.{past_line}
use Rattle.header_laws.proofs.LaidTokens.{reads}

abbrev pub is_read_part : Part → Bool
is_read_part (read kind) = true
is_read_part _ = false

abbrev pub is_read : Piece → Bool
is_read piece = is_read_part piece.part

abbrev pub is_gap_part : Part → Bool
is_gap_part (blank c) = true
is_gap_part skipped = true
is_gap_part line_over = true
is_gap_part _ = false

abbrev pub is_gap : Piece → Bool
is_gap piece = is_gap_part piece.part

-- ---- the places of pieces

no_piece : (mid : List Piece) (x : Piece) (behind : List Piece) → [] ≡ mid ++ x ∷ behind → ⊥
no_piece [] x behind e = cc e
no_piece (y ∷ mid) x behind e = cc e

from_first : (P : Place → Type 0) (first : Piece) (tail mid : List Piece) (x : Piece) (behind : List Piece) → P first.place → first ∷ tail ≡ mid ++ x ∷ behind → ((rest : List Piece) → tail ≡ rest ++ x ∷ behind → P x.place) → P x.place
from_first P first tail [] x behind p e more = let same : first ≡ x = cc e in subst (λ (y : Piece). P y.place) same p
from_first P first tail (y ∷ mid) x behind p e more = more mid (cc e)

found_hold : (P : Place → Type 0) (found : Found) (place : Place) (c : ℕ) (text : List ℕ) (mid : List Piece) (x : Piece) (behind : List Piece) → P place
    → ((n : ℕ) (rest : List Piece) → pieces n (past place c) text ≡ rest ++ x ∷ behind → P x.place)
    → piece_onto found place c text (λ n. pieces n (past place c) text) ≡ mid ++ x ∷ behind → P x.place
found_hold P space place c text mid x behind p more e = from_first P _ _ mid x behind p e (more 0)
found_hold P (gap n) place c text mid x behind p more e = from_first P _ _ mid x behind p e (more (n - 1))
found_hold P (line_end n) place c text mid x behind p more e = from_first P _ _ mid x behind p e (more (n - 1))
found_hold P (token kind n) place c text mid x behind p more e = from_first P _ _ mid x behind p e (more (n - 1))
found_hold P (wrong kind n) place c text mid x behind p more e = from_first P _ _ mid x behind p e (λ rest h. absurd (no_piece rest x behind h))
found_hold P unended place c text mid x behind p more e = from_first P _ _ mid x behind p e (λ rest h. absurd (no_piece rest x behind h))

-- what holds of a place and goes on from character to character holds of each piece
pieces_hold : (P : Place → Type 0) → ((place : Place) (c : ℕ) → P place → P (past place c)) → (n : ℕ) (place : Place) (text : List ℕ) (mid : List Piece) (x : Piece) (behind : List Piece) → P place → pieces n place text ≡ mid ++ x ∷ behind → P x.place
unfolding pieces
pieces_hold P on n place [] mid x behind p e = from_first P _ _ mid x behind p e (λ rest h. absurd (no_piece rest x behind h))
pieces_hold P on (suc n) place (c ∷ text) mid x behind p e = pieces_hold P on n (past place c) text mid x behind (on place c p) e
pieces_hold P on zero place (c ∷ text) mid x behind p e =
    found_hold P (found_at (c ∷ text)) place c text mid x behind p (λ n rest h. pieces_hold P on n (past place c) text rest x behind (on place c p) h) e

pub pieces_line : (n : ℕ) (place : Place) (text : List ℕ) (mid : List Piece) (x : Piece) (behind : List Piece) → pieces n place text ≡ mid ++ x ∷ behind → place.line ≤ x.place.line
pieces_line n place text mid x behind e = pieces_hold (λ p. place.line ≤ p.line) (λ p c h. let k = past_line p c in omega (arith, h, k)) n place text mid x behind (omega arith) e

column_by : (place : Place) (c : ℕ) (b : Bool) → (c == 10) ≡ b → 1 ≤ place.column → 1 ≤ (past place c).column
column_by place c true e h = rw e (omega arith)
column_by place c false e h = rw e (omega (arith, h))

pub pieces_column : (n : ℕ) (place : Place) (text : List ℕ) (mid : List Piece) (x : Piece) (behind : List Piece) → 1 ≤ place.column → pieces n place text ≡ mid ++ x ∷ behind → 1 ≤ x.place.column
pieces_column n place text mid x behind some e = pieces_hold (λ p. 1 ≤ p.column) (λ p c h. column_by p c (c == 10) refl h) n place text mid x behind some e

-- ---- line ends

end_char : (c : ℕ) (text : List ℕ) (a b e : Bool) → (c == 10) ≡ a → (c == 13) ≡ b → begins (λ d. d == 10) text ≡ e → nat_lt 0 (cond a 1 (cond (b && e) 2 0)) ≡ true → (c ≡ 10) ⊎ (c ≡ 13)
end_char c text true b e i j k h = inl (grind (arith, nat_tests))
end_char c text false true e i j k h = inr (grind (arith, nat_tests))
end_char c text false false e i j k h = absurd (cc h)

chosen : {A : Type 0} (b : Bool) (x y : A) → b ≡ true → cond b x y ≡ x
chosen true x y e = refl
chosen false x y e = absurd (cc)

passed_over : {A : Type 0} (b : Bool) (x y : A) → b ≡ false → cond b x y ≡ y
passed_over true x y e = absurd (cc)
passed_over false x y e = refl

abbrev is_plain_end : ℕ → Bool
is_plain_end c = is_blank c || c == 35

plain_end : (c : ℕ) → (c ≡ 10) ⊎ (c ≡ 13) → (is_blank c ≡ false) × ((c == 35) ≡ false)
plain_end c (inl e) = (ap is_blank e, ap (λ d. d == 35) e)
plain_end c (inr e) = (ap is_blank e, ap (λ d. d == 35) e)

end_found : (c : ℕ) (text : List ℕ) → nat_lt 0 (line_end_len (c ∷ text)) ≡ true → found_at (c ∷ text) ≡ line_end (line_end_len (c ∷ text))
unfolding found_at
end_found c text some =
    let is = plain_end c (end_char c text (c == 10) (c == 13) (begins (λ d. d == 10) text) refl refl refl some) in
    passed_over (is_blank c) _ _ is.0 ∙ passed_over (c == 35) _ _ is.1 ∙ chosen (nat_lt 0 (line_end_len (c ∷ text))) _ _ some

next_line : (place : Place) (c : ℕ) → (c == 10) ≡ true → (past place c).line ≡ place.line + 1
next_line place c e = rw e refl

end_case : (c : ℕ) (text : List ℕ) (place : Place) (a b e : Bool) (mid : List Piece) (x : Piece) (behind : List Piece) → (c == 10) ≡ a → (c == 13) ≡ b → begins (λ d. d == 10) text ≡ e → nat_lt 0 (cond a 1 (cond (b && e) 2 0)) ≡ true
    → pieces (cond a 1 (cond (b && e) 2 0) - 1) (past place c) text ≡ mid ++ x ∷ behind → place.line < x.place.line
unfolding pieces
end_case c text place true b e mid x behind i j k some h =
    let n = next_line place c i in
    let l = pieces_line 0 (past place c) text mid x behind h in
    omega (arith, n, l)
end_case c [] place false true true mid x behind i j k some h = absurd (cc k)
end_case c (d ∷ text) place false true true mid x behind i j k some h =
    let first = past_line place c in
    let n = next_line (past place c) d k in
    let l = pieces_line 0 (past (past place c) d) text mid x behind h in
    omega (arith, first, n, l)
end_case c text place false true false mid x behind i j k some h = absurd (cc some)
end_case c text place false false e mid x behind i j k some h = absurd (cc some)

-- behind a line end each piece is on a later line
after_end : (c : ℕ) (text : List ℕ) (place : Place) (mid : List Piece) (x : Piece) (behind : List Piece) → nat_lt 0 (line_end_len (c ∷ text)) ≡ true → pieces (line_end_len (c ∷ text) - 1) (past place c) text ≡ mid ++ x ∷ behind → place.line < x.place.line
after_end c text place mid x behind some e = end_case c text place (c == 10) (c == 13) (begins (λ d. d == 10) text) mid x behind refl refl refl some e

not_read : (first : Piece) (tail mid : List Piece) (x : Piece) (behind : List Piece) → is_read first ≡ false → is_read x ≡ true → first ∷ tail ≡ mid ++ x ∷ behind → (rest : List Piece) × (tail ≡ rest ++ x ∷ behind)
not_read first tail [] x behind no_read reads_x e = absurd (let same : first ≡ x = cc e in let h = sym no_read ∙ ap is_read same ∙ reads_x in cc h)
not_read first tail (y ∷ mid) x behind no_read reads_x e = (mid, cc e)

some_end : (n : ℕ) → (n == 0) ≡ false → nat_lt 0 n ≡ true
some_end n e = grind (arith, nat_tests)

comment_case : (c : ℕ) (text : List ℕ) (place : Place) (b : Bool) (mid : List Piece) (x : Piece) (behind : List Piece) → (line_end_len (c ∷ text) == 0) ≡ b → is_read x ≡ true
    → ((mid : List Piece) → pieces (line_len text) (past place c) text ≡ mid ++ x ∷ behind → (past place c).line < x.place.line)
    → pieces (cond b (suc (line_len text)) 0) place (c ∷ text) ≡ mid ++ x ∷ behind → place.line < x.place.line
unfolding pieces
comment_case c text place true mid x behind is reads_x more e = let h = more mid e in let k = past_line place c in omega (arith, h, k)
comment_case c text place false mid x behind is reads_x more e =
    let some = some_end (line_end_len (c ∷ text)) is in
    let found = end_found c text some in
    let first : piece_onto (line_end (line_end_len (c ∷ text))) place c text (λ n. pieces n (past place c) text) ≡ mid ++ x ∷ behind = ap (λ f. piece_onto f place c text (λ n. pieces n (past place c) text)) (sym found) ∙ e in
    let rest = not_read (record { part = line_over; place = place }) (pieces (line_end_len (c ∷ text) - 1) (past place c) text) mid x behind refl reads_x first in
    after_end c text place rest.0 x behind some rest.1

-- behind a comment each token is on a later line
after_comment : (text : List ℕ) (place : Place) (mid : List Piece) (x : Piece) (behind : List Piece) → is_read x ≡ true → pieces (line_len text) place text ≡ mid ++ x ∷ behind → place.line < x.place.line
unfolding pieces
after_comment [] place mid x behind reads_x e = absurd (let rest = not_read (record { part = over; place = place }) [] mid x behind refl reads_x e in no_piece rest.0 x behind rest.1)
after_comment (c ∷ text) place mid x behind reads_x e = comment_case c text place (line_end_len (c ∷ text) == 0) mid x behind refl reads_x (λ rest h. after_comment text (past place c) rest x behind reads_x h) e

-- ---- numbers, strings, words and signs: no blank, no gap, and not the file's end

abbrev pub is_end : Kind → Bool
is_end (Marked End) = true
is_end _ = false

IsFull : Found → Type 0
IsFull (token kind n) = is_end kind ≡ false
IsFull (wrong kind n) = Unit {0}
IsFull unended = Unit {0}
IsFull _ = ⊥

not_false : (b : Bool) → not b ≡ true → b ≡ false
not_false false e = refl
not_false true e = absurd (cc e)

parts_on : (value size : ℕ) (a b d : Bool) → IsFull (cond a (wrong BadToken 0) (cond b (wrong (Unsupported Float) 0) (cond d (token (Int (pos value)) size) (wrong NumberTooLarge 0))))
unfolding IsFull
parts_on value size true b d = tt
parts_on value size false true d = tt
parts_on value size false false true = refl
parts_on value size false false false = tt

number_on : (text : List ℕ) → IsFull (number_at text)
unfolding number_at
number_on text =
    let radix = radix_of text in
    let front = radix_len radix in
    let digits = digits_len radix false (drop front text) in
    let size = front + digits in
    let more = cond (radix == 10) (float_len (drop size text)) 0 in
    let value = number_value radix (take digits (drop front text)) in
    parts_on value size (begins is_xid_start (drop (size + more) text)) (nat_lt 0 more) (nat_lt value (2 ^ 63))

string_of_on : (front : ℕ) (c : Contents) → IsFull (string_of front c)
unfolding IsFull
string_of_on front (closed text n) = refl
string_of_on front (broken n) = tt
string_of_on front endless = tt

string_on : (quote : ℕ) (text : List ℕ) → IsFull (string_at quote text)
unfolding string_at
string_on quote text = string_of_on (cond (repeats quote 3 text) 3 1) (contents quote (cond (repeats quote 3 text) 3 1) 0 (drop (cond (repeats quote 3 text) 3 1) text))

keyword_on : (o : Option Mark) (word : List ℕ) → spelled keywords word ≡ o → is_end (keyword_or_name o word) ≡ false
keyword_on None word is = refl
keyword_on (Some m) word is = not_false (is_end (Marked m)) (found_passes (λ m. not (is_end (Marked m))) keywords word m refl is)

word_case : (b : Bool) (x : Found) (kind : Kind) (n : ℕ) → IsFull x → is_end kind ≡ false → IsFull (cond b x (token kind n))
unfolding IsFull
word_case true x kind n h k = h
word_case false x kind n h k = k

word_on : (text : List ℕ) → IsFull (word_at text)
unfolding word_at IsFull
word_on text = word_case (bytes_eq (take (prefix_len is_xid_continue text) text) (codes "r") && begins is_quote (drop (prefix_len is_xid_continue text) text)) _ _ _ tt
    (keyword_on (spelled keywords (take (prefix_len is_xid_continue text) text)) (take (prefix_len is_xid_continue text) text) refl)

sign_turn_on : (k : ℕ) (text : List ℕ) (o : Option Mark) (other : Found) → spelled signs (take (suc k) text) ≡ o → IsFull other → IsFull (or_else o other)
unfolding IsFull
sign_turn_on k text None other is h = h
sign_turn_on k text (Some m) other is h = not_false (is_end (Marked m)) (found_passes (λ m. not (is_end (Marked m))) signs (take (suc k) text) m refl is)

sign_on : (k : ℕ) (text : List ℕ) → IsFull (sign_at k text)
unfolding sign_at IsFull
sign_on zero text = tt
sign_on (suc k) text = sign_turn_on k text (spelled signs (take (suc k) text)) (sign_at k text) refl (sign_on k text)

full_gap : (found : Found) (n : ℕ) → IsFull found → found ≡ gap n → ⊥
unfolding IsFull
full_gap found n is e = subst IsFull e is

full_end : (found : Found) (n : ℕ) → IsFull found → found ≡ line_end n → ⊥
unfolding IsFull
full_end found n is e = subst IsFull e is

-- a comment, or a join of two lines
abbrev IsGap : List ℕ → ℕ → Type 0
IsGap text n = (n ≡ suc (line_len text)) ⊎ ((nat_lt 0 (line_end_len text) ≡ true) × (n ≡ suc (line_end_len text)))

gap_case : (c : ℕ) (text : List ℕ) (n : ℕ) (b1 b2 b3 b4 b5 b6 b7 : Bool) → (c == 92 && nat_lt 0 (line_end_len text)) ≡ b4
    → cond b1 space (cond b2 (gap (suc (line_len text))) (cond b3 (line_end (line_end_len (c ∷ text))) (cond b4 (gap (suc (line_end_len text)))
    (cond b5 (number_at (c ∷ text)) (cond b6 (string_at c (c ∷ text)) (cond b7 (word_at (c ∷ text)) (sign_at 3 (c ∷ text)))))))) ≡ gap n → IsGap text n
gap_case c text n true b2 b3 b4 b5 b6 b7 i e = absurd (cc e)
gap_case c text n false true b3 b4 b5 b6 b7 i e = inl (cc e)
gap_case c text n false false true b4 b5 b6 b7 i e = absurd (cc e)
gap_case c text n false false false true b5 b6 b7 i e = inr ((and_parts (c == 92) (nat_lt 0 (line_end_len text)) i).1, cc e)
gap_case c text n false false false false true b6 b7 i e = absurd (full_gap (number_at (c ∷ text)) n (number_on (c ∷ text)) e)
gap_case c text n false false false false false true b7 i e = absurd (full_gap (string_at c (c ∷ text)) n (string_on c (c ∷ text)) e)
gap_case c text n false false false false false false true i e = absurd (full_gap (word_at (c ∷ text)) n (word_on (c ∷ text)) e)
gap_case c text n false false false false false false false i e = absurd (full_gap (sign_at 3 (c ∷ text)) n (sign_on 3 (c ∷ text)) e)

gap_found : (c : ℕ) (text : List ℕ) (n : ℕ) → found_at (c ∷ text) ≡ gap n → IsGap text n
unfolding found_at
gap_found c text n e = gap_case c text n (is_blank c) (c == 35) (nat_lt 0 (line_end_len (c ∷ text))) (c == 92 && nat_lt 0 (line_end_len text)) (is_ascii_digit c) (is_quote c) (starts_word c) refl e

line_case : (c : ℕ) (text : List ℕ) (n : ℕ) (b1 b2 b3 b4 b5 b6 b7 : Bool) → nat_lt 0 (line_end_len (c ∷ text)) ≡ b3
    → cond b1 space (cond b2 (gap (suc (line_len text))) (cond b3 (line_end (line_end_len (c ∷ text))) (cond b4 (gap (suc (line_end_len text)))
    (cond b5 (number_at (c ∷ text)) (cond b6 (string_at c (c ∷ text)) (cond b7 (word_at (c ∷ text)) (sign_at 3 (c ∷ text)))))))) ≡ line_end n → (nat_lt 0 (line_end_len (c ∷ text)) ≡ true) × (line_end_len (c ∷ text) ≡ n)
line_case c text n true b2 b3 b4 b5 b6 b7 i e = absurd (cc e)
line_case c text n false true b3 b4 b5 b6 b7 i e = absurd (cc e)
line_case c text n false false true b4 b5 b6 b7 i e = (i, cc e)
line_case c text n false false false true b5 b6 b7 i e = absurd (cc e)
line_case c text n false false false false true b6 b7 i e = absurd (full_end (number_at (c ∷ text)) n (number_on (c ∷ text)) e)
line_case c text n false false false false false true b7 i e = absurd (full_end (string_at c (c ∷ text)) n (string_on c (c ∷ text)) e)
line_case c text n false false false false false false true i e = absurd (full_end (word_at (c ∷ text)) n (word_on (c ∷ text)) e)
line_case c text n false false false false false false false i e = absurd (full_end (sign_at 3 (c ∷ text)) n (sign_on 3 (c ∷ text)) e)

line_found : (c : ℕ) (text : List ℕ) (n : ℕ) → found_at (c ∷ text) ≡ line_end n → (nat_lt 0 (line_end_len (c ∷ text)) ≡ true) × (line_end_len (c ∷ text) ≡ n)
unfolding found_at
line_found c text n e = line_case c text n (is_blank c) (c == 35) (nat_lt 0 (line_end_len (c ∷ text))) (c == 92 && nat_lt 0 (line_end_len text)) (is_ascii_digit c) (is_quote c) (starts_word c) refl e

join_later : (text : List ℕ) (n : ℕ) (place : Place) (mid : List Piece) (x : Piece) (behind : List Piece) → nat_lt 0 (line_end_len text) ≡ true → n ≡ line_end_len text → pieces n place text ≡ mid ++ x ∷ behind → place.line < x.place.line
unfolding pieces
join_later [] n place mid x behind some is e = absurd (cc some)
join_later (d ∷ text) zero place mid x behind some is e = absurd (let h : 0 < line_end_len (d ∷ text) = grind (arith, nat_tests) in omega arith)
join_later (d ∷ text) (suc n) place mid x behind some is e = after_end d text place mid x behind some (ap (λ k. pieces k (past place d) text) (omega (arith, is)) ∙ e)

gap_later : (text : List ℕ) (n : ℕ) (place : Place) (mid : List Piece) (x : Piece) (behind : List Piece) → IsGap text n → is_read x ≡ true → pieces (n - 1) place text ≡ mid ++ x ∷ behind → place.line < x.place.line
gap_later text n place mid x behind (inl is) reads_x e = after_comment text place mid x behind reads_x (ap (λ k. pieces k place text) (omega (arith, is)) ∙ e)
gap_later text n place mid x behind (inr is) reads_x e = join_later text (n - 1) place mid x behind is.0 (omega (arith, is.1)) e

-- ---- blanks

step_blank : (c : ℕ) (text : List ℕ) (place : Place) (y x : Piece) (mid behind : List Piece) (found : Found) → found_at (c ∷ text) ≡ found → is_read x ≡ true → x.place.line ≤ place.line → is_gap y ≡ true
    → (pieces 0 (past place c) text ≡ mid ++ x ∷ behind → list_all is_blank_piece mid ≡ true) → piece_onto found place c text (λ n. pieces n (past place c) text) ≡ y ∷ (mid ++ x ∷ behind) → list_all is_blank_piece (y ∷ mid) ≡ true
step_blank c text place y x mid behind space is reads_x le gap_y more e =
    let head : record { part = blank c; place = place } ≡ y = cc e in
    and_from (is_blank_piece y) (list_all is_blank_piece mid) (sym (ap is_blank_piece head)) (more (cc e))
step_blank c text place y x mid behind (gap n) is reads_x le gap_y more e = absurd (
    let tail : pieces (n - 1) (past place c) text ≡ mid ++ x ∷ behind = cc e in
    let later = gap_later text n (past place c) mid x behind (gap_found c text n is) reads_x tail in
    let k = past_line place c in
    omega (arith, later, k, le)
    )
step_blank c text place y x mid behind (line_end n) is reads_x le gap_y more e = absurd (
    let tail : pieces (n - 1) (past place c) text ≡ mid ++ x ∷ behind = cc e in
    let there = line_found c text n is in
    let later = after_end c text place mid x behind there.0 (ap (λ k. pieces (k - 1) (past place c) text) there.1 ∙ tail) in
    omega (arith, later, le)
    )
step_blank c text place y x mid behind (token kind n) is reads_x le gap_y more e = absurd (
    let head : record { part = read kind; place = place } ≡ y = cc e in
    let h = ap is_gap head ∙ gap_y in
    cc h
    )
step_blank c text place y x mid behind (wrong kind n) is reads_x le gap_y more e = absurd (let tail : [] ≡ mid ++ x ∷ behind = cc e in no_piece mid x behind tail)
step_blank c text place y x mid behind unended is reads_x le gap_y more e = absurd (let tail : [] ≡ mid ++ x ∷ behind = cc e in no_piece mid x behind tail)

-- between a place and a token on its line there are blanks alone, where no other token is
pub only_blanks : (place : Place) (text : List ℕ) (mid : List Piece) (x : Piece) (behind : List Piece) → is_read x ≡ true → x.place.line ≤ place.line → list_all is_gap mid ≡ true → pieces 0 place text ≡ mid ++ x ∷ behind → list_all is_blank_piece mid ≡ true
unfolding pieces
only_blanks place text [] x behind reads_x le gaps e = refl
only_blanks place [] (y ∷ mid) x behind reads_x le gaps e = absurd (let tail : [] ≡ mid ++ x ∷ behind = cc e in no_piece mid x behind tail)
only_blanks place (c ∷ text) (y ∷ mid) x behind reads_x le gaps e =
    let both = and_parts (is_gap y) (list_all is_gap mid) gaps in
    step_blank c text place y x mid behind (found_at (c ∷ text)) refl reads_x le both.0
    (λ h. only_blanks (past place c) text mid x behind reads_x (let k = past_line place c in omega (arith, le, k)) both.1 h) e

-- ---- no piece is the file's end

GoesOn : Found → Type 0
GoesOn (token kind n) = is_end kind ≡ false
GoesOn _ = Unit {0}

full_on : (found : Found) → IsFull found → GoesOn found
unfolding IsFull GoesOn
full_on space full = absurd full
full_on (gap n) full = absurd full
full_on (line_end n) full = absurd full
full_on (token kind n) full = full
full_on (wrong kind n) full = tt
full_on unended full = tt

on_case : (c : ℕ) (text : List ℕ) (b1 b2 b3 b4 b5 b6 b7 : Bool)
    → GoesOn (cond b1 space (cond b2 (gap (suc (line_len text))) (cond b3 (line_end (line_end_len (c ∷ text))) (cond b4 (gap (suc (line_end_len text)))
    (cond b5 (number_at (c ∷ text)) (cond b6 (string_at c (c ∷ text)) (cond b7 (word_at (c ∷ text)) (sign_at 3 (c ∷ text)))))))))
unfolding GoesOn
on_case c text true b2 b3 b4 b5 b6 b7 = tt
on_case c text false true b3 b4 b5 b6 b7 = tt
on_case c text false false true b4 b5 b6 b7 = tt
on_case c text false false false true b5 b6 b7 = tt
on_case c text false false false false true b6 b7 = full_on _ (number_on (c ∷ text))
on_case c text false false false false false true b7 = full_on _ (string_on c (c ∷ text))
on_case c text false false false false false false true = full_on _ (word_on (c ∷ text))
on_case c text false false false false false false false = full_on _ (sign_on 3 (c ∷ text))

found_on : (c : ℕ) (text : List ℕ) → GoesOn (found_at (c ∷ text))
unfolding found_at
found_on c text = on_case c text (is_blank c) (c == 35) (nat_lt 0 (line_end_len (c ∷ text))) (c == 92 && nat_lt 0 (line_end_len text)) (is_ascii_digit c) (is_quote c) (starts_word c)

unfoldable pub Ongoing : List Token → Type 0
Ongoing [] = Unit {0}
Ongoing (t ∷ tokens) = (is_end t.kind ≡ false) × Ongoing tokens

onto_on : (found : Found) (place : Place) (c : ℕ) (text : List ℕ) → GoesOn found → ((n : ℕ) → Ongoing (reads (pieces n (past place c) text))) → Ongoing (reads (piece_onto found place c text (λ n. pieces n (past place c) text)))
unfolding reads Ongoing GoesOn
onto_on space place c text on more = more 0
onto_on (gap n) place c text on more = more (n - 1)
onto_on (line_end n) place c text on more = more (n - 1)
onto_on (token kind n) place c text on more = (on, more (n - 1))
onto_on (wrong kind n) place c text on more = tt
onto_on unended place c text on more = tt

pub reads_on : (n : ℕ) (place : Place) (text : List ℕ) → Ongoing (reads (pieces n place text))
unfolding pieces reads Ongoing
reads_on n place [] = tt
reads_on (suc n) place (c ∷ text) = reads_on n (past place c) text
reads_on zero place (c ∷ text) = onto_on (found_at (c ∷ text)) place c text (found_on c text) (λ n. reads_on n (past place c) text)

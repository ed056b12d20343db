-- The name that is found in the lines of a header, and in the text that goes on behind them.
use Rattle.std.proofs.Common.{◌≡◌, refl, sym, ap, ◌∙◌, subst, ℕ, zero, suc, ◌+◌, ◌-◌, ◌≤◌, ◌<◌, ◌==◌, Bool, true, false, cond, not, ◌&&◌, List, [], ◌∷◌, ◌++◌, length, take, drop, Option, Some, None, codes, option_map, arith}
use Rattle.std.specs.List.{prefix_len}
use Rattle.std.proofs.lemmas.Bool.{and_parts}
use Rattle.std.proofs.lemmas.Bool.Decides.{nat_tests}
use Rattle.std.proofs.lemmas.List.{length-take}
use Rattle.std.proofs.lemmas.Slice.Eq.{bytes_eq-Decides}
use Rattle.unicode_ident.specs.Ident.{is_xid_continue}
use Rattle.unicode_ident.proofs.IdentLemmas.{is_xid_continue-ascii}
use Rattle.gd_syntax.specs.declared.fault.Place.{Place}
use Rattle.gd_syntax.specs.declared.token.Mark.{Mark}
use Rattle.gd_syntax.specs.Tokens.{keywords}
use Rattle.gd_syntax.specs.Spellings.{begins, is_blank, is_quote, line_end_len, line_len, repeats, spelled, starts_word}
use Rattle.gd_syntax.specs.Layout.{past, past_all}
use Rattle.gd_syntax.specs.Header.{Global, Part, passed, keyword, unended, is_class_name, name_behind, name_from, name_in, part_at, quoted_len, string_at, string_part, unless_keyword, word_of, word_part}

-- ---- lines

-- whether a text ends in a line end, where one stands before it or not
abbrev pub ends_line : Bool → List ℕ → Bool
ends_line b [] = b
ends_line b (c ∷ text) = ends_line (c == 10) text

pub line_more : (b : Bool) (u : List ℕ) → ends_line b u ≡ true → ends_line true u ≡ true
line_more b [] e = refl
line_more b (c ∷ u) e = e

is_ten : (c : ℕ) → (c == 10) ≡ true → c ≡ 10
is_ten c e = grind (arith, nat_tests)

chosen : {A : Type 0} (b : Bool) (x y : A) → b ≡ true → cond b x y ≡ x
chosen true x y e = refl
chosen false x y e = absurd (cc)

passed_over : {A : Type 0} (b : Bool) (x y : A) → b ≡ false → cond b x y ≡ y
passed_over true x y e = absurd (cc)
passed_over false x y e = refl

-- ---- places

past_by : (place : Place) (c : ℕ) (b : Bool) → (c == 10) ≡ b → place.line ≤ (past place c).line
past_by place c true e = rw e (omega arith)
past_by place c false e = rw e (omega arith)

pub past_line : (place : Place) (c : ℕ) → place.line ≤ (past place c).line
past_line place c = past_by place c (c == 10) refl

pub past_all_line : (place : Place) (text : List ℕ) → place.line ≤ (past_all place text).line
past_all_line place [] = omega arith
past_all_line place (c ∷ text) = let h = past_line place c in let k = past_all_line (past place c) text in omega (arith, h, k)

column_by : (place : Place) (c : ℕ) (b : Bool) → (c == 10) ≡ b → b ≡ true → (past place c).column ≡ 1
column_by place c true e h = rw e refl
column_by place c false e h = absurd (cc)

-- behind a line end a line begins
pub line_column : (b : Bool) (u : List ℕ) (place : Place) → (b ≡ true → place.column ≡ 1) → ends_line b u ≡ true → (past_all place u).column ≡ 1
line_column b [] place start e = start e
line_column b (c ∷ u) place start e = line_column (c == 10) u (past place c) (column_by place c (c == 10) refl) e

-- ---- fronts

front_case : (p : ℕ → Bool) (c : ℕ) (v : List ℕ) → p 10 ≡ false → (c == 10) ≡ true → prefix_len p (c ∷ v) ≡ 0
front_case p c v none e = let h : p c ≡ false = ap p (is_ten c e) ∙ none in rw h refl

front_more : (p : ℕ → Bool) (c : ℕ) (v w : List ℕ) → prefix_len p v ≡ prefix_len p w → prefix_len p (c ∷ v) ≡ prefix_len p (c ∷ w)
front_more p c v w e = ap (λ n. cond (p c) (1 + n) 0) e

-- what passes no line end stops within the line
prefix_on : (p : ℕ → Bool) (c : ℕ) (u v : List ℕ) → p 10 ≡ false → ends_line (c == 10) u ≡ true → prefix_len p (c ∷ (u ++ v)) ≡ prefix_len p (c ∷ u)
prefix_on p c [] v none e = front_case p c v none e ∙ sym (front_case p c [] none e)
prefix_on p c (d ∷ u) v none e = front_more p c (d ∷ (u ++ v)) (d ∷ u) (prefix_on p d u v none e)

short_by : (p : ℕ → Bool) (c : ℕ) (w : List ℕ) (b : Bool) → prefix_len p w < length w → cond b (1 + prefix_len p w) 0 < suc (length w)
short_by p c w true h = omega (arith, h)
short_by p c w false h = omega arith

prefix_short : (p : ℕ → Bool) (c : ℕ) (u : List ℕ) → p 10 ≡ false → ends_line (c == 10) u ≡ true → prefix_len p (c ∷ u) < length (c ∷ u)
prefix_short p c [] none e = let h = front_case p c [] none e in omega (arith, h)
prefix_short p c (d ∷ u) none e = short_by p c (d ∷ u) (p c) (prefix_short p d u none e)

-- what is left of the line behind so many characters
pub record Cut (n c : ℕ) (u v : List ℕ) : Type 0 where
  pub first : ℕ
  pub rest : List ℕ
  pub front : take n (c ∷ (u ++ v)) ≡ take n (c ∷ u)
  pub cut : drop n (c ∷ u) ≡ first ∷ rest
  pub whole : drop n (c ∷ (u ++ v)) ≡ first ∷ (rest ++ v)
  pub line : ends_line (first == 10) rest ≡ true

cut_at : (n c : ℕ) (u v : List ℕ) → n < length (c ∷ u) → ends_line (c == 10) u ≡ true → Cut n c u v
cut_at zero c u v less e = record { first = c; rest = u; front = refl; cut = refl; whole = refl; line = e }
cut_at (suc n) c [] v less e = absurd (omega arith)
cut_at (suc n) c (d ∷ u) v less e =
    let more = cut_at n d u v (omega arith) e in
    record { first = more.first; rest = more.rest; front = ap (λ t. c ∷ t) more.front; cut = more.cut; whole = more.whole; line = more.line }

-- ---- comments

line_len_by : (c : ℕ) (v w : List ℕ) → line_end_len (c ∷ v) ≡ line_end_len (c ∷ w) → line_len v ≡ line_len w → line_len (c ∷ v) ≡ line_len (c ∷ w)
line_len_by c v w e h = rw (e, h) refl

ten_len : (c : ℕ) (v : List ℕ) → (c == 10) ≡ true → line_len (c ∷ v) ≡ 0
ten_len c v e = rw e refl

comment_on : (c : ℕ) (u v : List ℕ) → ends_line (c == 10) u ≡ true → line_len (c ∷ (u ++ v)) ≡ line_len (c ∷ u)
comment_on c [] v e = ten_len c v e ∙ sym (ten_len c [] e)
comment_on c (d ∷ u) v e = line_len_by c (d ∷ (u ++ v)) (d ∷ u) refl (comment_on d u v e)

-- ---- strings

quote_ten : (quote c : ℕ) (b : Bool) → is_quote quote ≡ true → (c == 10) ≡ true → (c == quote) ≡ b → b ≡ false
quote_ten quote c false is e h = refl
quote_ten quote c true is e h = absurd (
    let ten : c ≡ 10 = is_ten c e in
    let same : c ≡ quote = grind (arith, nat_tests) in
    let h = sym (ap is_quote (sym same ∙ ten)) ∙ is in
    cc h
    )

repeats_ten : (quote n c : ℕ) (v : List ℕ) → is_quote quote ≡ true → (c == 10) ≡ true → repeats quote (suc n) (c ∷ v) ≡ false
repeats_ten quote n c v is e = rw (quote_ten quote c (c == quote) is e refl) refl

repeats_on : (quote n c : ℕ) (u v : List ℕ) → is_quote quote ≡ true → ends_line (c == 10) u ≡ true → repeats quote n (c ∷ (u ++ v)) ≡ repeats quote n (c ∷ u)
repeats_on quote zero c u v is e = refl
repeats_on quote (suc n) c [] v is e = repeats_ten quote n c v is e ∙ sym (repeats_ten quote n c [] is e)
repeats_on quote (suc n) c (d ∷ u) v is e = ap (λ b. (c == quote) && b) (repeats_on quote n d u v is e)

-- A string is closed within the line, or behind it, or nowhere.
pub data Quoted (most : ℕ) (cut whole : Option ℕ) : Type 0 where
  same : whole ≡ cut → Quoted most cut whole
  beyond : (k : ℕ) → most ≤ k → cut ≡ None → whole ≡ Some k → Quoted most cut whole

quoted_none : (most : ℕ) (whole : Option ℕ) → most ≡ 0 → Quoted most None whole
quoted_none most None none = Quoted.same refl
quoted_none most (Some k) none = Quoted.beyond k (omega arith) refl refl

quoted_more : (most count : ℕ) (cut whole : Option ℕ) (b : Bool) → Quoted most cut whole → Quoted (suc most) (cond b (Some count) (option_map (λ n. suc n) cut)) (cond b (Some count) (option_map (λ n. suc n) whole))
quoted_more most count cut whole true h = Quoted.same refl
quoted_more most count cut whole false (Quoted.same e) = Quoted.same (ap (option_map (λ n. suc n)) e)
quoted_more most count cut whole false (Quoted.beyond k le e h) = Quoted.beyond (suc k) (omega (arith, le)) (ap (option_map (λ n. suc n)) e) (ap (option_map (λ n. suc n)) h)

quoted_on : (quote count : ℕ) (escaped : Bool) (u v : List ℕ) → is_quote quote ≡ true → ends_line true u ≡ true → Quoted (length u) (quoted_len quote count escaped u) (quoted_len quote count escaped (u ++ v))
unfolding quoted_len
quoted_on quote count escaped [] v is e = quoted_none 0 (quoted_len quote count escaped v) refl
quoted_on quote count escaped (c ∷ u) v is e =
    let more = quoted_on quote count (not escaped && c == 92) u v is (line_more (c == 10) u e) in
    let test = repeats_on quote count c u v is e in
    let whole = quoted_len quote count (not escaped && c == 92) (u ++ v) in
    subst (λ b. Quoted (length (c ∷ u)) (quoted_len quote count escaped (c ∷ u)) (cond (not escaped && b) (Some count) (option_map (λ n. suc n) whole))) (sym test)
    (quoted_more (length u) count (quoted_len quote count (not escaped && c == 92) u) whole (not escaped && repeats quote count (c ∷ u)) more)

-- ---- the name

-- The cut text gives the same name, or none where the whole gives none that stands before this line.
pub data Agree (line : ℕ) (cut whole : Option Global) : Type 0 where
  same : cut ≡ whole → Agree line cut whole
  later : cut ≡ None → ((g : Global) → whole ≡ Some g → line ≤ g.place.line) → Agree line cut whole

named_line : (o : Option Mark) (b : Bool) (word : List ℕ) (place there : Place) (g : Global) → place.line ≤ there.line → cond b (unless_keyword o (record { name = word; place = there })) None ≡ Some g → place.line ≤ g.place.line
named_line o false word place there g le e = absurd (cc e)
named_line (Some m) true word place there g le e = absurd (cc e)
named_line None true word place there g le e = let is : record { name = word; place = there } ≡ g = cc e in subst (λ (h : Global). place.line ≤ h.place.line) is le

behind_line : (place : Place) (text : List ℕ) (g : Global) → name_behind place text ≡ Some g → place.line ≤ g.place.line
behind_line place text g e =
    let n = prefix_len is_blank text in
    named_line (spelled keywords (word_of (drop n text))) (begins starts_word (drop n text)) (word_of (drop n text)) place (past_all place (take n text)) g (past_all_line place (take n text)) e

in_line : (part : Part) (place : Place) (text : List ℕ) (behind : ℕ → Option Global) (g : Global) → ((n : ℕ) → behind n ≡ Some g → place.line ≤ g.place.line) → name_in part place text behind ≡ Some g → place.line ≤ g.place.line
in_line (passed n) place text behind g more e = more (n - 1) e
in_line keyword place text behind g more e =
    let here = past_all place (take (length (codes "class_name")) text) in
    let a = past_all_line place (take (length (codes "class_name")) text) in
    let b = behind_line here (drop (length (codes "class_name")) text) g e in
    omega (arith, a, b)
in_line unended place text behind g more e = absurd (cc e)

pub name_line : (n : ℕ) (place : Place) (text : List ℕ) (g : Global) → name_from n place text ≡ Some g → place.line ≤ g.place.line
unfolding name_from
name_line n place [] g e = absurd (cc e)
name_line (suc n) place (c ∷ text) g e = let a = past_line place c in let b = name_line n (past place c) text g e in omega (arith, a, b)
name_line zero place (c ∷ text) g e =
    in_line (part_at (c ∷ text)) place (c ∷ text) (λ n. name_from n (past place c) text) g (λ n h. let a = past_line place c in let b = name_line n (past place c) text g h in omega (arith, a, b)) e

skip_line : (n : ℕ) (place : Place) (u v : List ℕ) (g : Global) → length u ≤ n → name_from n place (u ++ v) ≡ Some g → (past_all place u).line ≤ g.place.line
unfolding name_from
skip_line n place [] v g le e = name_line n place v g e
skip_line zero place (c ∷ u) v g le e = absurd (omega arith)
skip_line (suc n) place (c ∷ u) v g le e = skip_line n (past place c) u v g (omega arith) e

none_on : (line : ℕ) (whole : Option Global) → whole ≡ None → Agree line None whole
none_on line whole e = Agree.same (sym e)

-- ---- words

word_on : (c : ℕ) (u v : List ℕ) → ends_line (c == 10) u ≡ true → word_of (c ∷ (u ++ v)) ≡ word_of (c ∷ u)
word_on c u v e =
    let none : is_xid_continue 10 ≡ false = is_xid_continue-ascii 10 (omega arith) in
    let size = prefix_on is_xid_continue c u v none e in
    let cut = cut_at (prefix_len is_xid_continue (c ∷ u)) c u v (prefix_short is_xid_continue c u none e) e in
    ap (λ n. take n (c ∷ (u ++ v))) size ∙ cut.front

-- the name behind so many blanks
abbrev named_at : ℕ → Place → List ℕ → Option Global
named_at n place text =
    cond (begins starts_word (drop n text)) (unless_keyword (spelled keywords (word_of (drop n text))) (record { name = word_of (drop n text); place = past_all place (take n text) })) None

abbrev name_of : List ℕ → List ℕ → Place → Option Global
name_of rest word place = cond (begins starts_word rest) (unless_keyword (spelled keywords word) (record { name = word; place = place })) None

behind_on : (place : Place) (c : ℕ) (u v : List ℕ) → ends_line (c == 10) u ≡ true → name_behind place (c ∷ (u ++ v)) ≡ name_behind place (c ∷ u)
behind_on place c u v e =
    let n = prefix_len is_blank (c ∷ u) in
    let size = prefix_on is_blank c u v refl e in
    let cut = cut_at n c u v (prefix_short is_blank c u refl e) e in
    let word = word_on cut.first cut.rest v cut.line in
    ap (λ k. named_at k place (c ∷ (u ++ v))) size
    ∙ ap (λ t. name_of (drop n (c ∷ (u ++ v))) (word_of (drop n (c ∷ (u ++ v)))) (past_all place t)) cut.front
    ∙ ap (λ t. name_of t (word_of t) (past_all place (take n (c ∷ u)))) cut.whole
    ∙ ap (λ w. name_of (cut.first ∷ cut.rest) w (past_all place (take n (c ∷ u)))) word
    ∙ sym (ap (λ t. name_of t (word_of t) (past_all place (take n (c ∷ u)))) cut.cut)

keyword_on : (place : Place) (c : ℕ) (u v : List ℕ) → ends_line (c == 10) u ≡ true → is_class_name (word_of (c ∷ u)) ≡ true
    → name_behind (past_all place (take 10 (c ∷ (u ++ v)))) (drop 10 (c ∷ (u ++ v))) ≡ name_behind (past_all place (take 10 (c ∷ u))) (drop 10 (c ∷ u))
keyword_on place c u v e is =
    let none : is_xid_continue 10 ≡ false = is_xid_continue-ascii 10 (omega arith) in
    let short = prefix_short is_xid_continue c u none e in
    let word : word_of (c ∷ u) ≡ codes "class_name" = (bytes_eq-Decides (word_of (c ∷ u)) (codes "class_name")).0 is in
    let size : prefix_len is_xid_continue (c ∷ u) ≡ 10 = omega (arith, short, length-take (prefix_len is_xid_continue (c ∷ u)) (c ∷ u), ap length word) in
    let cut = cut_at 10 c u v (omega (arith, short, size)) e in
    let here = past_all place (take 10 (c ∷ u)) in
    ap (λ t. name_behind (past_all place t) (drop 10 (c ∷ (u ++ v)))) cut.front ∙ ap (name_behind here) cut.whole ∙ behind_on here cut.first cut.rest v cut.line ∙ sym (ap (name_behind here) cut.cut)

-- ---- each part

-- what is found behind so many characters
abbrev Behind : Place → ℕ → List ℕ → List ℕ → Type 0
Behind place line u v = (n : ℕ) → Agree line (name_from n place u) (name_from n place (u ++ v))

abbrev at_part : Part → Place → ℕ → List ℕ → Option Global
at_part part place c text = name_in part place (c ∷ text) (λ n. name_from n (past place c) text)

string_by : (count c : ℕ) (place : Place) (u v : List ℕ) (rest : ℕ) (cut whole : Option ℕ) → length u ≤ count + rest - 1 → Quoted rest cut whole → Behind (past place c) (past_all (past place c) u).line u v
    → Agree (past_all (past place c) u).line (at_part (string_part count cut) place c u) (at_part (string_part count whole) place c (u ++ v))
string_by count c place u v rest (Some k) whole le (Quoted.same e) more = rw e (more (count + k - 1))
string_by count c place u v rest None whole le (Quoted.same e) more = rw e (Agree.same refl)
string_by count c place u v rest cut whole le (Quoted.beyond k most none e) more =
    rw (none, e) (Agree.later refl (λ g h. skip_line (count + k - 1) (past place c) u v g (omega (arith, le, most)) h))

string_three : (c : ℕ) (place : Place) (u v : List ℕ) → is_quote c ≡ true → ends_line (c == 10) u ≡ true → repeats c 3 (c ∷ u) ≡ true → Behind (past place c) (past_all (past place c) u).line u v
    → Agree (past_all (past place c) u).line (at_part (string_part 3 (quoted_len c 3 false (drop 3 (c ∷ u)))) place c u) (at_part (string_part 3 (quoted_len c 3 false (drop 3 (c ∷ (u ++ v))))) place c (u ++ v))
string_three c place [] v quote e is more = absurd (let h = (and_parts (c == c) false is).1 in cc h)
string_three c place (d ∷ []) v quote e is more = absurd (let h = (and_parts (d == c) false (and_parts (c == c) (d == c && false) is).1).1 in cc h)
string_three c place (d ∷ f ∷ u) v quote e is more = string_by 3 c place (d ∷ f ∷ u) v (length u) _ _ (omega arith) (quoted_on c 3 false u v quote (line_more (f == 10) u e)) more

string_case : (c : ℕ) (place : Place) (u v : List ℕ) (b : Bool) → is_quote c ≡ true → ends_line (c == 10) u ≡ true → repeats c 3 (c ∷ u) ≡ b → Behind (past place c) (past_all (past place c) u).line u v
    → Agree (past_all (past place c) u).line (at_part (string_part (cond b 3 1) (quoted_len c (cond b 3 1) false (drop (cond b 3 1) (c ∷ u)))) place c u)
    (at_part (string_part (cond b 3 1) (quoted_len c (cond b 3 1) false (drop (cond b 3 1) (c ∷ (u ++ v))))) place c (u ++ v))
string_case c place u v true quote e is more = string_three c place u v quote e is more
string_case c place u v false quote e is more = string_by 1 c place u v (length u) _ _ (omega arith) (quoted_on c 1 false u v quote (line_more (c == 10) u e)) more

string_agrees : (c : ℕ) (place : Place) (u v : List ℕ) → is_quote c ≡ true → ends_line (c == 10) u ≡ true → Behind (past place c) (past_all (past place c) u).line u v
    → Agree (past_all (past place c) u).line (at_part (string_at c (c ∷ u)) place c u) (at_part (string_at c (c ∷ (u ++ v))) place c (u ++ v))
string_agrees c place u v quote e more =
    subst (λ b. Agree (past_all (past place c) u).line (at_part (string_at c (c ∷ u)) place c u) (at_part (string_part (cond b 3 1) (quoted_len c (cond b 3 1) false (drop (cond b 3 1) (c ∷ (u ++ v))))) place c (u ++ v)))
    (sym (repeats_on c 3 c u v quote e)) (string_case c place u v (repeats c 3 (c ∷ u)) quote e refl more)

comment_agrees : (c : ℕ) (place : Place) (u v : List ℕ) → (c == 35) ≡ true → ends_line (c == 10) u ≡ true → Behind (past place c) (past_all (past place c) u).line u v
    → Agree (past_all (past place c) u).line (at_part (passed (suc (line_len u))) place c u) (at_part (passed (suc (line_len (u ++ v)))) place c (u ++ v))
comment_agrees c place [] v hash e more = absurd (let ten : c ≡ 10 = is_ten c e in let is : c ≡ 35 = grind (arith, nat_tests) in omega arith)
comment_agrees c place (d ∷ u) v hash e more =
    subst (λ n. Agree (past_all (past place c) (d ∷ u)).line (at_part (passed (suc (line_len (d ∷ u)))) place c (d ∷ u)) (at_part (passed (suc n)) place c (d ∷ (u ++ v)))) (sym (comment_on d u v e))
    (more (suc (line_len (d ∷ u)) - 1))

word_case : (c : ℕ) (place : Place) (u v : List ℕ) (b : Bool) → is_class_name (word_of (c ∷ u)) ≡ b → ends_line (c == 10) u ≡ true → Behind (past place c) (past_all (past place c) u).line u v
    → Agree (past_all (past place c) u).line (at_part (cond b keyword (passed (length (word_of (c ∷ u))))) place c u) (at_part (cond b keyword (passed (length (word_of (c ∷ u))))) place c (u ++ v))
word_case c place u v true is e more = Agree.same (sym (keyword_on place c u v e is))
word_case c place u v false is e more = more (length (word_of (c ∷ u)) - 1)

word_agrees : (c : ℕ) (place : Place) (u v : List ℕ) → ends_line (c == 10) u ≡ true → Behind (past place c) (past_all (past place c) u).line u v
    → Agree (past_all (past place c) u).line (at_part (word_part (word_of (c ∷ u))) place c u) (at_part (word_part (word_of (c ∷ (u ++ v)))) place c (u ++ v))
word_agrees c place u v e more =
    subst (λ w. Agree (past_all (past place c) u).line (at_part (word_part (word_of (c ∷ u))) place c u) (at_part (word_part w) place c (u ++ v))) (sym (word_on c u v e))
    (word_case c place u v (is_class_name (word_of (c ∷ u))) refl e more)

part_case : (c : ℕ) (place : Place) (u v : List ℕ) (a b d : Bool) → (c == 35) ≡ a → is_quote c ≡ b → ends_line (c == 10) u ≡ true → Behind (past place c) (past_all (past place c) u).line u v
    → Agree (past_all (past place c) u).line (at_part (cond a (passed (suc (line_len u))) (cond b (string_at c (c ∷ u)) (cond d (word_part (word_of (c ∷ u))) (passed 1)))) place c u)
    (at_part (cond a (passed (suc (line_len (u ++ v)))) (cond b (string_at c (c ∷ (u ++ v))) (cond d (word_part (word_of (c ∷ (u ++ v)))) (passed 1)))) place c (u ++ v))
part_case c place u v true b d hash quote e more = comment_agrees c place u v hash e more
part_case c place u v false true d hash quote e more = string_agrees c place u v quote e more
part_case c place u v false false true hash quote e more = word_agrees c place u v e more
part_case c place u v false false false hash quote e more = more 0

cut_from : (n : ℕ) (place : Place) (u v : List ℕ) → ends_line true u ≡ true → Agree (past_all place u).line (name_from n place u) (name_from n place (u ++ v))
unfolding name_from part_at
cut_from n place [] v e = Agree.later refl (λ g h. name_line n place v g h)
cut_from (suc n) place (c ∷ u) v e = cut_from n (past place c) u v (line_more (c == 10) u e)
cut_from zero place (c ∷ u) v e = part_case c place u v (c == 35) (is_quote c) (is_xid_continue c) refl refl e (λ n. cut_from n (past place c) u v (line_more (c == 10) u e))

pub cut_name : (place : Place) (u v : List ℕ) → ends_line true u ≡ true → Agree (past_all place u).line (name_from 0 place u) (name_from 0 place (u ++ v))
cut_name place u v e = cut_from 0 place u v e

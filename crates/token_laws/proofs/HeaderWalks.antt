-- The header finds the first `class_name` that the scanner reads.
use Rattle.std.proofs.Common.{◌≡◌, refl, sym, ap, ◌∙◌, ℕ, zero, suc, ◌-◌, ◌<◌, ◌≤◌, ◌==◌, Bool, true, false, cond, not, List, [], ◌∷◌, ◌++◌, length, take, drop, Option, Some, None, codes, length-drop, arith}
use Rattle.std.specs.List.{list_all, prefix_len}
use Rattle.std.proofs.lemmas.Bool.{and_parts}
use Rattle.std.proofs.lemmas.List.{length-take, take-append-drop}
use Rattle.unicode_ident.specs.Ident.{is_xid_start, is_xid_continue}
use Rattle.gd_syntax.specs.declared.fault.Place.{Place}
use Rattle.gd_syntax.specs.declared.token.Mark.{Mark}
use Rattle.gd_syntax.specs.declared.token.Mark.TheVariants.{ClassName}
use Rattle.gd_syntax.specs.declared.token.Kind.{Kind}
use Rattle.gd_syntax.specs.declared.token.Kind.TheVariants.{Mark as Marked, Name}
use Rattle.gd_syntax.specs.Tokens.{keywords}
use Rattle.gd_syntax.specs.Spellings.{Found, space, gap, line_end, token, wrong, unended, found_at, begins, is_blank, is_quote, keyword_or_name, spelled, starts_word}
use Rattle.gd_syntax.specs.Layout.{Part, blank, skipped, line_over, read, fails, endless, over, Piece, at, past, past_all, piece_onto, pieces, text_of, text_start}
use Rattle.gd_syntax.specs.Header.{Global, header_text, keyword, name_behind, name_from, part_at, unless_keyword, word_of, word_part}
use Rattle.gd_tokens.proofs.Scans.{spelled_is}
use Rattle.token_laws.specs.HeaderNames.{is_word_kind, is_other_piece, is_blank_piece, IsHeaderName}
use Rattle.token_laws.proofs.HeaderParts.{Passed, chosen, passed_over, run_fits}
use Rattle.token_laws.proofs.HeaderFounds.{IsWord, starts_xid, space_step, gap_step, end_step, token_step, gap_some, end_some, token_some, word_found, space_blank}

abbrev is_read_part : Part → Bool
is_read_part (read kind) = true
is_read_part _ = false

abbrev is_fault_part : Part → Bool
is_fault_part (fails fault) = true
is_fault_part endless = true
is_fault_part _ = false

pieces_left : (n : ℕ) (place : Place) (text : List ℕ) → pieces n place text ≡ pieces 0 (past_all place (take n text)) (drop n text)
unfolding pieces
pieces_left zero place text = refl
pieces_left (suc n) place [] = refl
pieces_left (suc n) place (c ∷ text) = pieces_left n (past place c) text

-- the header comes to the place where the scanner reads this piece
pub record Arrives (place : Place) (text : List ℕ) (x : Piece) (behind : List Piece) : Type 0 where
  pub there : Place
  pub rest : List ℕ
  pub same : name_from 0 place text ≡ name_from 0 there rest
  pub here : pieces 0 there rest ≡ x ∷ behind

abbrev Goes : ℕ → List Piece → Piece → List Piece → Type 0
Goes most front x behind = (place : Place) (text : List ℕ) → length text ≤ most → pieces 0 place text ≡ front ++ x ∷ behind → Arrives place text x behind

sized : (c n : ℕ) (text : List ℕ) (place : Place) (x : Piece) (front behind : List Piece) → 1 ≤ n → Passed n (c ∷ text) → pieces (n - 1) (past place c) text ≡ front ++ x ∷ behind → Goes (length text) front x behind → Arrives place (c ∷ text) x behind
sized c zero text place x front behind some passed e more = absurd (omega arith)
sized c (suc m) text place x front behind some passed e more =
    let q = past_all (past place c) (take m text) in
    let first : pieces m (past place c) text ≡ front ++ x ∷ behind = ap (λ k. pieces k (past place c) text) (omega arith) ∙ e in
    let a = more q (drop m text) (omega (arith, length-drop m text)) (sym (pieces_left m (past place c) text) ∙ first) in
    record { there = a.there; rest = a.rest; same = ap (λ t. name_from 0 place (c ∷ t)) (sym (take-append-drop m text)) ∙ passed place ∙ a.same; here = a.here }

not_other : (x y : Piece) → x ≡ y → is_other_piece x ≡ false → is_other_piece y ≡ true → ⊥
not_other x y e false_x true_y = let h : false ≡ true = sym false_x ∙ ap is_other_piece e ∙ true_y in cc h

kind_other : (b : Bool) → not b ≡ true → b ≡ false
kind_other false e = refl
kind_other true e = absurd (cc e)

walk_found : (c : ℕ) (text : List ℕ) (place : Place) (y x : Piece) (front behind : List Piece) (found : Found) → found_at (c ∷ text) ≡ found → piece_onto found place c text (λ n. pieces n (past place c) text) ≡ y ∷ (front ++ x ∷ behind)
    → is_other_piece y ≡ true → Goes (length text) front x behind → Arrives place (c ∷ text) x behind
walk_found c text place y x front behind space is e other more =
    let tail : pieces 0 (past place c) text ≡ front ++ x ∷ behind = cc e in
    let a = more (past place c) text (omega arith) tail in
    record { there = a.there; rest = a.rest; same = space_step c text is place ∙ a.same; here = a.here }
walk_found c text place y x front behind (gap n) is e other more =
    let tail : pieces (n - 1) (past place c) text ≡ front ++ x ∷ behind = cc e in
    sized c n text place x front behind (gap_some c n text is) (gap_step c n text is) tail more
walk_found c text place y x front behind (line_end n) is e other more =
    let tail : pieces (n - 1) (past place c) text ≡ front ++ x ∷ behind = cc e in
    sized c n text place x front behind (end_some c n text is) (end_step c n text is) tail more
walk_found c text place y x front behind (token kind n) is e other more =
    let head : record { part = read kind; place = place } ≡ y = cc e in
    let tail : pieces (n - 1) (past place c) text ≡ front ++ x ∷ behind = cc e in
    let no : is_word_kind kind ≡ false = kind_other (is_word_kind kind) (ap is_other_piece head ∙ other) in
    sized c n text place x front behind (token_some c n text kind is) (token_step c n text kind is no) tail more
walk_found c text place y x front behind (wrong kind n) is e other more = absurd (not_other (record { part = fails (at kind (past_all place (take n (c ∷ text)))); place = place }) y (cc e) refl other)
walk_found c text place y x front behind unended is e other more = absurd (not_other (record { part = endless; place = place }) y (cc e) refl other)

pub walk : (fuel : ℕ) (place : Place) (text : List ℕ) (front : List Piece) (x : Piece) (behind : List Piece) → length text < fuel → pieces 0 place text ≡ front ++ x ∷ behind → list_all is_other_piece front ≡ true → Arrives place text x behind
unfolding pieces
walk fuel place text [] x behind less e all = record { there = place; rest = text; same = refl; here = e }
walk zero place text (y ∷ front) x behind less e all = absurd (omega arith)
walk (suc fuel) place [] (y ∷ front) x behind less e all = absurd (not_other (record { part = over; place = place }) y (cc e) refl (and_parts (is_other_piece y) (list_all is_other_piece front) all).0)
walk (suc fuel) place (c ∷ text) (y ∷ front) x behind less e all =
    let both = and_parts (is_other_piece y) (list_all is_other_piece front) all in
    walk_found c text place y x front behind (found_at (c ∷ text)) refl e both.0 (λ q t few h. walk fuel q t front x behind (omega (arith, less, few)) h both.1)

-- ---- the end

abbrev is_read : Piece → Bool
is_read piece = is_read_part piece.part

abbrev is_fault : Piece → Bool
is_fault piece = is_fault_part piece.part

over_case : (c : ℕ) (text : List ℕ) (place there : Place) (found : Found) (behind : ℕ → List Piece) → piece_onto found place c text behind ≡ record { part = over; place = there } ∷ [] → ⊥
over_case c text place there space behind e = let head : record { part = blank c; place = place } ≡ record { part = over; place = there } = cc e in let h = ap (λ x. is_blank_piece x) head in cc h
over_case c text place there (gap n) behind e = let head : record { part = skipped; place = place } ≡ record { part = over; place = there } = cc e in let h = ap is_other_piece head in cc h
over_case c text place there (line_end n) behind e = let head : record { part = line_over; place = place } ≡ record { part = over; place = there } = cc e in let h = ap is_other_piece head in cc h
over_case c text place there (token kind n) behind e = let head : record { part = read kind; place = place } ≡ record { part = over; place = there } = cc e in let h = ap is_read head in cc h
over_case c text place there (wrong kind n) behind e = let head : record { part = fails (at kind (past_all place (take n (c ∷ text)))); place = place } ≡ record { part = over; place = there } = cc e in let h = ap is_fault head in cc h
over_case c text place there unended behind e = let head : record { part = endless; place = place } ≡ record { part = over; place = there } = cc e in let h = ap is_fault head in cc h

name_over : (place there : Place) (text : List ℕ) → pieces 0 place text ≡ record { part = over; place = there } ∷ [] → name_from 0 place text ≡ None
unfolding pieces name_from
name_over place there [] e = refl
name_over place there (c ∷ text) e = absurd (over_case c text place there (found_at (c ∷ text)) (λ n. pieces n (past place c) text) e)

-- ---- the word

abbrev pub word_piece : Place → Piece
word_piece place = record { part = read (Marked ClassName); place = place }

abbrev pub name_piece : List ℕ → Place → Piece
name_piece word place = record { part = read (Name word); place = place }

-- what the scanner read here is this token
read_case : (c : ℕ) (text : List ℕ) (place there : Place) (kind : Kind) (found : Found) (more : List Piece) (behind : ℕ → List Piece) → piece_onto found place c text behind ≡ record { part = read kind; place = there } ∷ more
    → (n : ℕ) × (found ≡ token kind n) × (place ≡ there) × (behind (n - 1) ≡ more)
read_case c text place there kind space more behind e = absurd (let head : record { part = blank c; place = place } ≡ record { part = read kind; place = there } = cc e in let h = ap is_read head in cc h)
read_case c text place there kind (gap n) more behind e = absurd (let head : record { part = skipped; place = place } ≡ record { part = read kind; place = there } = cc e in let h = ap is_read head in cc h)
read_case c text place there kind (line_end n) more behind e = absurd (let head : record { part = line_over; place = place } ≡ record { part = read kind; place = there } = cc e in let h = ap is_read head in cc h)
read_case c text place there kind (token other n) more behind e =
    let first : Piece = record { part = read other; place = place } in
    let second : Piece = record { part = read kind; place = there } in
    let head : first ≡ second = cc e in
    let part : read other ≡ read kind = ap (λ (x : Piece). x.part) head in
    let same : other ≡ kind = cc part in
    (n, ap (λ k. token k n) same, ap (λ (x : Piece). x.place) head, cc e)
read_case c text place there kind (wrong other n) more behind e = absurd (let head : record { part = fails (at other (past_all place (take n (c ∷ text)))); place = place } ≡ record { part = read kind; place = there } = cc e in let h = ap is_read head in cc h)
read_case c text place there kind unended more behind e = absurd (let head : record { part = endless; place = place } ≡ record { part = read kind; place = there } = cc e in let h = ap is_read head in cc h)

over_no_read : (place there : Place) (kind : Kind) (more : List Piece) → record { part = over; place = place } ∷ [] ≡ record { part = read kind; place = there } ∷ more → ⊥
over_no_read place there kind more e = let head : record { part = over; place = place } ≡ record { part = read kind; place = there } = cc e in let h = ap is_read head in cc h

keyword_is : (o : Option Mark) (word : List ℕ) → keyword_or_name o word ≡ Marked ClassName → o ≡ Some ClassName
keyword_is None word e = absurd (cc e)
keyword_is (Some m) word e = let same : m ≡ ClassName = cc e in ap Some same

name_is : (o : Option Mark) (word name : List ℕ) → keyword_or_name o word ≡ Name name → (o ≡ None) × (word ≡ name)
name_is None word name e = (refl, cc e)
name_is (Some m) word name e = absurd (cc e)

-- the word `class_name` begins the text
spelled_word : (c : ℕ) (text : List ℕ) (n : ℕ) → IsWord c text (Marked ClassName) n → word_of (c ∷ text) ≡ codes "class_name"
spelled_word c text n is = sym (spelled_is keywords (word_of (c ∷ text)) ClassName (keyword_is (spelled keywords (word_of (c ∷ text))) (word_of (c ∷ text)) is.kind_is))

keyword_part : (c : ℕ) (text : List ℕ) (n : ℕ) → IsWord c text (Marked ClassName) n → part_at (c ∷ text) ≡ keyword
unfolding part_at
keyword_part c text n is =
    passed_over (c == 35) _ _ is.hash ∙ passed_over (is_quote c) _ _ is.quote ∙ chosen (is_xid_continue c) _ _ (starts_xid c (is_xid_start c) (c == 95) refl refl is.starts) ∙ ap word_part (spelled_word c text n is)

word_taken : (c : ℕ) (text : List ℕ) (n : ℕ) → IsWord c text (Marked ClassName) n → (n ≡ 10) × (take 10 (c ∷ text) ≡ codes "class_name")
word_taken c text n is =
    let word = spelled_word c text n is in
    let fits = run_fits (c ∷ text) in
    let size : prefix_len is_xid_continue (c ∷ text) ≡ 10 = omega (arith, fits, length-take (prefix_len is_xid_continue (c ∷ text)) (c ∷ text), ap length word) in
    (sym is.size ∙ size, ap (λ k. take k (c ∷ text)) (sym size) ∙ word)

name_at : (place : Place) (c : ℕ) (text : List ℕ) → part_at (c ∷ text) ≡ keyword → name_from 0 place (c ∷ text) ≡ name_behind (past_all place (take 10 (c ∷ text))) (drop 10 (c ∷ text))
unfolding name_from
name_at place c text is = rw is refl

pub word_end : (place there : Place) (text : List ℕ) (behind : List Piece) → pieces 0 place text ≡ word_piece there ∷ behind
    → (rest : List ℕ) × (name_from 0 place text ≡ name_behind (past_all there (codes "class_name")) rest) × (pieces 0 (past_all there (codes "class_name")) rest ≡ behind)
unfolding pieces
word_end place there [] behind e = absurd (over_no_read place there (Marked ClassName) behind e)
word_end place there (c ∷ text) behind e =
    let read_here = read_case c text place there (Marked ClassName) (found_at (c ∷ text)) behind (λ n. pieces n (past place c) text) e in
    let n = read_here.0 in
    let is = word_found c text (Marked ClassName) n read_here.1 refl in
    let taken = word_taken c text n is in
    let here : past_all place (take 10 (c ∷ text)) ≡ past_all there (codes "class_name") = ap (past_all place) taken.1 ∙ ap (λ p. past_all p (codes "class_name")) read_here.2 in
    let tail : pieces 9 (past place c) text ≡ behind = ap (λ k. pieces k (past place c) text) (omega (arith, taken.0)) ∙ read_here.3 in (
      drop 10 (c ∷ text),
      name_at place c text (keyword_part c text n is) ∙ ap (λ p. name_behind p (drop 10 (c ∷ text))) here,
      ap (λ p. pieces 0 p (drop 10 (c ∷ text))) (sym here) ∙ sym (pieces_left 9 (past place c) text) ∙ tail,
    )

-- ---- the blanks, and the name

-- the name behind so many blanks
abbrev named_at : ℕ → Place → List ℕ → Option Global
named_at n place text =
    cond (begins starts_word (drop n text)) (unless_keyword (spelled keywords (word_of (drop n text))) (record { name = word_of (drop n text); place = past_all place (take n text) })) None

blank_on : (place : Place) (c : ℕ) (text : List ℕ) → is_blank c ≡ true → name_behind place (c ∷ text) ≡ name_behind (past place c) text
blank_on place c text is =
    let n : prefix_len is_blank (c ∷ text) ≡ suc (prefix_len is_blank text) = rw is (omega arith) in
    ap (λ k. named_at k place (c ∷ text)) n

not_blank : (x y : Piece) → x ≡ y → is_blank_piece x ≡ false → is_blank_piece y ≡ true → ⊥
not_blank x y e first second = let h : false ≡ true = sym first ∙ ap is_blank_piece e ∙ second in cc h

pub record Comes (place : Place) (text : List ℕ) (x : Piece) (behind : List Piece) : Type 0 where
  pub there : Place
  pub rest : List ℕ
  pub same : name_behind place text ≡ name_behind there rest
  pub here : pieces 0 there rest ≡ x ∷ behind

blank_found : (c : ℕ) (text : List ℕ) (place : Place) (y x : Piece) (blanks behind : List Piece) (found : Found) → found_at (c ∷ text) ≡ found → piece_onto found place c text (λ n. pieces n (past place c) text) ≡ y ∷ (blanks ++ x ∷ behind)
    → is_blank_piece y ≡ true → (pieces 0 (past place c) text ≡ blanks ++ x ∷ behind → Comes (past place c) text x behind) → Comes place (c ∷ text) x behind
blank_found c text place y x blanks behind space is e blanks_first more =
    let a = more (cc e) in
    record { there = a.there; rest = a.rest; same = blank_on place c text (space_blank c text is) ∙ a.same; here = a.here }
blank_found c text place y x blanks behind (gap n) is e blanks_first more = absurd (not_blank (record { part = skipped; place = place }) y (cc e) refl blanks_first)
blank_found c text place y x blanks behind (line_end n) is e blanks_first more = absurd (not_blank (record { part = line_over; place = place }) y (cc e) refl blanks_first)
blank_found c text place y x blanks behind (token kind n) is e blanks_first more = absurd (not_blank (record { part = read kind; place = place }) y (cc e) refl blanks_first)
blank_found c text place y x blanks behind (wrong kind n) is e blanks_first more = absurd (not_blank (record { part = fails (at kind (past_all place (take n (c ∷ text)))); place = place }) y (cc e) refl blanks_first)
blank_found c text place y x blanks behind unended is e blanks_first more = absurd (not_blank (record { part = endless; place = place }) y (cc e) refl blanks_first)

blank_walk : (place : Place) (text : List ℕ) (blanks : List Piece) (x : Piece) (behind : List Piece) → pieces 0 place text ≡ blanks ++ x ∷ behind → list_all is_blank_piece blanks ≡ true → Comes place text x behind
unfolding pieces
blank_walk place text [] x behind e all = record { there = place; rest = text; same = refl; here = e }
blank_walk place [] (y ∷ blanks) x behind e all = absurd (not_blank (record { part = over; place = place }) y (cc e) refl (and_parts (is_blank_piece y) (list_all is_blank_piece blanks) all).0)
blank_walk place (c ∷ text) (y ∷ blanks) x behind e all =
    let both = and_parts (is_blank_piece y) (list_all is_blank_piece blanks) all in
    blank_found c text place y x blanks behind (found_at (c ∷ text)) refl e both.0 (λ h. blank_walk (past place c) text blanks x behind h both.1)

name_here : (place there : Place) (c : ℕ) (text word : List ℕ) (n : ℕ) → place ≡ there → IsWord c text (Name word) n → name_behind place (c ∷ text) ≡ Some (record { name = word; place = there })
name_here place there c text word n same is =
    let none : prefix_len is_blank (c ∷ text) ≡ 0 = rw is.blank refl in
    let parts = name_is (spelled keywords (word_of (c ∷ text))) (word_of (c ∷ text)) word is.kind_is in
    ap (λ k. named_at k place (c ∷ text)) none ∙ chosen (starts_word c) _ _ is.starts
    ∙ ap (λ o. unless_keyword o (record { name = word_of (c ∷ text); place = place })) parts.0
    ∙ ap (λ w. Some (record { name = w; place = place })) parts.1 ∙ ap (λ (p : Place). Some (record { name = word; place = p })) same

name_end : (place there : Place) (text word : List ℕ) (behind : List Piece) → pieces 0 place text ≡ name_piece word there ∷ behind → name_behind place text ≡ Some (record { name = word; place = there })
unfolding pieces
name_end place there [] word behind e = absurd (over_no_read place there (Name word) behind e)
name_end place there (c ∷ text) word behind e =
    let read_here = read_case c text place there (Name word) (found_at (c ∷ text)) behind (λ n. pieces n (past place c) text) e in
    name_here place there c text word read_here.0 read_here.2 (word_found c text (Name word) read_here.0 read_here.1 refl)

-- ---- the law

pub first_name : (text : List ℕ) (front blanks behind : List Piece) (place there : Place) (word : List ℕ) → pieces 0 text_start text ≡ front ++ word_piece place ∷ (blanks ++ name_piece word there ∷ behind)
    → list_all is_other_piece front ≡ true → list_all is_blank_piece blanks ≡ true → name_from 0 text_start text ≡ Some (record { name = word; place = there })
first_name text front blanks behind place there word e all only =
    let a = walk (suc (length text)) text_start text front (word_piece place) (blanks ++ name_piece word there ∷ behind) (omega arith) e all in
    let b = word_end a.there place a.rest (blanks ++ name_piece word there ∷ behind) a.here in
    let d = blank_walk (past_all place (codes "class_name")) b.0 blanks (name_piece word there) behind b.2 only in
    a.same ∙ b.1 ∙ d.same ∙ name_end d.there there d.rest word behind d.here

pub no_name : (text : List ℕ) (front : List Piece) (place : Place) → pieces 0 text_start text ≡ front ++ record { part = over; place = place } ∷ [] → list_all is_other_piece front ≡ true → name_from 0 text_start text ≡ None
no_name text front place e all =
    let a = walk (suc (length text)) text_start text front (record { part = over; place = place }) [] (omega arith) e all in
    a.same ∙ name_over a.there place a.rest a.here

pub header_name : (bytes : List ℕ) → IsHeaderName bytes
header_name bytes = record { name = first_name (header_text (text_of bytes)); none = no_name (header_text (text_of bytes)) }

-- The header gives the name that the heads of the tree give.
use Rattle.std.proofs.Common.{◌≡◌, ◌⊎◌, inl, inr, refl, sym, ap, ◌∙◌, subst, ℕ, zero, suc, ◌+◌, ◌≤◌, ◌<◌, ◌==◌, Bool, true, false, cond, not, ◌&&◌, ◌||◌, List, [], ◌∷◌, ◌++◌, length, take, drop, Option, Some, None, codes, is_some, arith}
use Rattle.std.specs.Prelude.{nat_lt}
use Rattle.std.specs.List.{list_all}
use Rattle.std.proofs.lemmas.Bool.{and_parts, and_from}
use Rattle.std.proofs.lemmas.Bool.Decides.{nat_tests}
use Rattle.std.proofs.lemmas.List.{take-append-drop}
use Rattle.gd_syntax.specs.declared.fault.Place.{Place}
use Rattle.gd_syntax.specs.declared.token.Token.{Token}
use Rattle.gd_syntax.specs.declared.token.Kind.{Kind}
use Rattle.gd_syntax.specs.declared.token.Kind.TheVariants.{Mark as Marked, Name}
use Rattle.gd_syntax.specs.declared.token.Mark.TheVariants.{ClassName, End}
use Rattle.gd_syntax.specs.declared.tree.member.Head.{Head}
use Rattle.gd_syntax.specs.Header.{Global, global_of, header_end_of, header_len, header_text, is_header_line, name_from}
use Rattle.gd_syntax.specs.Layout.{Part, blank, skipped, line_over, read, fails, endless, over, Piece, past_all, pieces, text_of, text_start, tokens_in_bytes}
use Rattle.gd_syntax.specs.Layout as layout
use Rattle.gd_syntax.specs.ScriptGrammar.{is_before, is_name_below}
use Rattle.gd_syntax.specs.TokenReading.{any_name, kind_at, place_at}
use Rattle.token_laws.specs.HeaderNames.{is_word_kind, is_other_piece}
use Rattle.token_laws.proofs.HeaderWalks.{word_piece, name_piece, walk, word_end, first_name, no_name}
use Rattle.header_laws.specs.NamesAgree.{heads_name, NamesAgree}
use Rattle.header_laws.proofs.Clear.{Free}
use Rattle.header_laws.proofs.ClearScripts.{IsFirst, Words, none, one, script_words}
use Rattle.header_laws.proofs.CutNames.{Agree, same, later, cut_name, ends_line, line_column}
use Rattle.header_laws.proofs.LaidTokens.{reads, goes_on, Whole, ended, further, is_block, Spread, done, laid, kept, AreLaid, are_laid}
use Rattle.header_laws.proofs.LinesOfPieces.{is_gap, is_end, only_blanks, pieces_column, Ongoing, reads_on}

-- ---- tokens by number

kind_none : (at : ℕ) → kind_at [] at ≡ Marked End
unfolding kind_at
kind_none at = refl

kind_first : (t : Token) (tokens : List Token) → kind_at (t ∷ tokens) 0 ≡ t.kind
unfolding kind_at
kind_first t tokens = refl

kind_later : (t : Token) (tokens : List Token) (at : ℕ) → kind_at (t ∷ tokens) (suc at) ≡ kind_at tokens at
unfolding kind_at
kind_later t tokens at = refl

place_first : (t : Token) (tokens : List Token) → place_at (t ∷ tokens) 0 ≡ t.place
unfolding place_at
place_first t tokens = refl

place_later : (t : Token) (tokens : List Token) (at : ℕ) → place_at (t ∷ tokens) (suc at) ≡ place_at tokens at
unfolding place_at
place_later t tokens at = refl

free_later : (t : Token) (tokens : List Token) (at : ℕ) → Free (t ∷ tokens) 0 (suc at) → Free tokens 0 at
free_later t tokens at free k h l = let e = free (suc k) (omega arith) (omega (arith, l)) in sym (ap is_word_kind (kind_later t tokens k)) ∙ e

free_first : (t : Token) (tokens : List Token) (at : ℕ) → Free (t ∷ tokens) 0 (suc at) → is_word_kind t.kind ≡ false
free_first t tokens at free = sym (ap is_word_kind (kind_first t tokens)) ∙ free 0 (omega arith) (omega arith)

AllOther : List Token → Type 0
AllOther [] = Unit {0}
AllOther (t ∷ tokens) = (is_word_kind t.kind ≡ false) × AllOther tokens

-- where the word stands in the tokens, among those that are read
record Split (xs ts : List Token) (at : ℕ) : Type 0 where
  front : List Token
  this : Token
  rest : List Token
  behind : List Token
  parts : xs ≡ front ++ this ∷ rest
  others : AllOther front
  kind_is : kind_at ts at ≡ this.kind
  place_is : place_at ts at ≡ this.place
  next_kind : kind_at ts (suc at) ≡ kind_at behind 0
  next_place : place_at ts (suc at) ≡ place_at behind 0
  spread : Spread rest behind

not_block : (kind : Kind) → kind ≡ Marked ClassName → is_block kind ≡ true → ⊥
not_block kind e h = let k : false ≡ true = sym (ap is_block e) ∙ h in cc k

split : (xs ts : List Token) → Spread xs ts → (at : ℕ) → kind_at ts at ≡ Marked ClassName → Free ts 0 at → Split xs ts at
unfolding AllOther
split xs ts (done place) zero e free = absurd (let h = sym (kind_first (layout.mark_at place End) []) ∙ e in cc h)
split xs ts (done place) (suc at) e free = absurd (let h = sym (kind_later (layout.mark_at place End) [] at ∙ kind_none at) ∙ e in cc h)
split xs ts (laid {ts = tail} t block s) zero e free = absurd (not_block t.kind (sym (kind_first t tail) ∙ e) block)
split xs ts (laid {ts = tail} t block s) (suc at) e free =
    let more = split xs tail s at (sym (kind_later t tail at) ∙ e) (free_later t tail at free) in
    record {
      front = more.front;
      this = more.this;
      rest = more.rest;
      behind = more.behind;
      parts = more.parts;
      others = more.others;
      kind_is = kind_later t tail at ∙ more.kind_is;
      place_is = place_later t tail at ∙ more.place_is;
      next_kind = kind_later t tail (suc at) ∙ more.next_kind;
      next_place = place_later t tail (suc at) ∙ more.next_place;
      spread = more.spread;
    }
split xs ts (kept {xs = inner} {ts = tail} t s) zero e free = record {
  front = [];
  this = t;
  rest = inner;
  behind = tail;
  parts = refl;
  others = tt;
  kind_is = kind_first t tail;
  place_is = place_first t tail;
  next_kind = kind_later t tail 0;
  next_place = place_later t tail 0;
  spread = s;
}
split xs ts (kept {xs = inner} {ts = tail} t s) (suc at) e free =
    let more = split inner tail s at (sym (kind_later t tail at) ∙ e) (free_later t tail at free) in
    record {
      front = t ∷ more.front;
      this = more.this;
      rest = more.rest;
      behind = more.behind;
      parts = ap (λ l. t ∷ l) more.parts;
      others = (free_first t tail at free, more.others);
      kind_is = kind_later t tail at ∙ more.kind_is;
      place_is = place_later t tail at ∙ more.place_is;
      next_kind = kind_later t tail (suc at) ∙ more.next_kind;
      next_place = place_later t tail (suc at) ∙ more.next_place;
      spread = more.spread;
    }

-- the name behind it
record Leads (xs ts : List Token) : Type 0 where
  this : Token
  rest : List Token
  parts : xs ≡ this ∷ rest
  kind_is : kind_at ts 0 ≡ this.kind
  place_is : place_at ts 0 ≡ this.place

name_leads : (xs ts : List Token) (word : List ℕ) → Spread xs ts → kind_at ts 0 ≡ Name word → Leads xs ts
name_leads xs ts word (done place) e = absurd (let h = sym (kind_first (layout.mark_at place End) []) ∙ e in cc h)
name_leads xs ts word (laid {ts = tail} t block s) e = absurd (let h : false ≡ true = sym (ap is_block (sym (kind_first t tail) ∙ e)) ∙ block in cc h)
name_leads xs ts word (kept {xs = inner} {ts = tail} t s) e = record { this = t; rest = inner; parts = refl; kind_is = kind_first t tail; place_is = place_first t tail }

-- where the tokens up to the file's end are no word, none that is read is one
spread_other : (xs ts : List Token) → Spread xs ts → (last : ℕ) → Free ts 0 (suc last) → kind_at ts last ≡ Marked End → Ongoing xs → AllOther xs
unfolding AllOther Ongoing
spread_other xs ts (done place) last free e on = tt
spread_other xs ts (laid {ts = tail} t block s) zero free e on = absurd (let h : false ≡ true = sym (ap is_block (sym (kind_first t tail) ∙ e)) ∙ block in cc h)
spread_other xs ts (laid {ts = tail} t block s) (suc last) free e on = spread_other xs tail s last (free_later t tail (suc last) free) (sym (kind_later t tail last) ∙ e) on
spread_other xs ts (kept {xs = inner} {ts = tail} t s) zero free e on = absurd (let h : true ≡ false = sym (ap is_end (sym (kind_first t tail) ∙ e)) ∙ on.0 in cc h)
spread_other xs ts (kept {xs = inner} {ts = tail} t s) (suc last) free e on = (free_first t tail (suc last) free, spread_other inner tail s last (free_later t tail (suc last) free) (sym (kind_later t tail last) ∙ e) on.1)

-- ---- pieces of what is read

abbrev piece_of : Token → Piece
piece_of t = record { part = read t.kind; place = t.place }

Going : List Piece → Type 0
Going [] = Unit {0}
Going (p ∷ ps) = (goes_on p.part ≡ true) × Going ps

record Apart (ps : List Piece) (front : List Token) (this : Token) (rest : List Token) : Type 0 where
  first : List Piece
  last : List Piece
  parts : ps ≡ first ++ piece_of this ∷ last
  front_is : reads first ≡ front
  going : Going first
  rest_is : reads last ≡ rest
  whole : Whole last

no_token : (front rest : List Token) (this : Token) → [] ≡ front ++ this ∷ rest → ⊥
no_token [] rest this e = cc e
no_token (t ∷ front) rest this e = cc e

apart_gap : (part : Part) (place : Place) (ps : List Piece) (front : List Token) (this : Token) (rest : List Token) → ((first : List Piece) → reads (record { part = part; place = place } ∷ first) ≡ reads first) → goes_on part ≡ true
    → Apart ps front this rest → Apart (record { part = part; place = place } ∷ ps) front this rest
unfolding Going
apart_gap part place ps front this rest lacks on h = record {
  first = record { part = part; place = place } ∷ h.first;
  last = h.last;
  parts = ap (λ (l : List Piece). record { part = part; place = place } ∷ l) h.parts;
  front_is = lacks h.first ∙ h.front_is;
  going = (on, h.going);
  rest_is = h.rest_is;
  whole = h.whole;
}

apart_read : (kind : Kind) (place : Place) (ps : List Piece) (front : List Token) (this : Token) (rest : List Token) → Whole ps
    → record { kind = kind; place = place } ∷ reads ps ≡ front ++ this ∷ rest → ((front : List Token) → reads ps ≡ front ++ this ∷ rest → Apart ps front this rest) → Apart (record { part = read kind; place = place } ∷ ps) front this rest
unfolding reads Going
apart_read kind place ps [] this rest w e more =
    let t : Token = record { kind = kind; place = place } in
    let equal : t ≡ this = cc e in
    record { first = []; last = ps; parts = ap (λ (u : Token). piece_of u ∷ ps) equal; front_is = refl; going = tt; rest_is = cc e; whole = w }
apart_read kind place ps (f ∷ front) this rest w e more =
    let t : Token = record { kind = kind; place = place } in
    let equal : t ≡ f = cc e in
    let h = more front (cc e) in
    record {
      first = record { part = read kind; place = place } ∷ h.first;
      last = h.last;
      parts = ap (λ (l : List Piece). record { part = read kind; place = place } ∷ l) h.parts;
      front_is = ap (λ (l : List Token). t ∷ l) h.front_is ∙ ap (λ (u : Token). u ∷ front) equal;
      going = (refl, h.going);
      rest_is = h.rest_is;
      whole = h.whole;
    }

apart_by : (part : Part) (place : Place) (ps : List Piece) (front : List Token) (this : Token) (rest : List Token) → goes_on part ≡ true → Whole ps → reads (record { part = part; place = place } ∷ ps) ≡ front ++ this ∷ rest
    → ((front : List Token) → reads ps ≡ front ++ this ∷ rest → Apart ps front this rest) → Apart (record { part = part; place = place } ∷ ps) front this rest
unfolding reads
apart_by (blank c) place ps front this rest on w e more = apart_gap (blank c) place ps front this rest (λ first. refl) refl (more front e)
apart_by skipped place ps front this rest on w e more = apart_gap skipped place ps front this rest (λ first. refl) refl (more front e)
apart_by line_over place ps front this rest on w e more = apart_gap line_over place ps front this rest (λ first. refl) refl (more front e)
apart_by (read kind) place ps front this rest on w e more = apart_read kind place ps front this rest w e more
apart_by (fails fault) place ps front this rest on w e more = absurd (cc on)
apart_by endless place ps front this rest on w e more = absurd (cc on)
apart_by over place ps front this rest on w e more = absurd (cc on)

apart : (ps : List Piece) (front : List Token) (this : Token) (rest : List Token) → Whole ps → reads ps ≡ front ++ this ∷ rest → Apart ps front this rest
unfolding reads
apart ps front this rest (ended place) e = absurd (no_token front rest this e)
apart ps front this rest (further {more = tail} p on w) e = apart_by p.part p.place tail front this rest on w e (λ f h. apart tail f this rest w h)

others_by : (part : Part) (place : Place) (ps : List Piece) → goes_on part ≡ true → AllOther (reads (record { part = part; place = place } ∷ ps)) → (AllOther (reads ps) → list_all is_other_piece ps ≡ true)
    → list_all is_other_piece (record { part = part; place = place } ∷ ps) ≡ true
unfolding reads AllOther
others_by (blank c) place ps on others more = more others
others_by skipped place ps on others more = more others
others_by line_over place ps on others more = more others
others_by (read kind) place ps on others more = and_from (not (is_word_kind kind)) (list_all is_other_piece ps) (ap not others.0) (more others.1)
others_by (fails fault) place ps on others more = absurd (cc on)
others_by endless place ps on others more = absurd (cc on)
others_by over place ps on others more = absurd (cc on)

all_other : (ps : List Piece) → Going ps → AllOther (reads ps) → list_all is_other_piece ps ≡ true
unfolding Going
all_other [] going others = refl
all_other (p ∷ ps) going others = others_by p.part p.place ps going.0 others (all_other ps going.1)

gaps_by : (part : Part) (place : Place) (ps : List Piece) → goes_on part ≡ true → reads (record { part = part; place = place } ∷ ps) ≡ [] → (reads ps ≡ [] → list_all is_gap ps ≡ true) → list_all is_gap (record { part = part; place = place } ∷ ps) ≡ true
unfolding reads
gaps_by (blank c) place ps on e more = more e
gaps_by skipped place ps on e more = more e
gaps_by line_over place ps on e more = more e
gaps_by (read kind) place ps on e more = absurd (cc e)
gaps_by (fails fault) place ps on e more = absurd (cc on)
gaps_by endless place ps on e more = absurd (cc on)
gaps_by over place ps on e more = absurd (cc on)

all_gaps : (ps : List Piece) → Going ps → reads ps ≡ [] → list_all is_gap ps ≡ true
unfolding Going
all_gaps [] going e = refl
all_gaps (p ∷ ps) going e = gaps_by p.part p.place ps going.0 e (all_gaps ps going.1)

-- pieces of which none is the word
record NoWord (ps : List Piece) : Type 0 where
  first : List Piece
  place : Place
  parts : ps ≡ first ++ record { part = over; place = place } ∷ []
  others : list_all is_other_piece first ≡ true

no_word_by : (part : Part) (place : Place) (ps : List Piece) → goes_on part ≡ true → AllOther (reads (record { part = part; place = place } ∷ ps)) → (AllOther (reads ps) → NoWord ps) → NoWord (record { part = part; place = place } ∷ ps)
unfolding reads AllOther
no_word_by part place ps on others more = no_word_on part on others
  where
    push : (part : Part) → is_other_piece (record { part = part; place = place }) ≡ true → NoWord ps → NoWord (record { part = part; place = place } ∷ ps)
    push part other h = record {
      first = record { part = part; place = place } ∷ h.first;
      place = h.place;
      parts = ap (λ (l : List Piece). record { part = part; place = place } ∷ l) h.parts;
      others = and_from (is_other_piece (record { part = part; place = place })) (list_all is_other_piece h.first) other h.others;
    }

    no_word_on : (part : Part) → goes_on part ≡ true → AllOther (reads (record { part = part; place = place } ∷ ps)) → NoWord (record { part = part; place = place } ∷ ps)
    no_word_on (blank c) on others = push (blank c) refl (more others)
    no_word_on skipped on others = push skipped refl (more others)
    no_word_on line_over on others = push line_over refl (more others)
    no_word_on (read kind) on others = push (read kind) (ap not others.0) (more others.1)
    no_word_on (fails fault) on others = absurd (cc on)
    no_word_on endless on others = absurd (cc on)
    no_word_on over on others = absurd (cc on)

no_word : (ps : List Piece) → Whole ps → AllOther (reads ps) → NoWord ps
no_word ps (ended place) others = record { first = []; place = place; parts = refl; others = refl }
no_word ps (further {more = tail} p on w) others = no_word_by p.part p.place tail on others (no_word tail w)

-- ---- the whole text

none_in_text : (text : List ℕ) (tokens : List Token) (last : ℕ) → AreLaid text tokens → Free tokens 0 (suc last) → kind_at tokens last ≡ Marked End → name_from 0 text_start text ≡ None
none_in_text text tokens last h free e =
    let others = spread_other (reads (pieces 0 text_start text)) tokens h.spread last free e (reads_on 0 text_start text) in
    let n = no_word (pieces 0 text_start text) h.whole others in
    no_name text n.first n.place n.parts n.others

word_line : (place : Place) → (past_all place (codes "class_name")).line ≡ place.line
word_line place = refl

-- a name on the line of the word
record Named (text : List ℕ) (g : Global) (word : Place) : Type 0 where
  name : name_from 0 text_start text ≡ Some g
  column : 1 ≤ word.column

named_by : (text : List ℕ) (first mid last : List Piece) (place there : Place) (word : List ℕ) → pieces 0 text_start text ≡ first ++ word_piece place ∷ (mid ++ name_piece word there ∷ last) → list_all is_other_piece first ≡ true
    → list_all is_gap mid ≡ true → there.line ≤ place.line → Named text (record { name = word; place = there }) place
named_by text first mid last place there word e others gaps le =
    let a = walk (suc (length text)) text_start text first (word_piece place) (mid ++ name_piece word there ∷ last) (omega arith) e others in
    let b = word_end a.there place a.rest (mid ++ name_piece word there ∷ last) a.here in
    let line = word_line place in
    let blanks = only_blanks (past_all place (codes "class_name")) b.0 mid (name_piece word there) last refl (omega (arith, line, le)) gaps b.2 in
    record {
      name = first_name text first mid last place there word e others blanks;
      column = pieces_column 0 text_start text first (word_piece place) (mid ++ name_piece word there ∷ last) (omega arith) e;
    }

below_case : (kind : Kind) (word : List ℕ) (a b : ℕ) → kind ≡ Name word → not (is_some (any_name kind) && nat_lt a b) ≡ true → b ≤ a
below_case kind word a b e h =
    let k : not (is_some (any_name (Name word)) && nat_lt a b) ≡ true = subst (λ c. not (is_some (any_name c) && nat_lt a b) ≡ true) e h in
    below_test a b (nat_lt a b) refl k
  where
    below_test : (a b : ℕ) (t : Bool) → nat_lt a b ≡ t → not t ≡ true → b ≤ a
    below_test a b false i k = grind (arith, nat_tests)
    below_test a b true i k = absurd (cc k)

piece_is : (t : Token) (kind : Kind) (place : Place) → t.kind ≡ kind → t.place ≡ place → piece_of t ≡ record { part = read kind; place = place }
piece_is t kind place e h = ap (λ (k : Kind). record { part = read k; place = t.place }) e ∙ ap (λ (p : Place). record { part = read kind; place = p }) h

named_in_text : (text : List ℕ) (tokens : List Token) (header_end : Place) (g : Global) → AreLaid text tokens → (f : IsFirst tokens header_end g) → Named text g (place_at tokens f.at)
named_in_text text tokens header_end g h f =
    let s = split (reads (pieces 0 text_start text)) tokens h.spread f.at f.word f.free in
    let p = apart (pieces 0 text_start text) s.front s.this s.rest h.whole s.parts in
    let on : f.at + 1 ≡ suc f.at = omega arith in
    let kind : kind_at s.behind 0 ≡ Name g.name = sym s.next_kind ∙ sym (ap (kind_at tokens) on) ∙ f.name_is in
    let lead = name_leads s.rest s.behind g.name s.spread kind in
    let q = apart p.last [] lead.this lead.rest p.whole (p.rest_is ∙ lead.parts) in
    let place = place_at tokens f.at in
    let word : piece_of s.this ≡ word_piece place = piece_is s.this (Marked ClassName) place (sym s.kind_is ∙ f.word) (sym s.place_is) in
    let there : place_at s.behind 0 ≡ g.place = sym s.next_place ∙ sym (ap (place_at tokens) on) ∙ f.name_place in
    let name : piece_of lead.this ≡ name_piece g.name g.place = piece_is lead.this (Name g.name) g.place (sym lead.kind_is ∙ kind) (sym lead.place_is ∙ there) in
    let parts : pieces 0 text_start text ≡ p.first ++ word_piece place ∷ (q.first ++ name_piece g.name g.place ∷ q.last) =
    p.parts ∙ ap (λ (x : Piece). p.first ++ x ∷ p.last) word ∙ ap (λ (l : List Piece). p.first ++ word_piece place ∷ l) (q.parts ∙ ap (λ (x : Piece). q.first ++ x ∷ q.last) name) in
    let known = (and_parts (is_before place header_end) (not (is_name_below tokens f.at)) f.known).1 in
    let le : (place_at tokens (f.at + 1)).line ≤ place.line = below_case (kind_at tokens (f.at + 1)) g.name place.line (place_at tokens (f.at + 1)).line f.name_is known in
    let low : g.place.line ≤ place.line = subst (λ (x : Place). x.line ≤ place.line) f.name_place le in
    let others : AllOther (reads p.first) = subst AllOther (sym p.front_is) s.others in
    named_by text p.first q.first q.last place g.place g.name parts (all_other p.first p.going others) (all_gaps q.first q.going q.front_is) low

-- ---- the header's lines

front_case : (b : Bool) (starts : Bool) (c : ℕ) (text : List ℕ) → (starts && not (is_header_line (c ∷ text))) ≡ b → (drop (header_len (c == 10) text) text ≡ []) ⊎ (ends_line (c == 10) (take (header_len (c == 10) text) text) ≡ true)
    → (drop (cond b 0 (suc (header_len (c == 10) text))) (c ∷ text) ≡ []) ⊎ (ends_line starts (take (cond b 0 (suc (header_len (c == 10) text))) (c ∷ text)) ≡ true)
front_case true starts c text e h = inr ((and_parts starts (not (is_header_line (c ∷ text))) e).0)
front_case false starts c text e h = h

header_front : (starts : Bool) (text : List ℕ) → (drop (header_len starts text) text ≡ []) ⊎ (ends_line starts (take (header_len starts text) text) ≡ true)
unfolding header_len
header_front starts [] = inl refl
header_front starts (c ∷ text) = front_case (starts && not (is_header_line (c ∷ text))) starts c text refl (header_front (c == 10) text)

take_whole : (n : ℕ) (text : List ℕ) → drop n text ≡ [] → take n text ≡ text
take_whole zero text e = sym e
take_whole (suc n) [] e = refl
take_whole (suc n) (c ∷ text) e = ap (λ t. c ∷ t) (take_whole n text e)

before_case : (a b c d : ℕ) (s t u : Bool) → nat_lt a b ≡ s → (a == b) ≡ t → nat_lt c d ≡ u → (s || (t && u)) ≡ true → d ≡ 1 → 1 ≤ c → a < b
before_case a b c d true t u i j k h first some = grind (arith, nat_tests)
before_case a b c d false true true i j k h first some = absurd (let less : c < d = grind (arith, nat_tests) in omega arith)
before_case a b c d false true false i j k h first some = absurd (cc h)
before_case a b c d false false u i j k h first some = absurd (cc h)

before_line : (a b : Place) → is_before a b ≡ true → b.column ≡ 1 → 1 ≤ a.column → a.line < b.line
before_line a b h first some = before_case a.line b.line a.column b.column (nat_lt a.line b.line) (a.line == b.line) (nat_lt a.column b.column) refl refl refl h first some

none_cut : (line : ℕ) (cut whole : Option Global) → Agree line cut whole → whole ≡ None → cut ≡ None
none_cut line cut whole (same e) is = e ∙ is
none_cut line cut whole (later e h) is = e

some_cut : (line : ℕ) (cut whole : Option Global) (g : Global) → Agree line cut whole → whole ≡ Some g → g.place.line < line → cut ≡ Some g
some_cut line cut whole g (same e) is less = e ∙ is
some_cut line cut whole g (later e h) is less = absurd (let k = h g is in omega arith)

-- the name in the text, and in the header's lines
cut_none : (text : List ℕ) → name_from 0 text_start text ≡ None → name_from 0 text_start (header_text text) ≡ None
cut_none text e = elim (header_front true text) [
  | inl all ↦ ap (name_from 0 text_start) (take_whole (header_len true text) text all) ∙ e
  | inr line ↦ (
      let n = header_len true text in
      none_cut (past_all text_start (take n text)).line _ _ (cut_name text_start (take n text) (drop n text) line) (ap (name_from 0 text_start) (take-append-drop n text) ∙ e)
      )
]

cut_some : (text : List ℕ) (g : Global) (word : Place) → Named text g word → g.place.line ≤ word.line → is_before word (past_all text_start (header_text text)) ≡ true → name_from 0 text_start (header_text text) ≡ Some g
cut_some text g word named le known = elim (header_front true text) [
  | inl all ↦ ap (name_from 0 text_start) (take_whole (header_len true text) text all) ∙ named.name
  | inr line ↦ (
      let n = header_len true text in
      let column = line_column true (take n text) text_start (λ _. refl) line in
      let less = before_line word (past_all text_start (take n text)) known column named.column in
      some_cut (past_all text_start (take n text)).line _ _ g (cut_name text_start (take n text) (drop n text) line) (ap (name_from 0 text_start) (take-append-drop n text) ∙ named.name) (omega (arith, less, le))
      )
]

-- ---- the law

first_line : (tokens : List Token) (header_end : Place) (g : Global) (f : IsFirst tokens header_end g) → g.place.line ≤ (place_at tokens f.at).line
first_line tokens header_end g f =
    let place = place_at tokens f.at in
    let known = (and_parts (is_before place header_end) (not (is_name_below tokens f.at)) f.known).1 in
    let le : (place_at tokens (f.at + 1)).line ≤ place.line = below_case (kind_at tokens (f.at + 1)) g.name place.line (place_at tokens (f.at + 1)).line f.name_is known in
    subst (λ (x : Place). x.line ≤ place.line) f.name_place le

agree_by : (bytes : List ℕ) (tokens : List Token) (heads : List Head) (next last : ℕ) → AreLaid (text_of bytes) tokens → next ≡ last + 1 → kind_at tokens last ≡ Marked End → Words tokens (header_end_of bytes) heads next
    → global_of bytes ≡ heads_name heads
agree_by bytes tokens heads next last laid_tokens is end (none e free) =
    let whole = none_in_text (text_of bytes) tokens last laid_tokens (subst (Free tokens 0) (omega (arith, is)) free) end in
    cut_none (text_of bytes) whole ∙ sym e
agree_by bytes tokens heads next last laid_tokens is end (one g e f) =
    let known = (and_parts (is_before (place_at tokens f.at) (header_end_of bytes)) (not (is_name_below tokens f.at)) f.known).0 in
    cut_some (text_of bytes) g (place_at tokens f.at) (named_in_text (text_of bytes) tokens (header_end_of bytes) g laid_tokens f) (first_line tokens (header_end_of bytes) g f) known ∙ sym e

pub names_agree : (bytes : List ℕ) → NamesAgree bytes
names_agree bytes tokens tree next laid_tokens tree_read =
    let found = script_words tokens (header_end_of bytes) next tree tree_read in
    agree_by bytes tokens tree.heads next found.last (are_laid bytes tokens laid_tokens) found.is_last found.end found.words

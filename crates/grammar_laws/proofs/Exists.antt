-- Each reading of tokens has an outcome. What is read never lies behind, and each further turn of a repetition takes a
-- token of the list, so that every repetition ends.
use Rattle.std.proofs.Common.{◌≡◌, ◌≢◌, ◌⊎◌, inl, inr, ℕ, zero, suc, ◌+◌, ◌-◌, ◌≤◌, ◌<◌, nat_le, Bool, true, false, if◌then◌else◌, List, [], ◌∷◌, ◌++◌, length, Option, Some, None, refl, sym, ap, ◌∙◌, subst, arith}
use Rattle.std.proofs.lemmas.Option.{slice_get_past}
use Rattle.std.proofs.lemmas.Bool.Decides.{leb_tells}
use Rattle.gd_syntax.specs.declared.fault.Place.{Place}
use Rattle.gd_syntax.specs.declared.fault.LoadFault.{LoadFault}
use Rattle.gd_syntax.specs.declared.token.Token.{Token}
use Rattle.gd_syntax.specs.declared.token.Kind.{Kind}
use Rattle.gd_syntax.specs.declared.token.Kind.TheVariants.{Mark as Marked, Text}
use Rattle.gd_syntax.specs.declared.token.Mark.{Mark}
use Rattle.gd_syntax.specs.declared.token.Mark.TheVariants as m
use Rattle.gd_syntax.specs.Reading.{Outcome, Read, Stops, Reading, Then, goes, halts, Look, looks, Turn, On, Last, Loop, give, either, HasOneOutcome}
use Rattle.gd_syntax.specs.declared.stops.Sought.{Sought}
use Rattle.gd_syntax.specs.declared.stops.Sought.TheVariants.{Other}
use Rattle.gd_syntax.specs.TokenReading.{is_uid, kind_of, mark_of, kind_at, mark_at, place_at, refusal_at, skip, refuse, Due, OneOf, plain_name, identifier, path_text, path_text_by, fits, Item, comma, comma_by, list}
use Rattle.gd_syntax.proofs.Only.{Only}
use denote.Enum.Bare.{sameb, same_true, same_false}
use Rattle.gd_syntax.specs.contracts.token.Mark.{the_type}

-- The reading has an outcome everywhere, and what it gives lies at least so many tokens further on.
pub record Sound {A : Type 0} (k : ℕ) (R : Reading A) : Type 0 where
  pub some : (at : ℕ) → (o : Outcome A) × R at o
  pub onward : (at next : ℕ) (a : A) → R at (Read a next) → at + k ≤ next

-- it has one, and takes nothing back
abbrev pub Reads : {A : Type 0} → Reading A → Type 0
Reads R = Sound 0 R

-- it has one, and takes a token
abbrev pub Takes : {A : Type 0} → Reading A → Type 0
Takes R = Sound 1 R

-- a turn, which takes a token where it goes on
pub record Moves {A : Type 0} (R : Reading (Turn A)) : Type 0 where
  pub reads : Reads R
  pub moves : (at next : ℕ) (b : A) → R at (Read (On b) next) → at < next

some_after : {A B : Type 0} (first : Reading A) (rest : A → Reading B) (k at : ℕ) → ((a : A) → Sound k (rest a)) → (o : Outcome A) → first at o → (p : Outcome B) × Then first rest at p
some_after first rest k at r (Read a next) h = let q = (r a).some next in (q.0, goes h q.1)
some_after first rest k at r (Stops f) h = (Stops f, halts h)

onward_then : {A B : Type 0} (first : Reading A) (rest : A → Reading B) (j k : ℕ) → Sound j first → ((a : A) → Sound k (rest a)) → (at next : ℕ) (b : B) → Then first rest at (Read b next) → at + (j + k) ≤ next
onward_then first rest j k f r at next b (goes {a = a} {next = n} x y) = let p : at + j ≤ n = f.onward at n a x in let q : n + k ≤ next = (r a).onward n next b y in omega arith

pub sound_then : {A B : Type 0} (first : Reading A) (rest : A → Reading B) (j k m : ℕ) → m ≤ j + k → Sound j first → ((a : A) → Sound k (rest a)) → Sound m (Then first rest)
sound_then first rest j k m le f r = record {
  some = λ at. let p = f.some at in some_after first rest k at r p.0 p.1;
  onward = λ at next b h. let q = onward_then first rest j k f r at next b h in omega arith;
}

-- reads, and then reads on
pub reads_then : {A B : Type 0} (first : Reading A) (rest : A → Reading B) → Reads first → ((a : A) → Reads (rest a)) → Reads (Then first rest)
reads_then first rest = sound_then first rest 0 0 0 (omega arith)

-- takes a token, and then reads on
pub taken : {A B : Type 0} (first : Reading A) (rest : A → Reading B) → Takes first → ((a : A) → Reads (rest a)) → Takes (Then first rest)
taken first rest = sound_then first rest 1 0 1 (omega arith)

-- reads, and then takes a token
pub takes : {A B : Type 0} (first : Reading A) (rest : A → Reading B) → Reads first → ((a : A) → Takes (rest a)) → Takes (Then first rest)
takes first rest = sound_then first rest 0 1 1 (omega arith)

pub reads : {A : Type 0} (R : Reading A) → Takes R → Reads R
reads R t = record { some = t.some; onward = λ at next a h. let q : at + 1 ≤ next = t.onward at next a h in omega arith }

pub sound_look : {K A : Type 0} (k : ℕ) (view : ℕ → K) (by : K → Reading A) → ((v : K) → Sound k (by v)) → Sound k (Look view by)
sound_look {K} {A} k view by b = record { some = λ at. let p = (b (view at)).some at in (p.0, looks refl p.1); onward = go }
  where
    go : (at next : ℕ) (a : A) → Look view by at (Read a next) → at + k ≤ next
    go at next a (looks {k = v} x y) = (b v).onward at next a y

pub sound_either : {A : Type 0} (k : ℕ) (b : Bool) (x y : Reading A) → Sound k x → Sound k y → Sound k (either b x y)
sound_either k true x y f g = f
sound_either k false x y f g = g

pub reads_give : {A : Type 0} (a : A) → Reads (give a)
reads_give a = record { some = λ at. (Read a at, refl); onward = λ at next b e. let h : next ≡ at = cc e in omega arith }

-- a reading that always stops
pub sound_stops : {A : Type 0} (k : ℕ) (f : ℕ → LoadFault) → Sound {A = A} k (λ at o. o ≡ Stops (f at))
sound_stops k f = record { some = λ at. (Stops (f at), refl); onward = λ at next a e. absurd (cc e) }

-- A reading whose tree has the place of its first token.
pub sound_at : {A : Type 0} (k : ℕ) (R : ℕ → Reading A) → ((at : ℕ) → Sound k (R at)) → Sound k (λ at. R at at)
sound_at k R r = record { some = λ at. (r at).some at; onward = λ at. (r at).onward at }

-- with one at most, exactly one
pub has_one : {A : Type 0} (R : Reading A) (at : ℕ) → Only R → (o : Outcome A) × R at o → HasOneOutcome (R at)
has_one R at only p = (p.0, p.1, λ q h. only at q p.0 h p.1)

if_onward : (test : Bool) (f : LoadFault) (at next : ℕ) (a : Unit {0}) (o : Outcome (Unit {0})) → o ≡ Read a next → o ≡ (if test then Read tt at else Stops f) → at + 0 ≤ next
if_onward true f at next a o e h = let g = sym e ∙ h in let i : next ≡ at = cc g in omega arith
if_onward false f at next a o e h = absurd (let g = sym e ∙ h in cc g)

-- a limit
pub reads_if : (test : ℕ → Bool) (f : ℕ → LoadFault) → Sound {A = Unit {0}} 0 (λ at o. o ≡ (if test at then Read tt at else Stops (f at)))
reads_if test f = record { some = λ at. (_, refl); onward = λ at next a h. if_onward (test at) (f at) at next a _ refl h }

-- ---- turns

pub goes_on : {A : Type 0} (R : Reading (Turn A)) → Takes R → Moves R
goes_on R t = record { reads = reads R t; moves = λ at next b h. let q : at + 1 ≤ next = t.onward at next (On b) h in omega arith }

pub ends : {A : Type 0} (a : A) → Moves (give (Last a))
ends a = record { reads = reads_give (Last a); moves = λ at next b e. absurd (cc e) }

pub moves_look : {K A : Type 0} (view : ℕ → K) (by : K → Reading (Turn A)) → ((v : K) → Moves (by v)) → Moves (Look view by)
moves_look {K} {A} view by b = record { reads = sound_look 0 view by (λ v. (b v).reads); moves = go }
  where
    go : (at next : ℕ) (c : A) → Look view by at (Read (On c) next) → at < next
    go at next c (looks {k = v} x y) = (b v).moves at next c y

pub moves_at : {A : Type 0} (R : ℕ → Reading (Turn A)) → ((at : ℕ) → Moves (R at)) → Moves (λ at. R at at)
moves_at R r = record { reads = sound_at 0 R (λ at. (r at).reads); moves = λ at. (r at).moves at }

module _ (tokens : List Token) where
  -- past the tokens only the file's end is seen
  pub within : (at : ℕ) → (kind_at tokens at ≡ Marked m.End → ⊥) → at < length tokens
  unfolding kind_at
  within at ne = elim (leb_tells (length tokens) at) [
    | inl t ↦ absurd (ne (ap kind_of (slice_get_past tokens at t.1)))
    | inr t ↦ t.1
  ]

  -- at the file's end nothing is read
  abbrev pub Starts : {A : Type 0} → Reading A → Type 0
  Starts {A} R = (at next : ℕ) (a : A) → kind_at tokens at ≡ Marked m.End → R at (Read a next) → ⊥

  -- at the file's end no turn goes on
  abbrev pub Ends : {A : Type 0} → Reading (Turn A) → Type 0
  Ends {A} R = (at next : ℕ) (b : A) → kind_at tokens at ≡ Marked m.End → R at (Read (On b) next) → ⊥

  pub starts_then : {A B : Type 0} (first : Reading A) (rest : A → Reading B) → Starts first → Starts (Then first rest)
  starts_then first rest s at next b e (goes {a = a} {next = n} x y) = s at n a e x

  pub starts_look : {K A : Type 0} (view : ℕ → K) (by : K → Reading A) (of : Kind → K) → ((at : ℕ) → view at ≡ of (kind_at tokens at)) → Starts (by (of (Marked m.End))) → Starts (Look view by)
  starts_look view by of is s at next a e (looks {k = k} x y) =
      let same : k ≡ of (Marked m.End) = sym x ∙ is at ∙ ap of e in
      let P : _ → Type 0 = λ c. by c at (Read a next) in
      s at next a e (subst P same y)

  pub starts_either : {A : Type 0} (b : Bool) (x y : Reading A) → Starts x → Starts y → Starts (either b x y)
  starts_either true x y f g = f
  starts_either false x y f g = g

  pub starts_stops : {A : Type 0} (f : ℕ → LoadFault) → Starts {A = A} (λ at o. o ≡ Stops (f at))
  starts_stops f at next a e h = cc h

  pub ends_look : {K A : Type 0} (view : ℕ → K) (by : K → Reading (Turn A)) (of : Kind → ℕ → K) → ((at : ℕ) → view at ≡ of (kind_at tokens at) at)
      → ((at next : ℕ) (b : A) → kind_at tokens at ≡ Marked m.End → by (of (Marked m.End) at) at (Read (On b) next) → ⊥) → Ends (Look view by)
  ends_look view by of is s at next b e (looks {k = k} x y) =
      let same : k ≡ of (Marked m.End) at = sym x ∙ is at ∙ ap (λ c. of c at) e in
      let P : _ → Type 0 = λ c. by c at (Read (On b) next) in
      s at next b e (subst P same y)

  -- a turn by the next token
  pub ends_mark : {A : Type 0} (by : Option Mark → Reading (Turn A)) → ((at next : ℕ) (b : A) → kind_at tokens at ≡ Marked m.End → by (Some m.End) at (Read (On b) next) → ⊥) → Ends (Look (mark_at tokens) by)
  ends_mark by s = ends_look (mark_at tokens) by (λ k at. mark_of k) (λ at. refl) s

  pub starts_mark : {A : Type 0} (by : Option Mark → Reading A) → Starts (by (Some m.End)) → Starts (Look (mark_at tokens) by)
  starts_mark by s = starts_look (mark_at tokens) by mark_of (λ at. refl) s

  -- ---- repetitions

  loop_after : {A : Type 0} (turn : A → Reading (Turn A)) (a : A) (at : ℕ) → ((b : A) (next : ℕ) → turn a at (Read (On b) next) → (o : Outcome A) × Loop turn b next o)
      → (o : Outcome (Turn A)) → turn a at o → (p : Outcome A) × Loop turn a at p
  loop_after turn a at r (Read (On b) next) h = let q = r b next h in (q.0, Loop.on h q.1)
  loop_after turn a at r (Read (Last b) next) h = (Read b next, Loop.last h)
  loop_after turn a at r (Stops f) h = (Stops f, Loop.stop h)

  loop_within : {A : Type 0} (turn : A → Reading (Turn A)) → ((a : A) → Moves (turn a)) → ((a : A) → Ends (turn a)) → (k : ℕ) (a : A) (at : ℕ) → length tokens - at < k → (p : Outcome A) × Loop turn a at p
  loop_within turn t e zero a at h = absurd (omega arith)
  loop_within turn t e (suc k) a at h =
      let p = (t a).reads.some at in
      loop_after turn a at (λ b next y. let m : at < next = (t a).moves at next b y in let r : at < length tokens = within at (λ i. e a at next b i y) in loop_within turn t e k b next (omega arith)) p.0 p.1

  loop_onward : {A : Type 0} (turn : A → Reading (Turn A)) → ((a : A) → Moves (turn a)) → (a : A) (at next : ℕ) (b : A) → Loop turn a at (Read b next) → at + 0 ≤ next
  loop_onward turn t a at next b (Loop.on {b = c} {next = n} x y) = let p : at < n = (t a).moves at n c x in let q : n + 0 ≤ next = loop_onward turn t c n next b y in omega arith
  loop_onward turn t a at next b (Loop.last x) = (t a).reads.onward at next (Last b) x

  pub reads_loop : {A : Type 0} (turn : A → Reading (Turn A)) → ((a : A) → Moves (turn a)) → ((a : A) → Ends (turn a)) → (a : A) → Reads (Loop turn a)
  reads_loop turn t e a = record { some = λ at. loop_within turn t e (suc (length tokens - at)) a at (omega arith); onward = loop_onward turn t a }

  -- ---- single tokens

  pub takes_skip : Takes (skip tokens)
  takes_skip = record { some = λ at. (Read tt (at + 1), refl); onward = λ at next a e. let h : next ≡ at + 1 = cc e in omega arith }

  pub reads_fits : (room n : ℕ) → Reads (fits tokens room n)
  reads_fits room n = reads_if (λ at. nat_le n room) _

  pub sound_refuse : {A : Type 0} (k : ℕ) (sought : Sought) → Sound k (refuse tokens {A = A} sought)
  sound_refuse k sought = sound_stops k (λ at. refusal_at tokens sought at)

  pub starts_refuse : {A : Type 0} (sought : Sought) → Starts (refuse tokens {A = A} sought)
  starts_refuse sought at next a e h = cc h

  same_mark : (a b : Mark) (t : Bool) → sameb the_type a b ≡ t → (a ≡ b) ⊎ (a ≢ b)
  same_mark a b true e = inl (same_true the_type tt a b e)
  same_mark a b false e = inr (same_false the_type a b e)

  pub decide_mark : (k : Option Mark) (wanted : Mark) → (k ≡ Some wanted) ⊎ (k ≢ Some wanted)
  decide_mark None wanted = inr (λ e. cc e)
  decide_mark (Some a) wanted = elim (same_mark a wanted (sameb the_type a wanted) refl) [ inl e ↦ inl (ap Some e) | inr n ↦ inr (λ e. n (cc e)) ]

  pub takes_due : (sought : Sought) (wanted : Mark) → Takes (Due tokens sought wanted)
  takes_due sought wanted = record { some = λ at. elim (decide_mark (mark_at tokens at) wanted) [ inl x ↦ (_, Due.found x) | inr x ↦ (_, Due.missing x) ]; onward = go }
    where
      go : (at next : ℕ) (a : Unit {0}) → Due tokens sought wanted at (Read a next) → at + 1 ≤ next
      go at next a (Due.found x) = omega arith

  one_by : {A : Type 0} (view : Kind → Option A) (sought : Sought) (at : ℕ) (v : Option A) → view (kind_at tokens at) ≡ v → (o : Outcome A) × OneOf tokens view sought at o
  one_by view sought at (Some a) e = (_, OneOf.found e)
  one_by view sought at None e = (_, OneOf.missing e)

  pub takes_one : {A : Type 0} (view : Kind → Option A) (sought : Sought) → Takes (OneOf tokens view sought)
  takes_one {A} view sought = record { some = λ at. one_by view sought at (view (kind_at tokens at)) refl; onward = go }
    where
      go : (at next : ℕ) (a : A) → OneOf tokens view sought at (Read a next) → at + 1 ≤ next
      go at next a (OneOf.found x) = omega arith

  pub starts_one : {A : Type 0} (view : Kind → Option A) (sought : Sought) → view (Marked m.End) ≡ None → Starts (OneOf tokens view sought)
  starts_one view sought none at next a e (OneOf.found x) = let h = sym x ∙ ap view e ∙ none in cc h

  pub takes_identifier : Takes (identifier tokens)
  takes_identifier = sound_at 1 (λ place. Then (OneOf tokens plain_name Other) (λ name. give (record { place = place_at tokens place; name = name })))
      (λ at. taken _ _ (takes_one plain_name Other) (λ name. reads_give _))

  takes_path_by : (sought : Sought) (place : Place) (k : Kind) → Takes (path_text_by tokens sought place k)
  takes_path_by sought place (Text text) = sound_either 1 (is_uid text) _ _ (sound_stops 1 _) (taken _ _ takes_skip (λ _. reads_give _))
  takes_path_by sought place _ = sound_refuse 1 sought

  pub takes_path : (sought : Sought) → Takes (path_text tokens sought)
  takes_path sought = sound_at 1 (λ to. Look (kind_at tokens) (path_text_by tokens sought (place_at tokens to))) (λ at. sound_look 1 _ _ (takes_path_by sought (place_at tokens at)))

  -- ---- lists in brackets

  -- an item takes a token, which is not the file's end
  pub record Form {A : Type 0} (R : Reading A) : Type 0 where
    pub takes : Takes R
    pub starts : Starts R

  reads_comma : {A : Type 0} (sofar : List A) (k : Option Mark) → Reads (comma_by tokens sofar k)
  reads_comma sofar (Some m.Comma) = reads _ (taken _ _ takes_skip (λ _. reads_give _))
  reads_comma sofar _ = reads_give _

  pub reads_comma_turn : {A : Type 0} (sofar : List A) → Reads (comma tokens sofar)
  reads_comma_turn sofar = sound_look 0 _ _ (reads_comma sofar)

  module _ {A : Type 0} (item : Reading A) (i : Form item) (closing : Mark) where
    further : (sofar : List A) → Takes (Then item (λ x. comma tokens (sofar ++ x ∷ [])))
    further sofar = taken _ _ i.takes (λ x. sound_look 0 _ _ (reads_comma (sofar ++ x ∷ [])))

    item_onward : (sofar : List A) (at next : ℕ) (a : Turn (List A)) → Item tokens item closing sofar at (Read a next) → at + 0 ≤ next
    item_onward sofar at next a (Item.closed x) = omega arith
    item_onward sofar at next a (Item.further x y) = let q : at + 1 ≤ next = (further sofar).onward at next a y in omega arith

    item_moves : (sofar : List A) (at next : ℕ) (b : List A) → Item tokens item closing sofar at (Read (On b) next) → at < next
    item_moves sofar at next b (Item.further x y) = let q : at + 1 ≤ next = (further sofar).onward at next (On b) y in omega arith

    moves_item : (sofar : List A) → Moves (Item tokens item closing sofar)
    moves_item sofar = record {
      reads = record {
        some = λ at. elim (decide_mark (mark_at tokens at) closing) [ inl e ↦ (_, Item.closed e) | inr n ↦ (let p = (further sofar).some at in (p.0, Item.further n p.1)) ];
        onward = item_onward sofar;
      };
      moves = item_moves sofar;
    }

    ends_item : (sofar : List A) → Ends (Item tokens item closing sofar)
    ends_item sofar at next b e (Item.further x y) = starts_then _ _ i.starts at next _ e y

    pub takes_list : Takes (list tokens item closing)
    takes_list = takes _ _ (reads_loop _ moves_item ends_item []) (λ all. taken _ _ (takes_due Other closing) (λ _. reads_give _))

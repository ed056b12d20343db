-- Readings that pass no `class_name`.
use Rattle.std.proofs.Common.{◌≡◌, ℕ, ◌+◌, ◌≤◌, ◌<◌, nat_le, nat_lt, Bool, true, false, cond, List, [], ◌∷◌, ◌++◌, Option, Some, None, refl, sym, ap, ◌∙◌, subst, arith}
use Rattle.std.proofs.lemmas.Bool.Decides.{nat_tests}
use Rattle.gd_syntax.specs.declared.fault.LoadFault.{LoadFault}
use Rattle.gd_syntax.specs.declared.token.Token.{Token}
use Rattle.gd_syntax.specs.declared.token.Kind.{Kind}
use Rattle.gd_syntax.specs.declared.token.Kind.TheVariants.{Mark as Marked, Name, Int, Text}
use Rattle.gd_syntax.specs.declared.token.Mark.{Mark}
use Rattle.gd_syntax.specs.declared.token.Mark.TheVariants as m
use Rattle.gd_syntax.specs.Reading.{Read, Stops, Reading, Then, goes, Look, looks, Turn, On, Last, Loop, give, either}
use Rattle.gd_syntax.specs.declared.stops.Sought.{Sought}
use Rattle.gd_syntax.specs.declared.stops.Sought.TheVariants.{Other}
use Rattle.gd_syntax.specs.TokenReading.{kind_at, mark_of, mark_at, refusal_at, skip, refuse, Due, OneOf, fits, Item, comma, comma_by, list}
use Rattle.gd_syntax.specs.DeclarationGrammar.{below}
use Rattle.token_laws.specs.HeaderNames.{is_word_kind}

word_mark : (w : Mark) → is_word_kind (Marked w) ≡ true → Marked w ≡ Marked m.ClassName
word_mark m.ClassName e = refl
word_mark _ e = absurd (cc e)

pub word_kind : (kind : Kind) → is_word_kind kind ≡ true → kind ≡ Marked m.ClassName
word_kind (Name text) e = absurd (cc e)
word_kind (Int n) e = absurd (cc e)
word_kind (Text text) e = absurd (cc e)
word_kind (Marked w) e = word_mark w e

module _ (tokens : List Token) where
  -- another token stands here
  abbrev pub IsOther : ℕ → Type 0
  IsOther at = is_word_kind (kind_at tokens at) ≡ false

  -- no `class_name` from one place up to another
  abbrev pub Free : ℕ → ℕ → Type 0
  Free at next = (k : ℕ) → at ≤ k → k < next → IsOther k

  pub record Clear {A : Type 0} (R : Reading A) : Type 0 where
    pub passes : (at next : ℕ) (a : A) → R at (Read a next) → Free at next

  -- where it begins with another token
  pub record Begun {A : Type 0} (R : Reading A) : Type 0 where
    pub passes : (at next : ℕ) (a : A) → IsOther at → R at (Read a next) → Free at next

  pub free_none : (at next : ℕ) → next ≡ at → Free at next
  free_none at next e k h l = absurd (omega arith)

  one_case : (at k : ℕ) → at ≤ k → k < at + 1 → IsOther at → IsOther k
  one_case at k h l other = let e : at ≡ k = omega arith in subst IsOther e other

  pub free_one : (at next : ℕ) → next ≡ at + 1 → IsOther at → Free at next
  free_one at next e other k h l = one_case at k h (omega arith) other

  free_by : (at mid next k : ℕ) → Free at mid → Free mid next → at ≤ k → k < next → (b : Bool) → nat_lt k mid ≡ b → IsOther k
  free_by at mid next k f g h l true e = f k h (grind (arith, nat_tests))
  free_by at mid next k f g h l false e = g k (grind (arith, nat_tests)) l

  pub free_on : (at mid next : ℕ) → Free at mid → Free mid next → Free at next
  free_on at mid next f g k h l = free_by at mid next k f g h l (nat_lt k mid) refl

  pub b_clear : {A : Type 0} {R : Reading A} → Clear R → Begun R
  b_clear c = record { passes = λ at next a other h. c.passes at next a h }

  pub c_then : {A B : Type 0} (first : Reading A) (rest : A → Reading B) → Clear first → ((a : A) → Clear (rest a)) → Clear (Then first rest)
  c_then {A} {B} first rest f r = record { passes = go }
    where
      go : (at next : ℕ) (b : B) → Then first rest at (Read b next) → Free at next
      go at next b (goes {a = a} {next = n} x y) = free_on at n next (f.passes at n a x) ((r a).passes n next b y)

  pub b_then : {A B : Type 0} (first : Reading A) (rest : A → Reading B) → Begun first → ((a : A) → Clear (rest a)) → Begun (Then first rest)
  b_then {A} {B} first rest f r = record { passes = go }
    where
      go : (at next : ℕ) (b : B) → IsOther at → Then first rest at (Read b next) → Free at next
      go at next b other (goes {a = a} {next = n} x y) = free_on at n next (f.passes at n a other x) ((r a).passes n next b y)

  pub b_token : Begun (skip tokens)
  b_token = record { passes = λ at next a other e. free_one at next (cc e) other }

  pub b_skip : {B : Type 0} (rest : Reading B) → Clear rest → Begun (Then (skip tokens) (λ _. rest))
  b_skip rest r = b_then (skip tokens) (λ _. rest) b_token (λ _. r)

  -- what reads no token
  pub record Stays {A : Type 0} (R : Reading A) : Type 0 where
    pub stays : (at next : ℕ) (a : A) → R at (Read a next) → next ≡ at

  pub b_stay : {A B : Type 0} (first : Reading A) (rest : A → Reading B) → Stays first → ((a : A) → Begun (rest a)) → Begun (Then first rest)
  b_stay {A} {B} first rest f r = record { passes = go }
    where
      go : (at next : ℕ) (b : B) → IsOther at → Then first rest at (Read b next) → Free at next
      go at next b other (goes {a = a} {next = n} x y) =
          let same : n ≡ at = f.stays at n a x in
          free_on at n next (free_none at n same) ((r a).passes n next b (subst IsOther (sym same) other) y)

  pub c_stay : {A : Type 0} {R : Reading A} → Stays R → Clear R
  c_stay s = record { passes = λ at next a h. free_none at next (s.stays at next a h) }

  pub s_if : (test : ℕ → Bool) (f : ℕ → LoadFault) → Stays {A = Unit {0}} (λ at o. o ≡ cond (test at) (Read tt at) (Stops (f at)))
  s_if test f = record { stays = λ at next a h. if_case (test at) (f at) at next a h }
    where
      if_case : (b : Bool) (f : LoadFault) (at next : ℕ) (a : Unit {0}) → Read a next ≡ cond b (Read tt at) (Stops f) → next ≡ at
      if_case true f at next a h = cc h
      if_case false f at next a h = absurd (cc h)

  pub s_fits : (room n : ℕ) → Stays (fits tokens room n)
  s_fits room n = s_if (λ at. nat_le n room) _

  pub s_below : (n most : ℕ) → Stays (below tokens n most)
  s_below n most = s_if (λ at. nat_lt n most) _

  pub c_give : {A : Type 0} (a : A) → Clear (give a)
  c_give a = c_stay (record { stays = λ at next b e. cc e })

  pub c_stops : {A : Type 0} (f : ℕ → LoadFault) → Clear {A = A} (λ at o. o ≡ Stops (f at))
  c_stops f = record { passes = λ at next a e. absurd (cc e) }

  pub c_refuse : {A : Type 0} (sought : Sought) → Clear (refuse tokens {A = A} sought)
  c_refuse sought = c_stops (λ at. refusal_at tokens sought at)

  pub c_either : {A : Type 0} (b : Bool) (x y : Reading A) → Clear x → Clear y → Clear (either b x y)
  c_either true x y f g = f
  c_either false x y f g = g

  pub b_either : {A : Type 0} (b : Bool) (x y : Reading A) → Begun x → Begun y → Begun (either b x y)
  b_either true x y f g = f
  b_either false x y f g = g

  pub c_at : {A : Type 0} (R : ℕ → Reading A) → ((at : ℕ) → Clear (R at)) → Clear (λ at. R at at)
  c_at R r = record { passes = λ at. (r at).passes at }

  pub b_at : {A : Type 0} (R : ℕ → Reading A) → ((at : ℕ) → Begun (R at)) → Begun (λ at. R at at)
  b_at R r = record { passes = λ at. (r at).passes at }

  -- the alternative for `class_name` is clear, and the others are where they begin with another token
  pub c_look : {K A : Type 0} (view : ℕ → K) (by : K → Reading A) (of : Kind → ℕ → K) → ((at : ℕ) → view at ≡ of (kind_at tokens at) at) → ((at : ℕ) → Clear (by (of (Marked m.ClassName) at))) → ((k : K) → Begun (by k)) → Clear (Look view by)
  c_look {K} {A} view by of is word others = record { passes = go }
    where
      case_of : (at next : ℕ) (a : A) (k : K) → view at ≡ k → by k at (Read a next) → (b : Bool) → is_word_kind (kind_at tokens at) ≡ b → Free at next
      case_of at next a k x y false e = (others k).passes at next a e y
      case_of at next a k x y true e =
          let same : k ≡ of (Marked m.ClassName) at = sym x ∙ is at ∙ ap (λ c. of c at) (word_kind (kind_at tokens at) e) in
          let P : _ → Type 0 = λ c. by c at (Read a next) in
          (word at).passes at next a (subst P same y)

      go : (at next : ℕ) (a : A) → Look view by at (Read a next) → Free at next
      go at next a (looks {k = k} x y) = case_of at next a k x y (is_word_kind (kind_at tokens at)) refl

  pub c_mark : {A : Type 0} (by : Option Mark → Reading A) → Clear (by (Some m.ClassName)) → ((k : Option Mark) → Begun (by k)) → Clear (Look (mark_at tokens) by)
  c_mark by word others = c_look (mark_at tokens) by (λ k at. mark_of k) (λ at. refl) (λ at. word) others

  pub c_kind : {A : Type 0} (by : Kind → Reading A) → Clear (by (Marked m.ClassName)) → ((k : Kind) → Begun (by k)) → Clear (Look (kind_at tokens) by)
  c_kind by word others = c_look (kind_at tokens) by (λ k at. k) (λ at. refl) (λ at. word) others

  -- where each alternative is clear
  pub c_any : {K A : Type 0} (view : ℕ → K) (by : K → Reading A) → ((k : K) → Clear (by k)) → Clear (Look view by)
  c_any {K} {A} view by r = record { passes = go }
    where
      go : (at next : ℕ) (a : A) → Look view by at (Read a next) → Free at next
      go at next a (looks {k = k} x y) = (r k).passes at next a y

  pub b_any : {K A : Type 0} (view : ℕ → K) (by : K → Reading A) → ((k : K) → Begun (by k)) → Begun (Look view by)
  b_any {K} {A} view by r = record { passes = go }
    where
      go : (at next : ℕ) (a : A) → IsOther at → Look view by at (Read a next) → Free at next
      go at next a other (looks {k = k} x y) = (r k).passes at next a other y

  pub c_loop : {A : Type 0} (turn : A → Reading (Turn A)) → ((a : A) → Clear (turn a)) → (a : A) → Clear (Loop turn a)
  c_loop {A} turn t a = record { passes = go a }
    where
      go : (a : A) (at next : ℕ) (b : A) → Loop turn a at (Read b next) → Free at next
      go a at next b (Loop.on {b = c} {next = n} x y) = free_on at n next ((t a).passes at n (On c) x) (go c n next b y)
      go a at next b (Loop.last x) = (t a).passes at next (Last b) x

  pub some_mark : (kind : Kind) (wanted : Mark) → mark_of kind ≡ Some wanted → is_word_kind (Marked wanted) ≡ false → is_word_kind kind ≡ false
  some_mark (Name text) wanted e other = refl
  some_mark (Int n) wanted e other = refl
  some_mark (Text text) wanted e other = refl
  some_mark (Marked one) wanted e other = let same : one ≡ wanted = cc e in ap (λ w. is_word_kind (Marked w)) same ∙ other

  pub c_due : (sought : Sought) (wanted : Mark) → is_word_kind (Marked wanted) ≡ false → Clear (Due tokens sought wanted)
  c_due sought wanted other = record { passes = go }
    where
      go : (at next : ℕ) (a : Unit {0}) → Due tokens sought wanted at (Read a next) → Free at next
      go at next a (Due.found x) = free_one at next refl (some_mark (kind_at tokens at) wanted x other)

  one_other : {A : Type 0} (view : Kind → Option A) (kind : Kind) (a : A) → view (Marked m.ClassName) ≡ None → view kind ≡ Some a → (b : Bool) → is_word_kind kind ≡ b → b ≡ false
  one_other view kind a none is false e = refl
  one_other view kind a none is true e = absurd (let h = sym is ∙ ap view (word_kind kind e) ∙ none in cc h)

  pub c_one : {A : Type 0} (view : Kind → Option A) (sought : Sought) → view (Marked m.ClassName) ≡ None → Clear (OneOf tokens view sought)
  c_one {A} view sought none = record { passes = go }
    where
      go : (at next : ℕ) (a : A) → OneOf tokens view sought at (Read a next) → Free at next
      go at next a (OneOf.found x) = free_one at next refl (one_other view (kind_at tokens at) a none x (is_word_kind (kind_at tokens at)) refl)

  -- ---- lists in brackets

  b_comma : {A : Type 0} (sofar : List A) (k : Option Mark) → Begun (comma_by tokens sofar k)
  b_comma sofar (Some m.Comma) = b_skip _ (c_give _)
  b_comma sofar _ = b_clear (c_give _)

  pub c_comma : {A : Type 0} (sofar : List A) → Clear (comma tokens sofar)
  c_comma sofar = c_mark _ (c_give _) (b_comma sofar)

  module _ {A : Type 0} (item : Reading A) (i : Clear item) (closing : Mark) where
    item_passes : (sofar : List A) (at next : ℕ) (a : Turn (List A)) → Item tokens item closing sofar at (Read a next) → Free at next
    item_passes sofar at next a (Item.closed x) = free_none at next refl
    item_passes sofar at next a (Item.further x y) = (c_then item (λ x. comma tokens (sofar ++ x ∷ [])) i (λ x. c_comma (sofar ++ x ∷ []))).passes at next a y

    pub c_list : is_word_kind (Marked closing) ≡ false → Clear (list tokens item closing)
    c_list other = c_then _ _ (c_loop _ (λ sofar. record { passes = item_passes sofar }) []) (λ all. c_then _ _ (c_due Other closing other) (λ _. c_give _))

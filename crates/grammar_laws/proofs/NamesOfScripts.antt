-- The `class_name` of a script stands in the header.
use Rattle.std.proofs.Common.{◌≡◌, ℕ, ◌+◌, ◌<◌, Bool, true, false, cond, not, ◌||◌, List, [], ◌∷◌, ◌++◌, length, map, Option, Some, refl, sym, ap, ◌∙◌, subst, arith}
use Rattle.std.specs.List.{AllByRecursion, filter, list_any}
use Rattle.gd_syntax.specs.declared.fault.Place.{Place}
use Rattle.gd_syntax.specs.declared.token.Token.{Token}
use Rattle.gd_syntax.specs.declared.token.Kind.{Kind}
use Rattle.gd_syntax.specs.declared.token.Kind.TheVariants.{Mark as Marked, Name, Int, Text}
use Rattle.gd_syntax.specs.declared.token.Mark.{Mark}
use Rattle.gd_syntax.specs.declared.token.Mark.TheVariants as m
use Rattle.gd_syntax.specs.declared.tree.member.Annotation.{Annotation}
use Rattle.gd_syntax.specs.declared.tree.member.Base.{Base}
use Rattle.gd_syntax.specs.declared.tree.member.Head.{Head}
use Rattle.gd_syntax.specs.declared.tree.member.Head.TheVariants as h
use Rattle.gd_syntax.specs.declared.tree.member.Member.{Member}
use Rattle.gd_syntax.specs.declared.tree.member.Script.{Script}
use Rattle.gd_syntax.specs.declared.tree.type_name.Identifier.{Identifier}
use Rattle.gd_syntax.specs.Reading.{Read, Reading, Then, goes, looks, Turn, On, Last, give, either}
use Rattle.gd_syntax.specs.TokenReading.{OneOf, any_name, kind_at, mark_at, place_at}
use Rattle.gd_syntax.specs.DeclarationGrammar.{new_name}
use Rattle.gd_syntax.specs.MemberGrammar.{is_field_annotation}
use Rattle.gd_syntax.specs.ScriptGrammar.{Heads, is_head_annotation, with_first, with_annotation, with_head, is_named, is_based, class_name, extends, head_by, head, rest, file_by, in_header, script}
use Rattle.grammar_laws.specs.ClassNames.{HasName, HasOneName}
use Rattle.grammar_laws.proofs.Gives.{Gives, gives_then, gives_after, gives_look, gives_either, gives_give, gives_stops, TurnOf, gives_loop}

-- only a name is one
name_kind : (kind : Kind) (text : List ℕ) → any_name kind ≡ Some text → kind ≡ Name text
name_kind (Name word) text e = let same : word ≡ text = cc e in ap Name same
name_kind (Int n) text e = absurd (cc)
name_kind (Text word) text e = absurd (cc)
name_kind (Marked m) text e = absurd (cc)

all_append : {A : Type 0} (P : A → Type 0) (xs ys : List A) → AllByRecursion P xs → AllByRecursion P ys → AllByRecursion P (xs ++ ys)
all_append P [] ys f g = g
all_append P (x ∷ xs) ys f g = (f.0, all_append P xs ys f.1 g)

count_case : {A : Type 0} (test : A → Bool) (x : A) (xs ys : List A) (b : Bool) → length (filter test (xs ++ ys)) ≡ length (filter test xs) + length (filter test ys)
    → length (cond b (x ∷ filter test (xs ++ ys)) (filter test (xs ++ ys))) ≡ length (cond b (x ∷ filter test xs) (filter test xs)) + length (filter test ys)
count_case test x xs ys true ih = omega (arith, ih)
count_case test x xs ys false ih = ih

count_append : {A : Type 0} (test : A → Bool) (xs ys : List A) → length (filter test (xs ++ ys)) ≡ length (filter test xs) + length (filter test ys)
count_append test [] ys = omega arith
count_append test (x ∷ xs) ys = count_case test x xs ys (test x) (count_append test xs ys)

none_case : {A : Type 0} (test : A → Bool) (x : A) (xs : List A) (b : Bool) → (b || list_any test xs) ≡ false → (list_any test xs ≡ false → length (filter test xs) ≡ 0) → length (cond b (x ∷ filter test xs) (filter test xs)) ≡ 0
none_case test x xs true e ih = absurd (cc)
none_case test x xs false e ih = ih e

none_named : {A : Type 0} (test : A → Bool) (xs : List A) → list_any test xs ≡ false → length (filter test xs) ≡ 0
none_named test [] e = refl
none_named test (x ∷ xs) e = none_case test x xs (test x) e (none_named test xs)

-- annotations give no name
none_annotated : (all : List Annotation) → length (filter is_named (map h.Annotation all)) ≡ 0
none_annotated [] = refl
none_annotated (a ∷ all) = none_annotated all

module _ (tokens : List Token) (header_end : Place) where
  abbrev Named : Head → Type 0
  Named x = HasName tokens header_end x

  all_annotated : (all : List Annotation) → AllByRecursion Named (map h.Annotation all)
  all_annotated [] = tt
  all_annotated (a ∷ all) = (tt, all_annotated all)

  -- the heads that are read
  pub record AreNamed (heads : List Head) : Type 0 where
    pub names : AllByRecursion Named heads
    pub one : length (filter is_named heads) < 2

  abbrev Known : Heads → Type 0
  Known sofar = AreNamed sofar.0

  none_yet : AreNamed []
  none_yet = record { names = tt; one = omega arith }

  -- behind heads of which none gives a name, or where the head gives none
  add : (heads : List Head) (x : Head) → AreNamed heads → Named x → length (filter is_named heads) + length (filter is_named (x ∷ [])) < 2 → AreNamed (heads ++ x ∷ [])
  add heads x known named few = record { names = all_append Named heads (x ∷ []) known.names (named, tt); one = omega (arith, few, count_append is_named heads (x ∷ [])) }

  with_annotations : (heads : List Head) (all : List Annotation) → AreNamed heads → AreNamed (heads ++ map h.Annotation all)
  with_annotations heads all known = record {
    names = all_append Named heads (map h.Annotation all) known.names (all_annotated all);
    one = omega (arith, known.one, count_append is_named heads (map h.Annotation all), none_annotated all);
  }

  push : (heads : List Head) (all : List Annotation) (x : Head) → AreNamed heads → Named x → length (filter is_named heads) + length (filter is_named (x ∷ [])) < 2 → AreNamed (heads ++ map h.Annotation all ++ x ∷ [])
  push heads all x known named few = add (heads ++ map h.Annotation all) x (with_annotations heads all known) named (omega (arith, few, count_append is_named heads (map h.Annotation all), none_annotated all))

  first_known : (heads : List Head) (a : Annotation) (b : Bool) → AreNamed heads → Known (with_first heads a b)
  first_known heads a true known = add heads (h.Annotation a) known tt (omega (arith, known.one))
  first_known heads a false known = known

  annotation_known : (heads : List Head) (before : List Annotation) (a : Annotation) → AreNamed heads → Known (with_annotation heads before a)
  annotation_known heads [] a known = first_known heads a (is_head_annotation a) known
  annotation_known heads (b ∷ before) a known = known

  abbrev found : ℕ → Bool
  found = in_header tokens header_end

  new_name_is : (at next : ℕ) (name : Identifier) → new_name tokens at (Read name next) → (kind_at tokens at ≡ Name name.name) × (place_at tokens at ≡ name.place)
  new_name_is at next name (goes {a = text} (OneOf.found e) r) =
      let same : record { place = place_at tokens at; name = text } ≡ name = cc r in
      subst (λ (n : Identifier). (kind_at tokens at ≡ Name n.name) × (place_at tokens at ≡ n.place)) same (name_kind (kind_at tokens at) text e, refl)

  -- what a head that gives a name reads
  class_name_is : (based : Bool) (place : Place) (at next : ℕ) (x : Head) → class_name tokens found based place at (Read x next)
      → (name : Identifier) × (b : Option Base) × (x ≡ h.ClassName place name b) × (kind_at tokens (at + 1) ≡ Name name.name) × (place_at tokens (at + 1) ≡ name.place)
  class_name_is based place at next x (goes {next = n} e (goes {a = name} {next = k} named (goes {a = b} _ (goes _ r)))) =
      let there : n ≡ at + 1 = cc e in
      let is = new_name_is (at + 1) k name (subst (λ to. new_name tokens to (Read name k)) there named) in
      (name, b, cc r, is.0, is.1)

  named_head : (sofar : Heads) (at : ℕ) (based : Bool) (place : Place) → Known sofar → mark_at tokens at ≡ Some m.ClassName → place_at tokens at ≡ place → found at ≡ true → list_any is_named sofar.0 ≡ false
      → (next : ℕ) (t : Turn Heads) → Then (class_name tokens found based place) (λ x. give (On (with_head sofar x))) at (Read t next) → TurnOf Known t
  named_head sofar at based place known mark there inside none next t (goes {a = x} {next = k} read r) =
      let is = class_name_is based place at k x read in
      let name = is.0 in
      let b = is.1 in
      let named : Named (h.ClassName place name b) = (at, record { word = mark; word_place = there; known = inside; name_is = is.3; name_place = is.4 }) in
      let all = push sofar.0 sofar.1 (h.ClassName place name b) known named (omega (arith, none_named is_named sofar.0 none)) in
      let same : On (with_head sofar (h.ClassName place name b)) ≡ t = ap (λ y. On (with_head sofar y)) (sym is.2) ∙ (cc r) in
      subst (TurnOf Known) same all

  named_case : (sofar : Heads) (at : ℕ) (a b : Bool) (known_at : Bool) (place : Place) (based : Bool) → Known sofar → mark_at tokens at ≡ Some m.ClassName → place_at tokens at ≡ place → found at ≡ known_at → list_any is_named sofar.0 ≡ b
      → (next : ℕ) (t : Turn Heads) (refused : Reading (Turn Heads)) → ((t : Turn Heads) → refused at (Read t next) → ⊥)
      → either (a || (b || not known_at)) refused (Then (class_name tokens found based place) (λ x. give (On (with_head sofar x)))) at (Read t next) → TurnOf Known t
  named_case sofar at true b known_at place based known mark there inside none next t refused never h = absurd (never t h)
  named_case sofar at false true known_at place based known mark there inside none next t refused never h = absurd (never t h)
  named_case sofar at false false false place based known mark there inside none next t refused never h = absurd (never t h)
  named_case sofar at false false true place based known mark there inside none next t refused never h = named_head sofar at based place known mark there inside none next t h

  extends_known : (sofar : Heads) (place : Place) → Known sofar → Gives (TurnOf Known) (Then (extends tokens found place) (λ x. give (On (with_head sofar x))))
  extends_known sofar place known at next t (goes {a = x} (goes _ (goes {a = b} _ (goes _ e))) r) =
      let is : h.Extends place b ≡ x = cc e in
      let all = push sofar.0 sofar.1 (h.Extends place b) known tt (omega (arith, known.one)) in
      let same : On (with_head sofar (h.Extends place b)) ≡ t = ap (λ y. On (with_head sofar y)) is ∙ (cc r) in
      subst (TurnOf Known) same all

  head_known : (sofar : Heads) → Known sofar → (at next : ℕ) (t : Turn Heads) (k : Option Mark) → mark_at tokens at ≡ k → head_by tokens found sofar (place_at tokens at) (found at) k at (Read t next) → TurnOf Known t
  head_known sofar known at next t (Some m.At) mark h = gives_after (TurnOf Known) _ _ (λ a. gives_give (TurnOf Known) (On (with_annotation sofar.0 sofar.1 a)) (annotation_known sofar.0 sofar.1 a known)) at next t h
  head_known sofar known at next t (Some m.ClassName) mark h =
      named_case sofar at (list_any is_field_annotation sofar.1) (list_any is_named sofar.0) (found at) (place_at tokens at) (list_any is_based sofar.0) known mark refl refl refl next t _ (λ t e. cc e) h
  head_known sofar known at next t (Some m.Extends) mark h =
      gives_either (TurnOf Known) (list_any is_field_annotation sofar.1 || list_any is_based sofar.0) _ _ (gives_stops (TurnOf Known) _) (extends_known sofar (place_at tokens at) known) at next t h
  head_known sofar known at next t _ mark h = gives_give (TurnOf Known) (Last sofar) known at next t h

  turn_known : (sofar : Heads) → Known sofar → Gives (TurnOf Known) (head tokens found sofar)
  turn_known sofar known at next t (looks {k = k} mark h) = head_known sofar known at next t k mark h

  abbrev Whole : Script → Type 0
  Whole tree = AreNamed tree.heads

  rest_known : (place : Place) (heads : List Head) (first : List Member) → AreNamed heads → Gives Whole (rest tokens found place heads first)
  rest_known place heads first known = gives_after Whole _ _ (λ all. gives_after Whole _ _ (λ _. gives_give Whole (record { place = place; heads = heads; members = all.0 }) known))

  file_known : (place : Place) (sofar : Heads) → Known sofar → (b : Bool) → Gives Whole (file_by tokens found place sofar b)
  file_known place sofar known true = gives_after Whole _ _ (λ first. rest_known place sofar.0 first known)
  file_known place sofar known false = gives_after Whole _ _ (λ first. rest_known place _ first (with_annotations sofar.0 sofar.1 known))

  pub script_names : Gives (HasOneName tokens header_end) (script tokens header_end)
  script_names at next tree h =
      let known = gives_then Known Whole _ _ (gives_loop Known _ turn_known ([], []) none_yet) (λ sofar known. gives_look Whole _ _ (file_known (place_at tokens at) sofar known)) at next tree h in
      record { names = known.names; one = known.one }

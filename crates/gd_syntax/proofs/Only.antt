-- No reading of tokens has two outcomes.
use Rattle.std.proofs.Common.{◌≡◌, ℕ, ◌+◌, Bool, true, false, List, [], ◌∷◌, ◌++◌, Option, Some, refl, sym, ◌∙◌, subst}
use Rattle.gd_syntax.specs.declared.fault.Place.{Place}
use Rattle.gd_syntax.specs.declared.token.Token.{Token}
use Rattle.gd_syntax.specs.declared.token.Kind.{Kind}
use Rattle.gd_syntax.specs.declared.token.Kind.TheVariants.{Text}
use Rattle.gd_syntax.specs.declared.token.Mark.{Mark}
use Rattle.gd_syntax.specs.declared.token.Mark.TheVariants as m
use Rattle.gd_syntax.specs.Reading.{Outcome, Read, Reading, Then, goes, halts, Look, looks, Turn, Loop, either}
use Rattle.gd_syntax.specs.declared.stops.Sought.{Sought}
use Rattle.gd_syntax.specs.declared.stops.Sought.TheVariants.{Other}
use Rattle.gd_syntax.specs.TokenReading.{is_uid, place_at, skip, Due, OneOf, plain_name, identifier, path_text, path_text_by, Item, comma, comma_by, list}

abbrev pub Only : {A : Type 0} → Reading A → Type 0
Only {A} R = (at : ℕ) (p q : Outcome A) → R at p → R at q → p ≡ q

pub only_is : {A : Type 0} (f : ℕ → Outcome A) → Only (λ at o. o ≡ f at)
only_is f at p q x y = x ∙ sym y

pub only_then : {A B : Type 0} (first : Reading A) (rest : A → Reading B) → Only first → ((a : A) → Only (rest a)) → Only (Then first rest)
only_then first rest f r at p q (goes {a = a} {next = n} x y) (goes {a = b} {next = k} z w) =
    let e = f at _ _ x z in
    let same : b ≡ a = cc e in
    let here : k ≡ n = cc e in
    let P : ℕ → Type 0 = λ to. rest b to q in
    let Q : _ → Type 0 = λ c. rest c n q in
    r a n p q y (subst Q same (subst P here w))
only_then first rest f r at p q (goes x y) (halts z) = absurd (let e = f at _ _ x z in cc e)
only_then first rest f r at p q (halts x) (goes z w) = absurd (let e = f at _ _ x z in cc e)
only_then first rest f r at p q (halts {f = u} x) (halts {f = v} z) = let e = f at _ _ x z in cc e

pub only_look : {K A : Type 0} (view : ℕ → K) (by : K → Reading A) → ((k : K) → Only (by k)) → Only (Look view by)
only_look view by b at p q (looks {k = k} x y) (looks {k = l} z w) =
    let same : l ≡ k = sym z ∙ x in
    let P : _ → Type 0 = λ c. by c at q in
    b k at p q y (subst P same w)

pub only_loop : {A : Type 0} (turn : A → Reading (Turn A)) → ((a : A) → Only (turn a)) → (a : A) → Only (Loop turn a)
only_loop turn t a at p q (Loop.on {b = b} {next = n} x y) (Loop.on {b = c} {next = k} z w) =
    let e = t a at _ _ x z in
    let same : c ≡ b = cc e in
    let here : k ≡ n = cc e in
    let P : ℕ → Type 0 = λ to. Loop turn c to q in
    let Q : _ → Type 0 = λ d. Loop turn d n q in
    only_loop turn t b n p q y (subst Q same (subst P here w))
only_loop turn t a at p q (Loop.on x y) (Loop.last z) = absurd (let e = t a at _ _ x z in cc e)
only_loop turn t a at p q (Loop.on x y) (Loop.stop z) = absurd (let e = t a at _ _ x z in cc e)
only_loop turn t a at p q (Loop.last x) (Loop.on z w) = absurd (let e = t a at _ _ x z in cc e)
only_loop turn t a at p q (Loop.last x) (Loop.last z) = let e = t a at _ _ x z in cc e
only_loop turn t a at p q (Loop.last x) (Loop.stop z) = absurd (let e = t a at _ _ x z in cc e)
only_loop turn t a at p q (Loop.stop x) (Loop.on z w) = absurd (let e = t a at _ _ x z in cc e)
only_loop turn t a at p q (Loop.stop x) (Loop.last z) = absurd (let e = t a at _ _ x z in cc e)
only_loop turn t a at p q (Loop.stop x) (Loop.stop z) = let e = t a at _ _ x z in cc e

pub only_either : {A : Type 0} (b : Bool) (x y : Reading A) → Only x → Only y → Only (either b x y)
only_either true x y f g = f
only_either false x y f g = g

module _ (tokens : List Token) where
  pub only_skip : Only (skip tokens)
  only_skip = only_is (λ at. Read tt (at + 1))

  pub only_due : (sought : Sought) (wanted : Mark) → Only (Due tokens sought wanted)
  only_due sought wanted at p q (Due.found x) (Due.found y) = refl
  only_due sought wanted at p q (Due.missing x) (Due.missing y) = refl
  only_due sought wanted at p q (Due.found x) (Due.missing y) = absurd (y x)
  only_due sought wanted at p q (Due.missing x) (Due.found y) = absurd (x y)

  pub only_one : {A : Type 0} (view : Kind → Option A) (sought : Sought) → Only (OneOf tokens view sought)
  only_one view sought at p q (OneOf.found x) (OneOf.found y) = let e = sym x ∙ y in cc e
  only_one view sought at p q (OneOf.missing x) (OneOf.missing y) = refl
  only_one view sought at p q (OneOf.found x) (OneOf.missing y) = absurd (let e = sym x ∙ y in cc e)
  only_one view sought at p q (OneOf.missing x) (OneOf.found y) = absurd (let e = sym x ∙ y in cc e)

  pub only_identifier : Only (identifier tokens)
  only_identifier at = only_then _ _ (only_one plain_name Other) (λ _. only_is _) at

  only_path_text_by : (sought : Sought) (place : Place) (k : Kind) → Only (path_text_by tokens sought place k)
  only_path_text_by sought place (Text text) = only_either (is_uid text) _ _ (only_is _) (only_then _ _ only_skip (λ _. only_is _))
  only_path_text_by sought place _ = only_is _

  pub only_path_text : (sought : Sought) → Only (path_text tokens sought)
  only_path_text sought at = only_look _ _ (only_path_text_by sought (place_at tokens at)) at

  -- after an item
  only_after : {A : Type 0} (sofar : List A) (k : Option Mark) → Only (comma_by tokens sofar k)
  only_after sofar (Some m.Comma) = only_then _ _ only_skip (λ _. only_is _)
  only_after sofar _ = only_is _

  pub only_comma_turn : {A : Type 0} (sofar : List A) → Only (comma tokens sofar)
  only_comma_turn sofar = only_look _ _ (only_after sofar)

  module _ {A : Type 0} (item : Reading A) (i : Only item) where
    only_item : (closing : Mark) (sofar : List A) → Only (Item tokens item closing sofar)
    only_item closing sofar at p q (Item.closed x) (Item.closed y) = refl
    only_item closing sofar at p q (Item.further x y) (Item.further z w) = only_then _ _ i (λ a. only_comma_turn (sofar ++ a ∷ [])) at p q y w
    only_item closing sofar at p q (Item.closed x) (Item.further z w) = absurd (z x)
    only_item closing sofar at p q (Item.further x y) (Item.closed z) = absurd (x z)

    pub only_list : (closing : Mark) → Only (list tokens item closing)
    only_list closing = only_then _ _ (only_loop _ (only_item closing) []) (λ all. only_then _ _ (only_due Other closing) (λ _. only_is _))

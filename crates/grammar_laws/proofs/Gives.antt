-- What is known of each tree that a reading gives.
use Rattle.std.proofs.Common.{◌≡◌, ℕ, ◌≤◌, ◌<◌, nat_le, nat_lt, Bool, true, false, cond, List, [], ◌∷◌, ◌++◌, Option, Some, refl, subst, arith}
use Rattle.std.proofs.lemmas.Bool.Decides.{nat_tests}
use Rattle.gd_syntax.specs.declared.fault.LoadFault.{LoadFault}
use Rattle.gd_syntax.specs.declared.token.Token.{Token}
use Rattle.gd_syntax.specs.declared.token.Mark.{Mark}
use Rattle.gd_syntax.specs.declared.token.Mark.TheVariants as m
use Rattle.gd_syntax.specs.Reading.{Read, Stops, Reading, Then, goes, Look, looks, Turn, On, Last, Loop, give, either}
use Rattle.gd_syntax.specs.TokenReading.{Item, comma, comma_by, fits, list}
use Rattle.gd_syntax.specs.DeclarationGrammar.{below}

abbrev pub Gives : {A : Type 0} → (A → Type 0) → Reading A → Type 0
Gives {A} P R = (at next : ℕ) (a : A) → R at (Read a next) → P a

pub gives_then : {A B : Type 0} (Q : A → Type 0) (P : B → Type 0) (first : Reading A) (rest : A → Reading B) → Gives Q first → ((a : A) → Q a → Gives P (rest a)) → Gives P (Then first rest)
gives_then Q P first rest f r at next b (goes {a = a} {next = n} x y) = r a (f at n a x) n next b y

-- whatever the first part gives
pub gives_after : {A B : Type 0} (P : B → Type 0) (first : Reading A) (rest : A → Reading B) → ((a : A) → Gives P (rest a)) → Gives P (Then first rest)
gives_after P first rest r at next b (goes {a = a} {next = n} x y) = r a n next b y

pub gives_look : {K A : Type 0} (P : A → Type 0) (view : ℕ → K) (by : K → Reading A) → ((k : K) → Gives P (by k)) → Gives P (Look view by)
gives_look P view by b at next a (looks {k = k} x y) = b k at next a y

pub gives_either : {A : Type 0} (P : A → Type 0) (b : Bool) (x y : Reading A) → Gives P x → Gives P y → Gives P (either b x y)
gives_either P true x y f g = f
gives_either P false x y f g = g

pub gives_give : {A : Type 0} (P : A → Type 0) (a : A) → P a → Gives P (give a)
gives_give P a p at next b e = let same : a ≡ b = cc e in subst P same p

-- a reading that always stops
pub gives_stops : {A : Type 0} (P : A → Type 0) (f : ℕ → LoadFault) → Gives P (λ at o. o ≡ Stops (f at))
gives_stops P f at next a e = absurd (cc e)

pub gives_more : {A : Type 0} (P Q : A → Type 0) (R : Reading A) → ((a : A) → P a → Q a) → Gives P R → Gives Q R
gives_more P Q R f g at next a h = f a (g at next a h)

-- what is known of what a turn gives
abbrev pub TurnOf : {A : Type 0} → (A → Type 0) → Turn A → Type 0
TurnOf I (On a) = I a
TurnOf I (Last a) = I a

pub gives_loop : {A : Type 0} (I : A → Type 0) (turn : A → Reading (Turn A)) → ((a : A) → I a → Gives (TurnOf I) (turn a)) → (a : A) → I a → Gives I (Loop turn a)
gives_loop I turn t a i at next b (Loop.on {b = c} {next = n} x y) = gives_loop I turn t c (t a i at n (On c) x) n next b y
gives_loop I turn t a i at next b (Loop.last x) = t a i at next (Last b) x

fits_case : (n room : ℕ) (b : Bool) (f : LoadFault) (at next : ℕ) (a : Unit {0}) → nat_le n room ≡ b → Read a next ≡ cond b (Read tt at) (Stops f) → n ≤ room
fits_case n room true f at next a test e = grind (arith, nat_tests)
fits_case n room false f at next a test e = absurd (cc e)

below_case : (n most : ℕ) (b : Bool) (f : LoadFault) (at next : ℕ) (a : Unit {0}) → nat_lt n most ≡ b → Read a next ≡ cond b (Read tt at) (Stops f) → n < most
below_case n most true f at next a test e = grind (arith, nat_tests)
below_case n most false f at next a test e = absurd (cc e)

module _ (tokens : List Token) where
  pub gives_fits : (room n : ℕ) → Gives (λ _. n ≤ room) (fits tokens room n)
  gives_fits room n at next a e = fits_case n room (nat_le n room) _ at next a refl e

  pub gives_below : (n most : ℕ) → Gives (λ _. n < most) (below tokens n most)
  gives_below n most at next a e = below_case n most (nat_lt n most) _ at next a refl e

  -- ---- lists in brackets

  gives_comma_by : {A : Type 0} (I : List A → Type 0) (sofar : List A) → I sofar → (k : Option Mark) → Gives (TurnOf I) (comma_by tokens sofar k)
  gives_comma_by I sofar i (Some m.Comma) = gives_after (TurnOf I) _ _ (λ _. gives_give (TurnOf I) (On sofar) i)
  gives_comma_by I sofar i _ = gives_give (TurnOf I) (Last sofar) i

  pub gives_comma : {A : Type 0} (I : List A → Type 0) (sofar : List A) → I sofar → Gives (TurnOf I) (comma tokens sofar)
  gives_comma I sofar i = gives_look (TurnOf I) _ _ (gives_comma_by I sofar i)

  module _ {A : Type 0} (I : List A → Type 0) (Q : A → Type 0) (item : Reading A) (q : Gives Q item) (push : (sofar : List A) (x : A) → I sofar → Q x → I (sofar ++ x ∷ [])) where
    gives_item : (closing : Mark) (sofar : List A) → I sofar → Gives (TurnOf I) (Item tokens item closing sofar)
    gives_item closing sofar i at next a (Item.closed x) = i
    gives_item closing sofar i at next a (Item.further x y) = gives_then Q (TurnOf I) item (λ x. comma tokens (sofar ++ x ∷ [])) q (λ x h. gives_comma I (sofar ++ x ∷ []) (push sofar x i h)) at next a y

    pub gives_list : (closing : Mark) → I [] → Gives I (list tokens item closing)
    gives_list closing i = gives_then I I _ _ (gives_loop I _ (gives_item closing) [] i) (λ all h. gives_after I _ _ (λ _. gives_give I all h))

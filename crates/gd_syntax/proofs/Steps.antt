-- A reading, from what the calls that read its parts have answered.
use Rattle.std.proofs.Common.{◌≡◌, ◌≢◌, ℕ, ◌+◌, ◌<◌, List, Option, Some, Result, Ok, Err, length, get_or, refl, sym, subst, ap}
use Rattle.std.specs.Result.{IsErrAnd}
use Rattle.std.proofs.lemmas.Option.{slice_get-get_or}
use Rattle.gd_syntax.specs.declared.fault.LoadFault.{LoadFault}
use Rattle.gd_syntax.specs.declared.fault.SolveError.{SolveError}
use Rattle.gd_syntax.specs.declared.fault.SolveError.TheVariants.{Fault, NoMemory}
use Rattle.gd_syntax.specs.declared.fault.Place.{Place}
use Rattle.gd_syntax.specs.declared.token.Kind.{Kind}
use Rattle.gd_syntax.specs.declared.token.Kind.TheVariants.{Text}
use Rattle.gd_syntax.specs.declared.token.Mark.{Mark}
use Rattle.gd_syntax.specs.declared.token.Mark.TheVariants as m
use Rattle.gd_syntax.specs.declared.token.Token.{Token}
use Rattle.gd_syntax.specs.Reading.{Outcome, Read, Stops, looks, Turn, Last, Fails, Answers, Gives}
use Rattle.gd_syntax.specs.declared.stops.Sought.{Sought}
use Rattle.gd_syntax.specs.TokenReading.{kind_of, place_of, kind_at, mark_at, place_at, refuse, fits, comma, comma_by, path_text, path_text_by}

pub kind_at_is : (tokens : List Token) (at : ℕ) (d : Token) → at < length tokens → (get_or tokens at d).kind ≡ kind_at tokens at
unfolding kind_at
kind_at_is tokens at d h = ap kind_of (sym (slice_get-get_or tokens at d h))

pub place_at_is : (tokens : List Token) (at : ℕ) (d : Token) → at < length tokens → (get_or tokens at d).place ≡ place_at tokens at
unfolding place_at
place_at_is tokens at d h = ap place_of (sym (slice_get-get_or tokens at d h))

-- where a part failed, the whole fails alike
pub fails_by : {A B : Type 0} (R : Outcome A → Type 0) (S : Outcome B → Type 0) (e : SolveError) → ((f : LoadFault) → R (Stops f) → S (Stops f)) → Fails e R → Fails e S
fails_by R S NoMemory k h = tt
fails_by R S (Fault f) k h = k f h

-- the exit of a `?`
pub exit : {A B Y : Type 0} (R : Outcome A → Type 0) (S : Outcome B → Type 0) (g : Y → Outcome B) (r : Result Y SolveError) (e : SolveError)
    → IsErrAnd r (λ y. y ≡ e) → ((f : LoadFault) → R (Stops f) → S (Stops f)) → Fails e R → Answers g r S
exit R S g (Ok y) e is k h = absurd is
exit R S g (Err x) e is k h = rw is (fails_by R S e k h)

-- a last call, whose answer is returned as it is
pub answers_by : {A B X : Type 0} (R : Outcome A → Type 0) (S : Outcome B → Type 0) (f : X → Outcome A) (g : X → Outcome B) (r : Result X SolveError)
    → ((x : X) → R (f x) → S (g x)) → ((x : LoadFault) → R (Stops x) → S (Stops x)) → Answers f r R → Answers g r S
answers_by R S f g (Ok x) ok err h = ok x h
answers_by R S f g (Err e) ok err h = fails_by R S e err h

-- the limit, by a number that the code counted
pub fits_by : (tokens : List Token) (room n m at : ℕ) {o : Outcome (Unit {0})} → n ≡ m → fits tokens room (n + 1) at o → fits tokens room (m + 1) at o
fits_by tokens room n m at {o} e h = subst (λ k. fits tokens room (k + 1) at o) e h

-- the exit of a `?`, where a reading has one outcome
pub exit_only : {A Y : Type 0} (R : Outcome A → Type 0) (g : Y → Outcome A) (r : Result Y SolveError) (e : SolveError)
    → IsErrAnd r (λ y. y ≡ e) → ((p q : Outcome A) → R p → R q → p ≡ q) → Fails e R → (o : Outcome A) → R o → Gives g r o
exit_only R g (Ok y) e is only h o x = absurd is
exit_only R g (Err NoMemory) e is only h o x = tt
exit_only R g (Err (Fault f)) e is only h o x = only o (Stops f) x (let P : SolveError → Type 0 = λ z. Fails z R in subst P (sym is) h)

-- ---- the alternative where the next token begins no other

module _ (tokens : List Token) where
  comma_none_by : {A : Type 0} (sofar : List A) (k : Option Mark) (at : ℕ) (o : Outcome (Turn (List A))) → k ≢ Some m.Comma → o ≡ Read (Last sofar) at → comma_by tokens sofar k at o
  comma_none_by sofar (Some m.Comma) at o e h = absurd (e refl)
  comma_none_by sofar _ at o e h = h

  pub comma_none : {A : Type 0} (sofar : List A) (at : ℕ) → mark_at tokens at ≢ Some m.Comma → comma tokens sofar at (Read (Last sofar) at)
  comma_none sofar at e = looks refl (comma_none_by sofar (mark_at tokens at) at _ e refl)

  path_none_by : (sought : Sought) (place : Place) (k : Kind) (at : ℕ) (o : _) → ((text : List ℕ) → k ≢ Text text) → refuse tokens sought at o → path_text_by tokens sought place k at o
  path_none_by sought place (Text text) at o e h = absurd (e text refl)
  path_none_by sought place _ at o e h = h

  pub path_none : (sought : Sought) (at : ℕ) (o : _) → ((text : List ℕ) → kind_at tokens at ≢ Text text) → refuse tokens sought at o → path_text tokens sought at o
  path_none sought at o e h = looks refl (path_none_by sought (place_at tokens at) (kind_at tokens at) at o e h)

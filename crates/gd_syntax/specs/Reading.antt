-- How a form is read from a place in the tokens: it gives a tree and the place after it, or stops at a token.
use Rattle.std.specs.Prelude.{◌≡◌, ℕ, Bool, true, false, Result, Ok, Err}
use Rattle.gd_syntax.specs.declared.fault.LoadFault.{LoadFault}
use Rattle.gd_syntax.specs.declared.fault.SolveError.{SolveError}
use Rattle.gd_syntax.specs.declared.fault.SolveError.TheVariants.{Fault, NoMemory}

pub data Outcome (A : Type 0) : Type 0 where
  Read : A → ℕ → Outcome A
  Stops : LoadFault → Outcome A

-- from this place the form has this outcome
abbrev pub Reading : Type 0 → Type 1
Reading A = ℕ → Outcome A → Type 0

-- The parts of a production are read in order. The first part that stops ends the reading.
pub data Then {A B : Type 0} (first : Reading A) (rest : A → Reading B) : ℕ → Outcome B → Type 0 where
  goes : {a : A} {at next : ℕ} {o : Outcome B} → first at (Read a next) → rest a next o → Then first rest at o
  halts : {at : ℕ} {f : LoadFault} → first at (Stops f) → Then first rest at (Stops f)

infixl 10 ◌>>=◌
abbrev pub ◌>>=◌ : {A B : Type 0} → Reading A → (A → Reading B) → Reading B
first >>= rest = Then first rest

infixl 10 ◌>>◌
abbrev pub ◌>>◌ : {A B : Type 0} → Reading A → Reading B → Reading B
first >> rest = Then first (λ _. rest)

-- the first where the test holds
abbrev pub either : {A : Type 0} → Bool → Reading A → Reading A → Reading A
either true a b = a
either false a b = b

-- the alternative that the next token begins
pub data Look {K A : Type 0} (view : ℕ → K) (by : K → Reading A) : ℕ → Outcome A → Type 0 where
  looks : {k : K} {at : ℕ} {o : Outcome A} → view at ≡ k → by k at o → Look view by at o

-- the reading ends here
abbrev pub fail : {A : Type 0} → LoadFault → Reading A
fail fault = λ at o. o ≡ Stops fault

-- nothing more is read
abbrev pub give : {A : Type 0} → A → Reading A
give a = λ at o. o ≡ Read a at

-- a turn of a repetition either goes on, or was the last
pub data Turn (A : Type 0) : Type 0 where
  On : A → Turn A
  Last : A → Turn A

pub data Loop {A : Type 0} (turn : A → Reading (Turn A)) : A → ℕ → Outcome A → Type 0 where
  on : {a b : A} {at next : ℕ} {o : Outcome A} → turn a at (Read (On b) next) → Loop turn b next o → Loop turn a at o
  last : {a b : A} {at next : ℕ} → turn a at (Read (Last b) next) → Loop turn a at (Read b next)
  stop : {a : A} {at : ℕ} {f : LoadFault} → turn a at (Stops f) → Loop turn a at (Stops f)

-- What a function that reads ensures: its answer is the outcome, unless memory runs out.
abbrev pub Fails : {A : Type 0} → SolveError → (Outcome A → Type 0) → Type 0
Fails NoMemory reads = Unit {0}
Fails (Fault f) reads = reads (Stops f)

abbrev pub Answers : {A B : Type 0} → (A → Outcome B) → Result A SolveError → (Outcome B → Type 0) → Type 0
Answers found (Ok a) reads = reads (found a)
Answers found (Err e) reads = Fails e reads

-- The outcome that was found is this one, unless memory ran out.
abbrev pub Gives : {A B : Type 0} → (A → Outcome B) → Result A SolveError → Outcome B → Type 0
Gives found (Ok a) o = o ≡ found a
Gives found (Err NoMemory) o = Unit {0}
Gives found (Err (Fault f)) o = o ≡ Stops f

abbrev pub HasOneOutcome : {A : Type 0} → (Outcome A → Type 0) → Type 0
HasOneOutcome {A} reads = (o : Outcome A) × reads o × ((p : Outcome A) → reads p → p ≡ o)

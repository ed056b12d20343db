-- Which files are taken so far: one function `_init` without parameters, whose statements are calls of `print` with 1 to
-- 16 arguments. An argument is a string, or a chain of at most 64 operators `+ - *` over whole numbers.
--
--     file     = "func" "_init" "(" ")" ":" ( line | NL INDENT { line } DEDENT ) end
--     line     = call { ";" call } [ ";" ] NL
--     call     = "print" "(" argument { "," argument } [ "," ] ")"
--     argument = string | number { ( "+" | "-" | "*" ) number }
--
-- A reading with these forms alone stops as `Unbuilt`, at the first token that no file which is taken has there.
use Rattle.std.specs.Prelude.{◌≡◌, ◌≢◌, ℕ, ◌+◌, nat_lt, Bool, true, false, if◌then◌else◌, List, codes, bytes_eq, Option, Some, None}
use Rattle.gd_syntax.specs.declared.fault.FaultKind.TheVariants.{Unbuilt}
use Rattle.gd_syntax.specs.declared.token.Token.{Token}
use Rattle.gd_syntax.specs.declared.token.Kind.{Kind}
use Rattle.gd_syntax.specs.declared.token.Kind.TheVariants.{Name, Text, Int}
use Rattle.gd_syntax.specs.declared.token.Mark.{Mark}
use Rattle.gd_syntax.specs.declared.token.Mark.TheVariants as m
use Rattle.gd_syntax.specs.Reading.{Outcome, Read, Stops, Reading, ◌>>=◌, ◌>>◌, give, either, Look, Turn, On, Last, Loop}
use Rattle.gd_syntax.specs.TokenReading.{kind_at, mark_at, fault_at, skip}

abbrev pub max_arguments : ℕ
max_arguments = 16

abbrev pub max_operators : ℕ
max_operators = 64

-- this very word
abbrev pub is_word : List ℕ → Kind → Bool
is_word word (Name name) = bytes_eq name word
is_word word _ = false

abbrev pub is_number : Kind → Bool
is_number (Int n) = true
is_number _ = false

-- an operator of a chain
abbrev pub is_operator : Option Mark → Bool
is_operator (Some m.Plus) = true
is_operator (Some m.Minus) = true
is_operator (Some m.Star) = true
is_operator _ = false

module _ (tokens : List Token) where
  -- no file that is taken has this token here
  abbrev pub unbuilt : {A : Type 0} → Reading A
  unbuilt = λ at o. o ≡ Stops (fault_at tokens Unbuilt at)

  -- this very token
  pub data Due (wanted : Mark) : ℕ → Outcome (Unit {0}) → Type 0 where
    found : {at : ℕ} → mark_at tokens at ≡ Some wanted → Due wanted at (Read tt (at + 1))
    missing : {at : ℕ} → mark_at tokens at ≢ Some wanted → Due wanted at (Stops (fault_at tokens Unbuilt at))

  -- the token, where it is one that may stand here
  abbrev pub one : Bool → Reading (Unit {0})
  one may = either may (skip tokens) unbuilt

  abbrev pub word : List ℕ → Reading (Unit {0})
  word text = Look (λ at. is_word text (kind_at tokens at)) one

  abbrev pub number : Reading (Unit {0})
  number = Look (λ at. is_number (kind_at tokens at)) one

  -- ---- arguments

  -- so many operators stand before
  abbrev pub operator_by : ℕ → Bool → Reading (Turn ℕ)
  operator_by n true = either (nat_lt n max_operators) (do skip tokens; number; give (On (n + 1))) unbuilt
  operator_by n false = give (Last n)

  abbrev pub operator : ℕ → Reading (Turn ℕ)
  operator n = Look (λ at. is_operator (mark_at tokens at)) (operator_by n)

  abbrev pub operators : Reading (Unit {0})
  operators = do Loop operator 0; give tt

  abbrev pub argument_by : Kind → Reading (Unit {0})
  argument_by (Text text) = skip tokens
  argument_by (Int n) = do skip tokens; operators
  argument_by _ = unbuilt

  abbrev pub argument : Reading (Unit {0})
  argument = Look (kind_at tokens) argument_by

  -- Behind a comma: so many arguments stand before, and a comma may end them.
  abbrev pub parted_argument_by : ℕ → Option Mark → Reading (Turn ℕ)
  parted_argument_by n (Some m.RParen) = give (Last n)
  parted_argument_by n _ = either (nat_lt n max_arguments) (do argument; give (On (n + 1))) unbuilt

  abbrev pub further_argument_by : ℕ → Option Mark → Reading (Turn ℕ)
  further_argument_by n (Some m.Comma) = do skip tokens; Look (mark_at tokens) (parted_argument_by n)
  further_argument_by n _ = give (Last n)

  abbrev pub further_argument : ℕ → Reading (Turn ℕ)
  further_argument n = Look (mark_at tokens) (further_argument_by n)

  abbrev pub further_arguments : Reading (Unit {0})
  further_arguments = do Loop further_argument 1; give tt

  -- ---- lines

  abbrev pub call : Reading (Unit {0})
  call = do word (codes "print"); Due m.LParen; argument; further_arguments; Due m.RParen

  -- behind `;` the line may end
  abbrev pub parted_call_by : Option Mark → Reading (Turn (Unit {0}))
  parted_call_by (Some m.Newline) = give (Last tt)
  parted_call_by _ = do call; give (On tt)

  abbrev pub further_call_by : Option Mark → Reading (Turn (Unit {0}))
  further_call_by (Some m.Semicolon) = do skip tokens; Look (mark_at tokens) parted_call_by
  further_call_by _ = give (Last tt)

  abbrev pub further_call : Unit {0} → Reading (Turn (Unit {0}))
  further_call _ = Look (mark_at tokens) further_call_by

  abbrev pub line : Reading (Unit {0})
  line = do call; Loop further_call tt; Due m.Newline

  -- ---- the file

  abbrev pub further_line_by : Option Mark → Reading (Turn (Unit {0}))
  further_line_by (Some m.Dedent) = give (Last tt)
  further_line_by _ = do line; give (On tt)

  abbrev pub further_line : Unit {0} → Reading (Turn (Unit {0}))
  further_line _ = Look (mark_at tokens) further_line_by

  -- lines on the line of the `:`, or indented below it
  abbrev pub body_by : Option Mark → Reading (Unit {0})
  body_by (Some m.Newline) = do skip tokens; Due m.Indent; Loop further_line tt; Due m.Dedent
  body_by _ = line

  abbrev pub head : Reading (Unit {0})
  head = do Due m.Func; word (codes "_init"); Due m.LParen; Due m.RParen; Due m.Colon

  abbrev pub file : Reading (Unit {0})
  file = do head; Look (mark_at tokens) body_by; Due m.End

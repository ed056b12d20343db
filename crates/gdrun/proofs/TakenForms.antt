-- Each reading of the forms that are taken has exactly one outcome.
use Rattle.std.proofs.Common.{ℕ, ◌+◌, ◌≤◌, inl, inr, nat_lt, Bool, true, false, List, codes, Option, Some, None, refl, arith}
use Rattle.gd_syntax.specs.declared.token.Token.{Token}
use Rattle.gd_syntax.specs.declared.token.Kind.{Kind}
use Rattle.gd_syntax.specs.declared.token.Kind.TheVariants.{Mark as Marked, Name, Text, Int}
use Rattle.gd_syntax.specs.declared.token.Mark.{Mark}
use Rattle.gd_syntax.specs.declared.token.Mark.TheVariants as m
use Rattle.gd_syntax.specs.Reading.{Outcome, Read, Reading, Then, Turn, Loop}
use Rattle.gd_syntax.specs.TokenReading.{kind_at, mark_at, mark_of}
use Rattle.grammar_laws.proofs.Exists.{Sound, Reads, Takes, Moves, taken, takes, reads_then, reads, sound_look, sound_stops, sound_either, reads_give, goes_on, ends, moves_look, Ends, ends_look, ends_mark, reads_loop, takes_skip, decide_mark, Starts, starts_then, starts_look, starts_either, starts_stops}
use Rattle.gd_syntax.proofs.Only.{Only, only_is, only_then, only_look, only_loop, only_either, only_skip}
use Rattle.gdrun.specs.Taken.{max_arguments, max_operators, is_word, is_number, is_operator, unbuilt, Due, one, word, number, operator_by, operator, operators, argument_by, argument, parted_argument_by, further_argument_by, further_argument, further_arguments, call, parted_call_by, further_call_by, further_call, line, further_line_by, further_line, body_by, head, file}

module _ (tokens : List Token) where
  -- ---- at most one

  only_due : (wanted : Mark) → Only (Due tokens wanted)
  only_due wanted at p q (Due.found x) (Due.found y) = refl
  only_due wanted at p q (Due.missing x) (Due.missing y) = refl
  only_due wanted at p q (Due.found x) (Due.missing y) = absurd (y x)
  only_due wanted at p q (Due.missing x) (Due.found y) = absurd (x y)

  only_one : (may : Bool) → Only (one tokens may)
  only_one may = only_either may _ _ (only_skip tokens) (only_is _)

  only_word : (text : List ℕ) → Only (word tokens text)
  only_word text = only_look _ _ only_one

  only_number : Only (number tokens)
  only_number = only_look _ _ only_one

  only_operator_by : (n : ℕ) (k : Bool) → Only (operator_by tokens n k)
  only_operator_by n true = only_either (nat_lt n max_operators) _ _ (only_then _ _ (only_skip tokens) (λ _. only_then _ _ only_number (λ _. only_is _))) (only_is _)
  only_operator_by n false = only_is _

  only_operators : Only (operators tokens)
  only_operators = only_then _ _ (only_loop _ (λ n. only_look _ _ (only_operator_by n)) 0) (λ _. only_is _)

  only_argument_by : (k : Kind) → Only (argument_by tokens k)
  only_argument_by (Text text) = only_skip tokens
  only_argument_by (Int n) = only_then _ _ (only_skip tokens) (λ _. only_operators)
  only_argument_by _ = only_is _

  only_argument : Only (argument tokens)
  only_argument = only_look _ _ only_argument_by

  only_parted_argument_by : (n : ℕ) (k : Option Mark) → Only (parted_argument_by tokens n k)
  only_parted_argument_by n (Some m.RParen) = only_is _
  only_parted_argument_by n _ = only_either (nat_lt n max_arguments) _ _ (only_then _ _ only_argument (λ _. only_is _)) (only_is _)

  only_further_argument_by : (n : ℕ) (k : Option Mark) → Only (further_argument_by tokens n k)
  only_further_argument_by n (Some m.Comma) = only_then _ _ (only_skip tokens) (λ _. only_look _ _ (only_parted_argument_by n))
  only_further_argument_by n _ = only_is _

  only_further_arguments : Only (further_arguments tokens)
  only_further_arguments = only_then _ _ (only_loop _ (λ n. only_look _ _ (only_further_argument_by n)) 1) (λ _. only_is _)

  only_call : Only (call tokens)
  only_call = only_then _ _ (only_word (codes "print")) (λ _. only_then _ _ (only_due m.LParen) (λ _. only_then _ _ only_argument (λ _. only_then _ _ only_further_arguments (λ _. only_due m.RParen))))

  only_parted_call_by : (k : Option Mark) → Only (parted_call_by tokens k)
  only_parted_call_by (Some m.Newline) = only_is _
  only_parted_call_by _ = only_then _ _ only_call (λ _. only_is _)

  only_further_call_by : (k : Option Mark) → Only (further_call_by tokens k)
  only_further_call_by (Some m.Semicolon) = only_then _ _ (only_skip tokens) (λ _. only_look _ _ only_parted_call_by)
  only_further_call_by _ = only_is _

  only_line : Only (line tokens)
  only_line = only_then _ _ only_call (λ _. only_then _ _ (only_loop _ (λ _. only_look _ _ only_further_call_by) tt) (λ _. only_due m.Newline))

  only_further_line_by : (k : Option Mark) → Only (further_line_by tokens k)
  only_further_line_by (Some m.Dedent) = only_is _
  only_further_line_by _ = only_then _ _ only_line (λ _. only_is _)

  only_body_by : (k : Option Mark) → Only (body_by tokens k)
  only_body_by (Some m.Newline) = only_then _ _ (only_skip tokens) (λ _. only_then _ _ (only_due m.Indent) (λ _. only_then _ _ (only_loop _ (λ _. only_look _ _ only_further_line_by) tt) (λ _. only_due m.Dedent)))
  only_body_by _ = only_line

  only_head : Only (head tokens)
  only_head = only_then _ _ (only_due m.Func) (λ _. only_then _ _ (only_word (codes "_init")) (λ _. only_then _ _ (only_due m.LParen) (λ _. only_then _ _ (only_due m.RParen) (λ _. only_due m.Colon))))

  pub only_file : Only (file tokens)
  only_file = only_then _ _ only_head (λ _. only_then _ _ (only_look _ _ only_body_by) (λ _. only_due m.End))

  -- ---- at least one

  stops : {A : Type 0} (k : ℕ) → Sound k (unbuilt tokens {A = A})
  stops k = sound_stops k _

  takes_due : (wanted : Mark) → Takes (Due tokens wanted)
  takes_due wanted = record { some = λ at. elim (decide_mark tokens (mark_at tokens at) wanted) [ inl x ↦ (_, Due.found x) | inr x ↦ (_, Due.missing x) ]; onward = go }
    where
      go : (at next : ℕ) (a : Unit {0}) → Due tokens wanted at (Read a next) → at + 1 ≤ next
      go at next a (Due.found x) = omega arith

  takes_one : (may : Bool) → Takes (one tokens may)
  takes_one may = sound_either 1 may _ _ (takes_skip tokens) (stops 1)

  takes_word : (text : List ℕ) → Takes (word tokens text)
  takes_word text = sound_look 1 _ _ takes_one

  takes_number : Takes (number tokens)
  takes_number = sound_look 1 _ _ takes_one

  moves_operator_by : (n : ℕ) (k : Bool) → Moves (operator_by tokens n k)
  moves_operator_by n true = goes_on _ (sound_either 1 (nat_lt n max_operators) _ _ (taken _ _ (takes_skip tokens) (λ _. reads_then _ _ (reads _ takes_number) (λ _. reads_give _))) (stops 1))
  moves_operator_by n false = ends n

  ends_operator : (n : ℕ) → Ends tokens (operator tokens n)
  ends_operator n = ends_look tokens (λ at. is_operator (mark_at tokens at)) (operator_by tokens n) (λ k at. is_operator (mark_of k)) (λ at. refl) (λ at next b i e. cc e)

  reads_operators : Reads (operators tokens)
  reads_operators = reads_then _ _ (reads_loop tokens (operator tokens) (λ n. moves_look _ _ (moves_operator_by n)) ends_operator 0) (λ _. reads_give _)

  takes_argument_by : (k : Kind) → Takes (argument_by tokens k)
  takes_argument_by (Text text) = takes_skip tokens
  takes_argument_by (Int n) = taken _ _ (takes_skip tokens) (λ _. reads_operators)
  takes_argument_by _ = stops 1

  takes_argument : Takes (argument tokens)
  takes_argument = sound_look 1 _ _ takes_argument_by

  moves_parted_argument_by : (n : ℕ) (k : Option Mark) → Moves (parted_argument_by tokens n k)
  moves_parted_argument_by n (Some m.RParen) = ends n
  moves_parted_argument_by n _ = goes_on _ (sound_either 1 (nat_lt n max_arguments) _ _ (taken _ _ takes_argument (λ _. reads_give _)) (stops 1))

  moves_further_argument_by : (n : ℕ) (k : Option Mark) → Moves (further_argument_by tokens n k)
  moves_further_argument_by n (Some m.Comma) = goes_on _ (taken _ _ (takes_skip tokens) (λ _. (moves_look _ _ (moves_parted_argument_by n)).reads))
  moves_further_argument_by n _ = ends n

  ends_further_argument : (n : ℕ) → Ends tokens (further_argument tokens n)
  ends_further_argument n = ends_mark tokens (further_argument_by tokens n) (λ at next b i e. cc e)

  reads_further_arguments : Reads (further_arguments tokens)
  reads_further_arguments = reads_then _ _ (reads_loop tokens (further_argument tokens) (λ n. moves_look _ _ (moves_further_argument_by n)) ends_further_argument 1) (λ _. reads_give _)

  takes_call : Takes (call tokens)
  takes_call = taken _ _ (takes_word (codes "print")) (λ _. reads_then _ _ (reads _ (takes_due m.LParen)) (λ _. reads_then _ _ (reads _ takes_argument) (λ _. reads_then _ _ reads_further_arguments (λ _. reads _ (takes_due m.RParen)))))

  moves_parted_call_by : (k : Option Mark) → Moves (parted_call_by tokens k)
  moves_parted_call_by (Some m.Newline) = ends tt
  moves_parted_call_by _ = goes_on _ (taken _ _ takes_call (λ _. reads_give _))

  moves_further_call_by : (k : Option Mark) → Moves (further_call_by tokens k)
  moves_further_call_by (Some m.Semicolon) = goes_on _ (taken _ _ (takes_skip tokens) (λ _. (moves_look _ _ moves_parted_call_by).reads))
  moves_further_call_by _ = ends tt

  ends_further_call : (a : Unit {0}) → Ends tokens (further_call tokens a)
  ends_further_call a = ends_mark tokens (further_call_by tokens) (λ at next b i e. cc e)

  takes_line : Takes (line tokens)
  takes_line = taken _ _ takes_call (λ _. reads_then _ _ (reads_loop tokens (further_call tokens) (λ _. moves_look _ _ moves_further_call_by) ends_further_call tt) (λ _. reads _ (takes_due m.Newline)))

  moves_further_line_by : (k : Option Mark) → Moves (further_line_by tokens k)
  moves_further_line_by (Some m.Dedent) = ends tt
  moves_further_line_by _ = goes_on _ (taken _ _ takes_line (λ _. reads_give _))

  -- a line does not begin at the file's end
  starts_call : Starts tokens (call tokens)
  starts_call = starts_then tokens _ _ (starts_look tokens _ _ (is_word (codes "print")) (λ at. refl) (starts_stops tokens _))

  ends_further_line : (a : Unit {0}) → Ends tokens (further_line tokens a)
  ends_further_line a = ends_mark tokens (further_line_by tokens) (λ at next b i e. starts_then tokens _ _ (starts_then tokens _ _ starts_call) at next _ i e)

  reads_lines : Reads (Loop (further_line tokens) tt)
  reads_lines = reads_loop tokens (further_line tokens) (λ _. moves_look _ _ moves_further_line_by) ends_further_line tt

  takes_body_by : (k : Option Mark) → Takes (body_by tokens k)
  takes_body_by (Some m.Newline) = taken _ _ (takes_skip tokens) (λ _. reads_then _ _ (reads _ (takes_due m.Indent)) (λ _. reads_then _ _ reads_lines (λ _. reads _ (takes_due m.Dedent))))
  takes_body_by _ = takes_line

  takes_head : Takes (head tokens)
  takes_head = taken _ _ (takes_due m.Func) (λ _. reads_then _ _ (reads _ (takes_word (codes "_init"))) (λ _. reads_then _ _ (reads _ (takes_due m.LParen)) (λ _. reads_then _ _ (reads _ (takes_due m.RParen)) (λ _. reads _ (takes_due m.Colon)))))

  pub takes_file : Takes (file tokens)
  takes_file = taken _ _ takes_head (λ _. reads_then _ _ (reads _ (sound_look 1 _ _ takes_body_by)) (λ _. reads _ (takes_due m.End)))

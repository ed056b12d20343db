-- Small steps of the reading of what is taken.
use Rattle.std.proofs.Common.{◌≡◌, ◌≢◌, ℕ, ℤ, ◌+◌, ◌<◌, ◌≤◌, nat_lt, Bool, true, false, List, Option, Some, None, refl, sym, subst}
use Rattle.std.proofs.lemmas.Bool.{lt-ltb, le-ltb}
use Rattle.gd_syntax.specs.declared.fault.FaultKind.TheVariants.{Unbuilt}
use Rattle.gd_syntax.specs.declared.token.Token.{Token}
use Rattle.gd_syntax.specs.declared.token.Kind.{Kind}
use Rattle.gd_syntax.specs.declared.token.Kind.TheVariants.{Mark as Marked, Name, Text, Int}
use Rattle.gd_syntax.specs.declared.token.Mark.{Mark}
use Rattle.gd_syntax.specs.declared.token.Mark.TheVariants as m
use Rattle.gd_syntax.specs.Reading.{Outcome, Read, Stops, ◌>>◌, ◌>>=◌, Look, looks, Turn, On, Last, either, give}
use Rattle.gd_syntax.specs.TokenReading.{kind_at, mark_at, fault_at, skip}
use Rattle.gdrun.specs.Taken.{is_word, is_number, is_operator, unbuilt, number, operator, argument, argument_by, parted_argument_by, further_argument, further_argument_by, further_call_by, further_line_by, parted_call_by, body_by, call, line}

-- what the tokens are not
pub word_other : (text : List ℕ) (k : Kind) → ((name : List ℕ) → k ≢ Name name) → is_word text k ≡ false
word_other text (Name name) n = absurd (n name refl)
word_other text (Marked a) n = refl
word_other text (Int a) n = refl
word_other text (Text a) n = refl

pub number_other : (k : Kind) → ((n : ℤ) → k ≢ Int n) → is_number k ≡ false
number_other (Int a) n = absurd (n a refl)
number_other (Marked a) n = refl
number_other (Name a) n = refl
number_other (Text a) n = refl

pub operator_goes_on : (k : Option Mark) → is_operator k ≡ true → k ≢ Some m.End
operator_goes_on k is e = let h : is_operator (Some m.End) ≡ true = rw e at is in cc h

module _ (tokens : List Token) where
  argument_other_by : (k : Kind) (at : ℕ) (o : Outcome (Unit {0})) → ((text : List ℕ) → k ≢ Text text) → ((n : ℤ) → k ≢ Int n) → unbuilt tokens at o → argument_by tokens k at o
  argument_other_by (Text text) at o t n h = absurd (t text refl)
  argument_other_by (Int a) at o t n h = absurd (n a refl)
  argument_other_by (Marked a) at o t n h = h
  argument_other_by (Name a) at o t n h = h

  pub argument_other : (at : ℕ) (o : Outcome (Unit {0})) → ((text : List ℕ) → kind_at tokens at ≢ Text text) → ((n : ℤ) → kind_at tokens at ≢ Int n) → unbuilt tokens at o → argument tokens at o
  argument_other at o t n h = looks refl (argument_other_by (kind_at tokens at) at o t n h)

  -- ---- the limits

  abbrev limited_operator : ℕ → ℕ → Outcome (Turn ℕ) → Bool → Type 0
  limited_operator n at o b = either b (do skip tokens; number tokens; give (On (n + 1))) (unbuilt tokens) at o

  pub operator_read : (n at : ℕ) (o : Outcome (Turn ℕ)) → is_operator (mark_at tokens at) ≡ true → n < 64
      → (do skip tokens; number tokens; give (On (n + 1))) at o → operator tokens n at o
  operator_read n at o is few h = looks is (subst (limited_operator n at o) (sym (lt-ltb n 64 few)) h)

  pub operator_refused : (n at : ℕ) → is_operator (mark_at tokens at) ≡ true → 64 ≤ n → operator tokens n at (Stops (fault_at tokens Unbuilt at))
  operator_refused n at is many = looks is (subst (limited_operator n at (Stops (fault_at tokens Unbuilt at))) (sym (le-ltb n 64 many)) refl)

  abbrev limited_argument : ℕ → ℕ → Outcome (Turn ℕ) → Bool → Type 0
  limited_argument n at o b = either b (do argument tokens; give (On (n + 1))) (unbuilt tokens) at o

  parted_argument_by_limit : (n : ℕ) (k : Option Mark) (at : ℕ) (o : Outcome (Turn ℕ)) → k ≢ Some m.RParen
      → limited_argument n at o (nat_lt n 16) → parted_argument_by tokens n k at o
  parted_argument_by_limit n (Some m.RParen) at o e h = absurd (e refl)
  parted_argument_by_limit n _ at o e h = h

  pub parted_argument_read : (n at : ℕ) (o : Outcome (Turn ℕ)) → mark_at tokens at ≢ Some m.RParen → n < 16
      → (do argument tokens; give (On (n + 1))) at o → Look (mark_at tokens) (parted_argument_by tokens n) at o
  parted_argument_read n at o e few h = looks refl (parted_argument_by_limit n (mark_at tokens at) at o e (subst (limited_argument n at o) (sym (lt-ltb n 16 few)) h))

  pub parted_argument_refused : (n at : ℕ) → mark_at tokens at ≢ Some m.RParen → 16 ≤ n
      → Look (mark_at tokens) (parted_argument_by tokens n) at (Stops (fault_at tokens Unbuilt at))
  parted_argument_refused n at e many = looks refl (parted_argument_by_limit n (mark_at tokens at) at _ e (subst (limited_argument n at (Stops (fault_at tokens Unbuilt at))) (sym (le-ltb n 16 many)) refl))

  -- ---- where the token begins no other alternative

  further_argument_none_by : (n : ℕ) (k : Option Mark) (at : ℕ) (o : Outcome (Turn ℕ)) → k ≢ Some m.Comma → o ≡ Read (Last n) at → further_argument_by tokens n k at o
  further_argument_none_by n (Some m.Comma) at o e h = absurd (e refl)
  further_argument_none_by n _ at o e h = h

  pub further_argument_none : (n at : ℕ) → mark_at tokens at ≢ Some m.Comma → further_argument tokens n at (Read (Last n) at)
  further_argument_none n at e = looks refl (further_argument_none_by n (mark_at tokens at) at _ e refl)

  parted_call_none_by : (k : Option Mark) (at : ℕ) (o : Outcome (Turn (Unit {0}))) → k ≢ Some m.Newline → (do call tokens; give (On tt)) at o → parted_call_by tokens k at o
  parted_call_none_by (Some m.Newline) at o e h = absurd (e refl)
  parted_call_none_by _ at o e h = h

  pub parted_call_none : (at : ℕ) (o : Outcome (Turn (Unit {0}))) → mark_at tokens at ≢ Some m.Newline → (do call tokens; give (On tt)) at o → Look (mark_at tokens) (parted_call_by tokens) at o
  parted_call_none at o e h = looks refl (parted_call_none_by (mark_at tokens at) at o e h)

  further_call_none_by : (k : Option Mark) (at : ℕ) (o : Outcome (Turn (Unit {0}))) → k ≢ Some m.Semicolon → o ≡ Read (Last tt) at → further_call_by tokens k at o
  further_call_none_by (Some m.Semicolon) at o e h = absurd (e refl)
  further_call_none_by _ at o e h = h

  pub further_call_none : (at : ℕ) → mark_at tokens at ≢ Some m.Semicolon → Look (mark_at tokens) (further_call_by tokens) at (Read (Last tt) at)
  further_call_none at e = looks refl (further_call_none_by (mark_at tokens at) at _ e refl)

  further_line_none_by : (k : Option Mark) (at : ℕ) (o : Outcome (Turn (Unit {0}))) → k ≢ Some m.Dedent → (do line tokens; give (On tt)) at o → further_line_by tokens k at o
  further_line_none_by (Some m.Dedent) at o e h = absurd (e refl)
  further_line_none_by _ at o e h = h

  pub further_line_none : (at : ℕ) (o : Outcome (Turn (Unit {0}))) → mark_at tokens at ≢ Some m.Dedent → (do line tokens; give (On tt)) at o → Look (mark_at tokens) (further_line_by tokens) at o
  further_line_none at o e h = looks refl (further_line_none_by (mark_at tokens at) at o e h)

  body_line_by : (k : Option Mark) (at : ℕ) (o : Outcome (Unit {0})) → k ≢ Some m.Newline → line tokens at o → body_by tokens k at o
  body_line_by (Some m.Newline) at o e h = absurd (e refl)
  body_line_by _ at o e h = h

  pub body_line : (at : ℕ) (o : Outcome (Unit {0})) → mark_at tokens at ≢ Some m.Newline → line tokens at o → Look (mark_at tokens) (body_by tokens) at o
  body_line at o e h = looks refl (body_line_by (mark_at tokens at) at o e h)

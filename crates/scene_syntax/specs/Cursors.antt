-- How a part of a scene is read from a place of its text.
use Rattle.std.specs.Prelude.{ℕ, ◌+◌, Bool, ◌||◌, ◌==◌, nat_lt, if◌then◌else◌, List, [], ◌∷◌, take, drop}
use Rattle.std.specs.List.{prefix_len}
use Rattle.gd_syntax.specs.declared.fault.Place.{Place}
use Rattle.gd_syntax.specs.Layout.{past_all}
use Rattle.gd_syntax.specs.Spellings.{begins, is_blank, line_end_len, Contents, closed, contents}
use Rattle.gd_syntax.specs.Spellings as spelling

-- a place, and the text from there on
pub record Cursor : Type 0 where
  pub place : Place
  pub rest : List ℕ

pub data Got (A : Type 0) : Type 0 where
  got : A → Cursor → Got A
  -- what stands here is of another form
  broken : Got A
  -- the text ends before the form is read
  stops : Got A

abbrev pub Reader : Type 0 → Type 0
Reader A = Cursor → Got A

abbrev pub then_read : {A B : Type 0} → Got A → (A → Reader B) → Got B
then_read (got a at) rest = rest a at
then_read broken rest = broken
then_read stops rest = stops

infixl 10 ◌>>=◌
abbrev pub ◌>>=◌ : {A B : Type 0} → Reader A → (A → Reader B) → Reader B
read >>= rest = λ at. then_read (read at) rest

abbrev pub give : {A : Type 0} → A → Reader A
give a = λ at. got a at

abbrev pub failed : {A : Type 0} → List ℕ → Got A
failed [] = stops
failed (c ∷ text) = broken

-- nothing that may stand here does
abbrev pub fail : {A : Type 0} → Reader A
fail = λ at. failed at.rest

abbrev pub passed : ℕ → Cursor → Cursor
passed n at = record { place = past_all at.place (take n at.rest); rest = drop n at.rest }

abbrev pub pass : ℕ → Reader (List ℕ)
pass n = λ at. got (take n at.rest) (passed n at)

abbrev pub is : ℕ → ℕ → Bool
is c d = d == c

-- the one where a character that passes stands here, else the other
abbrev pub when_next : {A : Type 0} → (ℕ → Bool) → Reader A → Reader A → Reader A
when_next passes one other = λ at. if begins passes at.rest then one at else other at

abbrev pub expect : ℕ → Reader (List ℕ)
expect c = when_next (is c) (pass 1) fail

abbrev pub spelled : List ℕ → Reader (List ℕ)
spelled [] = give []
spelled (c ∷ word) = expect c >>= λ _. spelled word

-- all characters that pass, one at least
abbrev pub span : (ℕ → Bool) → Reader (List ℕ)
span passes = when_next passes (λ at. pass (prefix_len passes at.rest) at) fail

abbrev pub after_string : Contents → Reader (List ℕ)
after_string (closed text n) at = got text (passed (n + 1) at)
after_string (spelling.broken n) at = broken
after_string spelling.endless at = stops

-- a string in `"`, with the escapes of a script's strings
abbrev pub string : Reader (List ℕ)
string = when_next (is 34) (λ at. after_string (contents 34 1 0 (drop 1 at.rest)) at) fail

-- blanks and line ends
abbrev pub gap_len : List ℕ → ℕ
gap_len [] = 0
gap_len (c ∷ text) = if is_blank c || nat_lt 0 (line_end_len (c ∷ text)) then 1 + gap_len text else 0

abbrev pub gaps : Reader (List ℕ)
gaps = λ at. pass (gap_len at.rest) at

-- The line ends here, or the text does, unless a byte that is no UTF-8 cuts it.
abbrev pub line_over : Bool → Reader (List ℕ)
line_over is_cut at = over at.rest
  where
    over : List ℕ → Got (List ℕ)
    over [] = if is_cut then stops else got [] at
    over (c ∷ text) = if nat_lt 0 (line_end_len (c ∷ text)) then pass (line_end_len (c ∷ text)) at else broken

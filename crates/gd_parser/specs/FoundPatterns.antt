-- A function value that reads patterns, and what rules have found.
use Rattle.std.specs.Prelude.{◌≡◌, ℕ, ◌<◌, ◌≤◌, Bool, List, length, Result, IfOk}
use Rattle.std.specs.List.{list_any}
use Rattle.std.specs.Borrow.{Bor}
use Rattle.std.specs.declared.alloc.Global.{Global}
use Rattle.gd_syntax.specs.declared.tree.pattern.Pattern.{Pattern}
use Rattle.gd_syntax.specs.declared.tree.pattern.PatternEntry.{PatternEntry}
use Rattle.gd_syntax.specs.declared.fault.SolveError.{SolveError}
use Rattle.gd_syntax.specs.declared.token.Token.{Token}
use Rattle.gd_syntax.specs.TokenReading.{IsEnded}
use Rattle.gd_syntax.specs.StatementGrammar as branches
use Rattle.gd_syntax.specs.Reading.{Outcome, Read, Answers}
use Rattle.gd_parser.specs.PatternForms.{pattern}
use Rattle.gd_parser.specs.declared.found_patterns.FoundPattern.{FoundPattern}
use Rattle.gd_parser.specs.declared.found_patterns.FoundPatterns.{FoundPatterns}
use Rattle.gd_parser.specs.declared.found_patterns.FoundEntry.{FoundEntry}
use Rattle.gd_parser.specs.declared.found_patterns.FoundEntries.{FoundEntries}

-- the outcome that was found
abbrev pub found : FoundPattern → Outcome Pattern
found f = Read f.tree f.at

abbrev pub found_patterns : FoundPatterns → Outcome (List Pattern)
found_patterns f = Read f.items f.at

abbrev pub found_entry : FoundEntry → Outcome PatternEntry
found_entry f = Read f.tree f.at

abbrev pub found_entries : FoundEntries → Outcome (List PatternEntry)
found_entries f = Read f.items f.at

-- Something was read from `at`, and the tokens go on after it.
pub record IsPattern (tokens : List Token) (at : ℕ) (f : FoundPattern) : Type 0 where
  pub binds : f.binds ≡ branches.binds f.tree
  pub after : at < f.at
  pub within : f.at < length tokens

-- The list may be empty.
pub record IsPatterns (tokens : List Token) (at : ℕ) (f : FoundPatterns) : Type 0 where
  pub binds : f.binds ≡ list_any branches.binds f.items
  pub after : at ≤ f.at
  pub within : f.at < length tokens

pub record IsEntry (tokens : List Token) (at : ℕ) (f : FoundEntry) : Type 0 where
  pub binds : f.binds ≡ branches.entry_binds f.tree
  pub after : at < f.at
  pub within : f.at < length tokens

pub record IsEntries (tokens : List Token) (at : ℕ) (f : FoundEntries) : Type 0 where
  pub binds : f.binds ≡ list_any branches.entry_binds f.items
  pub after : at ≤ f.at
  pub within : f.at < length tokens

-- It reads a pattern wherever there is room for at most so many levels.
pub record Nests (most : ℕ) (pre : Global → Bor (List Token) → ℕ → ℕ → Bool → Type 0)
    (post : Global → Bor (List Token) → ℕ → ℕ → Bool → Result FoundPattern SolveError → Type 0) : Type 0 where
  pub callable : (alloc : Global) (tokens : Bor (List Token)) (at room : ℕ) (free : Bool) → room ≤ most → at < length tokens.now → IsEnded tokens.now → pre alloc tokens at room free
  pub reads : (alloc : Global) (tokens : Bor (List Token)) (at room : ℕ) (free : Bool) (r : Result FoundPattern SolveError) → post alloc tokens at room free r
      → Answers found r (pattern tokens.now free room at)
  pub found : (alloc : Global) (tokens : Bor (List Token)) (at room : ℕ) (free : Bool) (r : Result FoundPattern SolveError) → post alloc tokens at room free r
      → IfOk r (IsPattern tokens.now at)

-- A function value that reads expressions, and what rules have found.
use Rattle.std.specs.Prelude.{◌≡◌, ℕ, ◌<◌, ◌≤◌, List, length, map, max, Result, IfOk}
use Rattle.std.specs.Borrow.{Bor}
use Rattle.std.specs.declared.alloc.Global.{Global}
use Rattle.gd_syntax.specs.declared.tree.expr.Expr.{Expr}
use Rattle.gd_syntax.specs.declared.tree.type_name.Identifier.{Identifier}
use Rattle.gd_syntax.specs.declared.fault.SolveError.{SolveError}
use Rattle.gd_syntax.specs.declared.token.Token.{Token}
use Rattle.gd_syntax.specs.TokenReading.{IsEnded}
use Rattle.gd_syntax.specs.ExprGrammar.{expression}
use Rattle.gd_syntax.specs.Levels as tree
use Rattle.gd_syntax.specs.Reading.{Outcome, Read, Turn, On, Answers}
use Rattle.gd_exprs.specs.declared.found.Found.{Found}
use Rattle.gd_exprs.specs.declared.found.FoundList.{FoundList}
use Rattle.gd_exprs.specs.declared.found.FoundEntry.{FoundEntry}
use Rattle.gd_exprs.specs.declared.found.FoundEntries.{FoundEntries}
use Rattle.gd_exprs.specs.declared.found.FoundField.{FoundField}
use Rattle.gd_exprs.specs.declared.found.FoundFields.{FoundFields}

-- the outcome that was found
abbrev pub found : Found → Outcome Expr
found f = Read f.tree f.at

abbrev pub found_turn : Found → Outcome (Turn Expr)
found_turn f = Read (On f.tree) f.at

abbrev pub found_list : FoundList → Outcome (List Expr)
found_list f = Read f.items f.at

abbrev pub found_entry : FoundEntry → Outcome (Expr × Expr)
found_entry f = Read (f.key, f.value) f.at

abbrev pub found_entries : FoundEntries → Outcome (List (Expr × Expr))
found_entries f = Read f.items f.at

abbrev pub found_field : FoundField → Outcome (Identifier × Expr)
found_field f = Read (f.key, f.value) f.at

abbrev pub found_fields : FoundFields → Outcome (List (Identifier × Expr))
found_fields f = Read f.items f.at

-- Something was read from `at`, and the tokens go on after it.
pub record IsFound (tokens : List Token) (room at : ℕ) (f : Found) : Type 0 where
  pub levels : f.levels ≡ tree.levels f.tree
  pub fits : f.levels ≤ room
  pub after : at < f.at
  pub within : f.at < length tokens
  pub some : 1 ≤ f.levels

-- a part that was read before
pub record IsPart (tokens : List Token) (room : ℕ) (f : Found) : Type 0 where
  pub levels : f.levels ≡ tree.levels f.tree
  pub fits : f.levels ≤ room
  pub within : f.at < length tokens
  pub some : 1 ≤ f.levels

pub record IsEntry (tokens : List Token) (room at : ℕ) (f : FoundEntry) : Type 0 where
  pub levels : f.levels ≡ max (tree.levels f.key) (tree.levels f.value)
  pub fits : f.levels ≤ room
  pub after : at < f.at
  pub within : f.at < length tokens

pub record IsField (tokens : List Token) (room at : ℕ) (f : FoundField) : Type 0 where
  pub levels : f.levels ≡ tree.levels f.value
  pub fits : f.levels ≤ room
  pub after : at < f.at
  pub within : f.at < length tokens

-- The list may be empty.
pub record IsList (tokens : List Token) (room at : ℕ) (f : FoundList) : Type 0 where
  pub levels : f.levels ≡ tree.most (map tree.levels f.items)
  pub fits : f.levels ≤ room
  pub after : at ≤ f.at
  pub within : f.at < length tokens

pub record IsEntries (tokens : List Token) (room at : ℕ) (f : FoundEntries) : Type 0 where
  pub levels : f.levels ≡ tree.most (map (λ x. max (tree.levels x.0) (tree.levels x.1)) f.items)
  pub fits : f.levels ≤ room
  pub after : at ≤ f.at
  pub within : f.at < length tokens

pub record IsFields (tokens : List Token) (room at : ℕ) (f : FoundFields) : Type 0 where
  pub levels : f.levels ≡ tree.most (map (λ x. tree.levels x.1) f.items)
  pub fits : f.levels ≤ room
  pub after : at ≤ f.at
  pub within : f.at < length tokens

-- It reads an expression wherever there is room for at most so many levels.
pub record Nests (most : ℕ) (pre : Global → Bor (List Token) → ℕ → ℕ → ℕ → Type 0)
    (post : Global → Bor (List Token) → ℕ → ℕ → ℕ → Result Found SolveError → Type 0) : Type 0 where
  pub callable : (alloc : Global) (tokens : Bor (List Token)) (at room level : ℕ) → room ≤ most → at < length tokens.now → IsEnded tokens.now → pre alloc tokens at room level
  pub reads : (alloc : Global) (tokens : Bor (List Token)) (at room level : ℕ) (r : Result Found SolveError) → post alloc tokens at room level r
      → Answers found r (expression tokens.now room level at)
  pub found : (alloc : Global) (tokens : Bor (List Token)) (at room level : ℕ) (r : Result Found SolveError) → post alloc tokens at room level r
      → IfOk r (IsFound tokens.now room at)

-- Parts of paths, and what a step from a folder answers.
use Rattle.std.specs.Prelude.{◌≡◌, ℕ, Bool, not, ◌&&◌, List, map, Result}
use Rattle.std.specs.Borrow.{Bor}
use Rattle.std.specs.List.{list_all}
use Rattle.std.specs.declared.option.Option.{Option}
use Rattle.std.specs.declared.option.Option.TheVariants.{None, Some}
use Rattle.std.specs.declared.result.Result.TheVariants.{Ok, Err}
use Rattle.res_paths.specs.Paths.{is_slash, is_segment}
use Rattle.gd_syntax.specs.declared.path.PathError.{PathError}
use Rattle.gd_syntax.specs.declared.path.PathError.TheVariants.{NotRes, BadSegment, NoMemory}

-- no byte is a slash
abbrev pub is_unslashed : List ℕ → Bool
is_unslashed part = list_all (λ b. not (is_slash b)) part

-- one segment alone
abbrev pub is_name : List ℕ → Bool
is_name part = is_segment part && is_unslashed part

abbrev pub parts_of : List (Bor (List ℕ)) → List (List ℕ)
parts_of parts = map (λ part. part.now) parts

-- the folder that a step leads to, or that it leads to none
abbrev pub IsEntered : Option (List (List ℕ)) → List (List ℕ) → Result (Unit {0}) PathError → Type 0
IsEntered to now (Ok done) = to ≡ Some now
IsEntered to now (Err NotRes) = ⊥
IsEntered to now (Err BadSegment) = to ≡ None
IsEntered to now (Err NoMemory) = Unit {0}

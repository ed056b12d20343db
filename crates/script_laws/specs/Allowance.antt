-- What runs have in common that differ in the steps that they are allowed.
use Rattle.std.specs.Prelude.{◌≡◌, ℕ, ◌+◌, Bool, true, false, List, ◌++◌, IfSome, Ok, Err}
use Rattle.gd_syntax.specs.declared.tree.expr.Expr.{Expr}
use Rattle.gd_syntax.specs.declared.tree.member.Func.{Func}
use Rattle.variant_values.specs.declared.classes.ClassTag.{ClassTag}
use Rattle.script_meaning.specs.State.{World, Failed, Spent}
use Rattle.script_meaning.specs.Projects.{Project, Ending}
use Rattle.script_meaning.specs.Exprs.{expr}
use Rattle.script_meaning.specs.Functions.{Bodies, function_means}
use Rattle.script_meaning.specs.Runs.{RunEnd, Ended, Faulted, OutOfSteps}

-- The text t begins with s.
pub record Begins (s t : List ℕ) : Type 0 where
  pub rest : List ℕ
  pub joins : s ++ rest ≡ t

-- ---- calls

-- the world with so many steps more
abbrev pub with_more : ℕ → World → World
with_more k w = record w { left = w.left + k }

-- the world that a call leaves
abbrev pub world_of : Ending → World
world_of (Ok (v, w)) = w
world_of (Err (Failed kind spot w)) = w
world_of (Err (Spent spot w)) = w

-- whether a call stopped at a step past the allowance
abbrev pub is_spent : Ending → Bool
is_spent (Ok x) = false
is_spent (Err (Failed kind spot w)) = false
is_spent (Err (Spent spot w)) = true

-- what a call gave, where so many steps more are left
abbrev pub more_left : ℕ → Ending → Ending
more_left k (Ok (v, w)) = Ok (v, with_more k w)
more_left k (Err (Failed kind spot w)) = Err (Failed kind spot (with_more k w))
more_left k (Err (Spent spot w)) = Err (Spent spot w)

-- ---- runs

-- Whether a run ended or faulted, so that no step past its allowance was wanted.
abbrev pub is_over : RunEnd → Bool
is_over (Ended steps left) = true
is_over (Faulted kind spot steps) = true
is_over (OutOfSteps spot steps) = false

-- the steps that a run took
abbrev pub steps_of : RunEnd → ℕ
steps_of (Ended steps left) = steps
steps_of (Faulted kind spot steps) = steps
steps_of (OutOfSteps spot steps) = steps

-- Each function and each initialiser is one that a tree means.
pub record AreOfTrees (project : Project) (bodies : Bodies) : Type 0 where
  pub function : (class : ClassTag) (name : List ℕ) → IfSome (bodies.function class name) (λ f. (owner : ClassTag) × (tree : Func) × (f ≡ function_means project owner tree))
  pub start : (class : ClassTag) (name : List ℕ) → IfSome (bodies.start class name) (λ e. (tree : Expr) × (e ≡ expr project tree))

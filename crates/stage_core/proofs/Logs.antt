-- Logs that begin with others.
use Rattle.std.proofs.Common.{List, ◌++◌, refl, append_assoc, append-nil}
use mathlib.Core.List.{IsPrefix}
use Rattle.stage_core.specs.Begins.{Begins}

module _ {X : Type 0} where
  pub begins_itself : (xs : List X) → Begins xs xs
  begins_itself xs = record { rest = _; joins = append-nil xs }

  pub prefix_joins : (xs ys zs : List X) → Begins xs ys → Begins ys zs → Begins xs zs
  prefix_joins xs ys zs p q = record { rest = p.rest ++ q.rest; joins = rw (← q.joins, ← p.joins, append_assoc) refl }

  -- the same in the words of mathlib
  pub begins_from_prefix : (xs ys : List X) → IsPrefix xs ys → Begins xs ys
  begins_from_prefix xs ys p = record { rest = p.0; joins = p.1 }

  pub prefix_from_begins : (xs ys : List X) → Begins xs ys → IsPrefix xs ys
  prefix_from_begins xs ys b = (b.rest, b.joins)

-- The order of paths.
use Rattle.std.specs.Prelude.{ℕ, Bool, List}
use Rattle.std.specs.declared.cmp.Ordering.{Ordering}
use Rattle.std.specs.Ordering.{nat_cmp, eq_by_cmp}
use Rattle.std.specs.Cmp.Lexicographic.{slice_cmp}

-- paths in ascending byte order
abbrev pub path_order : List ℕ → List ℕ → Ordering
path_order = slice_cmp nat_cmp

abbrev pub same_path : List ℕ → List ℕ → Bool
same_path = eq_by_cmp path_order

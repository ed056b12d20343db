-- The order of paths.
use Rattle.std.specs.Prelude.{ℕ, List}
use Rattle.std.specs.declared.cmp.Ordering.{Ordering}
use Rattle.std.specs.Ordering.{nat_cmp}
use Rattle.std.specs.Cmp.Lexicographic.{slice_cmp}

-- paths in ascending byte order
abbrev pub path_order : List ℕ → List ℕ → Ordering
path_order = slice_cmp nat_cmp

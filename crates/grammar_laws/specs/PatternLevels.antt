-- How many levels a pattern has.
use Rattle.std.specs.Prelude.{ℕ, suc, max, Option, Some, None}
use Rattle.gd_syntax.specs.declared.tree.pattern.Pattern.{Pattern}
use Rattle.gd_syntax.specs.declared.tree.pattern.PatternEntry.{PatternEntry}
use Rattle.gd_syntax.specs.declared.tree.pattern.Pattern.TheOpen.{Pattern-F, PatternEntry-F}
use Rattle.gd_syntax.specs.declared.tree.pattern.Pattern.TheFolds.{fold-Pattern}
use Rattle.gd_syntax.specs.Levels.{most}

-- an entry's key is a leaf
abbrev pub with_key : Option ℕ → ℕ
with_key (Some n) = max 1 n
with_key None = 1

abbrev pub entry_step : PatternEntry-F ℕ ℕ → ℕ
entry_step entry = with_key entry.value

-- A leaf has one level, and another pattern one more than its deepest part.
abbrev pub levels_step : Pattern-F ℕ ℕ → ℕ
levels_step (Pattern-F.Array place all unended) = suc (most all)
levels_step (Pattern-F.Dict place all unended) = suc (most all)
levels_step _ = 1

unfoldable pub pattern_levels : Pattern → ℕ
pattern_levels = fold-Pattern ℕ ℕ levels_step entry_step

abbrev pub value_levels : Option Pattern → ℕ
value_levels (Some x) = max 1 (pattern_levels x)
value_levels None = 1

abbrev pub entry_levels : PatternEntry → ℕ
entry_levels entry = value_levels entry.value

-- The end of statements, by the line that they reached.
use Rattle.std.specs.Prelude.{ℕ}
use Rattle.std.specs.declared.option.Option.{Option}
use Rattle.std.specs.declared.option.Option.TheVariants.{None, Some}
use Rattle.gd_syntax.specs.FirstRun.{RunEnd, ended, spent}

-- with no line all statements are run
abbrev pub end_at : Option ℕ → ℕ → ℕ → RunEnd
end_at None used allowed = ended used 0
end_at (Some line) used allowed = spent line allowed

use Rattle.gd_syntax.specs.Reading.{Loop, Outcome}
use Rattle.gd_parser.specs.Files.{heads_of, head, HasFlags}
use Rattle.gd_syntax.specs.ScriptGrammar.{Heads}
use Rattle.std.proofs.Common.{[], length, ◌-◌, ◌<◌}
use Rattle.gd_parser.proofs.script.all_heads.Given as goal

abbrev pub invariant-heads : goal.invariant-heads
invariant-heads l = record { reads : (o : Outcome Heads) → Loop (head l.tokens l.header_end) (heads_of l.sofar) l.at o → Loop (head l.tokens l.header_end) ([], []) 0 o; flags : HasFlags l.sofar; within : l.at < length l.tokens }

abbrev pub decreases-heads : goal.decreases-heads
decreases-heads l = length l.tokens - l.at

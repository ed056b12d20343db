-- How far a file has come, as an order.
use Rattle.std.specs.Prelude.{◌≡◌, ℕ, ◌<◌, ◌⊎◌}
use Rattle.stage_core.specs.declared.status.RefStatus.{RefStatus}
use Rattle.stage_core.specs.declared.status.RefStatus.TheVariants.{Empty, Parsed, InheritanceSolved, InterfaceSolved, FullySolved, Compiled, Refused, Blocked}

-- by the stages that have a result, and above them the two that end a file
abbrev pub rank : RefStatus → ℕ
rank Empty = 0
rank Parsed = 1
rank InheritanceSolved = 2
rank InterfaceSolved = 3
rank FullySolved = 4
rank Compiled = 5
rank (Refused fault) = 6
rank Blocked = 6

-- the later status is the same, or further on
abbrev pub HasNotGoneBack : RefStatus → RefStatus → Type 0
HasNotGoneBack earlier later = (later ≡ earlier) ⊎ (rank earlier < rank later)

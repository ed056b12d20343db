use Rattle.std.proofs.Common.{◌≡◌, ◌++◌, ◌-◌}
use Rattle.std.specs.List.{repeat}
use Rattle.string_calls.proofs.builders.StringBuilder.write_repeated.Given as goal

abbrev pub invariant-loop : goal.invariant-loop
invariant-loop l = l.self ++ repeat (l.n - l.counter) l.text ≡ l.initial.self ++ repeat l.n l.text

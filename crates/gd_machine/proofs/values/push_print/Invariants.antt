use Rattle.std.proofs.Common.{◌≡◌, ◌++◌, map, take, string_bytes}
use Rattle.std.specs.List.{flat_map}
use Rattle.gd_syntax.specs.FirstScript.{item_of}
use Rattle.gd_syntax.specs.FirstRun.{item_text}
use Rattle.gd_machine.proofs.values.push_print.Given as goal

abbrev pub invariant-loop-item : goal.invariant-loop-item
invariant-loop-item l = string_bytes l.text ≡ string_bytes l.initial.text ++ flat_map item_text (map item_of (take l.item-index l.print.items.items))

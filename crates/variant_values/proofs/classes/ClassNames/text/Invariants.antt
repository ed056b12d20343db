use Rattle.std.proofs.Common.{◌≡◌, drop}
use Rattle.variant_values.specs.Classes.{class_text}
use Rattle.variant_values.proofs.classes.ClassNames.text.Given as goal

abbrev pub invariant-loop-pair : goal.invariant-loop-pair
invariant-loop-pair l = class_text l.self l.class ≡ class_text (drop l.pair-index l.self) l.class

-- Worked emissions of signals: by computation.
use Rattle.std.proofs.Common.{◌≡◌, [], ◌∷◌, refl}
use Rattle.std.specs.Prelude.{codes}
use Rattle.folder_meaning.specs.declared.script_type.ScriptType.TheVariants as of_type
use Rattle.variant_values.specs.declared.values.Value.TheVariants.{Signal}
use Rattle.script_meaning.specs.State.{opens}
use Rattle.script_rows.specs.SignalRows.{connects, written, SignalRows}
use Rattle.script_rows.proofs.Compute.{everything}

row_order : written [] (codes "s") (connects (codes "s") 1 (codes "g") ∷ connects (codes "t") 1 (codes "f") ∷ connects (codes "s") 2 (codes "f") ∷ connects (codes "s") 1 (codes "f") ∷ []) ≡ codes "g7\nf7\ndone steps 5 left 1\n"
unfolding everything
row_order = refl

row_freed : written (opens (codes "x") of_type.Variant (Signal (record { 0 = 2 }) (codes "s"))) (codes "x") [] ≡ codes "fault FreedAccess res://m.gd:9 steps 1\n"
unfolding everything
row_freed = refl

pub signal_rows : SignalRows
signal_rows = record { row_order = row_order; row_freed = row_freed }

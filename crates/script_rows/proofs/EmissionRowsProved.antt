-- Worked runs of emissions: by computation.
use Rattle.std.proofs.Common.{◌≡◌, refl}
use Rattle.std.specs.Prelude.{codes}
use Rattle.script_rows.specs.Scripts.{writes}
use Rattle.script_rows.specs.EmissionRows.{EmissionRows, names_snapshot, code_snapshot, names_gone, code_gone, code_lives, names_fault, code_fault, code_refused}
use Rattle.script_rows.proofs.Compute.{everything}

row_snapshot : writes names_snapshot code_snapshot 100 ≡ codes "a\ndone steps 6 left 0\n"
unfolding everything
row_snapshot = refl

row_gone : writes names_gone code_gone 100 ≡ codes "a7\nb7\ndone steps 11 left 0\n"
unfolding everything
row_gone = refl

row_lives : writes names_gone code_lives 100 ≡ codes "a7\nf7\nb7\ndone steps 12 left 0\n"
unfolding everything
row_lives = refl

row_fault : writes names_fault code_fault 100 ≡ codes "a7\nfault DivisionByZero res://m.gd:4 steps 6\n"
unfolding everything
row_fault = refl

row_refused : writes names_fault code_refused 100 ≡ codes "fault BadArgs res://m.gd:7 steps 3\n"
unfolding everything
row_refused = refl

pub emission_rows : EmissionRows
emission_rows = record { row_snapshot = row_snapshot; row_gone = row_gone; row_lives = row_lives; row_fault = row_fault; row_refused = row_refused }

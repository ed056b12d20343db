-- Worked runs of first scripts: by computation.
use Rattle.std.proofs.Common.{◌≡◌, refl}
use Rattle.std.specs.Prelude.{codes}
use Rattle.script_rows.specs.Scripts.{writes}
use Rattle.script_rows.specs.FirstRows.{FirstRows, names_1, code_1, names_4, code_4, names_5, code_5, names_6, code_6, names_7, code_7, names_14, code_14, names_15, code_15, names_16, code_16, names_19, code_19, names_25, code_25, names_27, code_27, names_28, code_28, names_deep, code_deep, names_turns, code_turns, names_received, code_received, names_one_step, code_one_step, names_wraps, code_wraps}
use Rattle.script_rows.proofs.Compute.{everything}

row_1 : writes names_1 code_1 100 ≡ codes "3\ndone steps 2 left 0\n"
unfolding everything
row_1 = refl

row_4 : writes names_4 code_4 100 ≡ codes "-3 -1\ndone steps 2 left 0\n"
unfolding everything
row_4 = refl

row_5 : writes names_5 code_5 100 ≡ codes "[1, \"a\", <null>, {}]\ndone steps 2 left 0\n"
unfolding everything
row_5 = refl

row_6 : writes names_6 code_6 100 ≡ codes "0\n1\n2\ndone steps 9 left 0\n"
unfolding everything
row_6 = refl

row_7 : writes names_7 code_7 8 ≡ codes "0\n1\n2\nspent res://m.gd:2 steps 8\n"
unfolding everything
row_7 = refl

row_14 : writes names_14 code_14 100 ≡ codes "2\ndone steps 6 left 0\n"
unfolding everything
row_14 = refl

row_15 : writes names_15 code_15 100 ≡ codes "<null>false\ntrue\ndone steps 5 left 0\n"
unfolding everything
row_15 = refl

row_16 : writes names_16 code_16 100 ≡ codes "done steps 5 left 2\n"
unfolding everything
row_16 = refl

row_19 : writes names_19 code_19 100 ≡ codes "a\nfault DivisionByZero res://m.gd:3 steps 3\n"
unfolding everything
row_19 = refl

row_25 : writes names_25 code_25 100 ≡ codes "{ \"a\": 3, \"b\": 2 } <null>\ndone steps 4 left 0\n"
unfolding everything
row_25 = refl

row_27 : writes names_27 code_27 100 ≡ codes "007,[1],ff\ndone steps 2 left 0\n"
unfolding everything
row_27 = refl

row_28 : writes names_28 code_28 100 ≡ codes "w\ndone steps 3 left 0\n"
unfolding everything
row_28 = refl

row_deep : writes names_deep code_deep 10000000 ≡ codes "fault CallTooDeep res://m.gd:2 steps 2048\n"
unfolding everything
row_deep = refl

row_turns : writes names_turns code_turns 10000000 ≡ codes "2\ndone steps 11 left 0\n"
unfolding everything
row_turns = refl

row_received : writes names_received code_received 100 ≡ codes "fault BadType res://m.gd:3 steps 3\n"
unfolding everything
row_received = refl

row_one_step : writes names_one_step code_one_step 1 ≡ codes "spent res://m.gd:2 steps 1\n"
unfolding everything
row_one_step = refl

row_wraps : writes names_wraps code_wraps 100 ≡ codes "-9223372036854775808\ndone steps 2 left 0\n"
unfolding everything
row_wraps = refl

pub first_rows : FirstRows
first_rows = record { row_1 = row_1; row_4 = row_4; row_5 = row_5; row_6 = row_6; row_7 = row_7; row_14 = row_14; row_15 = row_15; row_16 = row_16; row_19 = row_19; row_25 = row_25; row_27 = row_27; row_28 = row_28; row_deep = row_deep; row_turns = row_turns; row_received = row_received; row_one_step = row_one_step; row_wraps = row_wraps }

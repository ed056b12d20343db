-- Worked runs on variables, assignments, and when objects go: by computation.
use Rattle.std.proofs.Common.{◌≡◌, refl}
use Rattle.std.specs.Prelude.{codes}
use Rattle.script_rows.specs.Scripts.{writes}
use Rattle.script_rows.specs.VariableRows.{VariableRows, names_local_defaults, code_local_defaults, names_local_constant, code_local_constant, names_assignments, code_assignments, names_order_of_parts, code_order_of_parts, names_old_value, code_old_value, names_members, code_members, names_into_string, code_into_string, names_into_array, code_into_array, names_block_ends, code_block_ends, names_unit_ends, code_unit_ends, names_hidden_local, code_hidden_local, names_held, code_held, names_init_result, code_init_result}
use Rattle.script_rows.proofs.Compute.{everything}

row_local_defaults : writes names_local_defaults code_local_defaults 100 ≡ codes "0false[]{}<null><null>\ndone steps 9 left 0\n"
unfolding everything
row_local_defaults = refl

row_local_constant : writes names_local_constant code_local_constant 100 ≡ codes "[1]\ndone steps 4 left 0\n"
unfolding everything
row_local_constant = refl

row_assignments : writes names_assignments code_assignments 100 ≡ codes "1\ndone steps 13 left 0\n"
unfolding everything
row_assignments = refl

row_order_of_parts : writes names_order_of_parts code_order_of_parts 100 ≡ codes "t\ni\nr\n[6, 2]\ndone steps 13 left 0\n"
unfolding everything
row_order_of_parts = refl

row_old_value : writes names_old_value code_old_value 100 ≡ codes "6\ndone steps 7 left 0\n"
unfolding everything
row_old_value = refl

row_members : writes names_members code_members 100 ≡ codes "7{ \"k\": 7, \"j\": 1 }\nfault NoMember res://m.gd:11 steps 10\n"
unfolding everything
row_members = refl

row_into_string : writes names_into_string code_into_string 100 ≡ codes "fault BadOperands res://m.gd:3 steps 3\n"
unfolding everything
row_into_string = refl

row_into_array : writes names_into_array code_into_array 100 ≡ codes "[4]\nfault BadIndex res://m.gd:5 steps 5\n"
unfolding everything
row_into_array = refl

row_block_ends : writes names_block_ends code_block_ends 100 ≡ codes "true\n<null>\ndone steps 7 left 0\n"
unfolding everything
row_block_ends = refl

row_unit_ends : writes names_unit_ends code_unit_ends 100 ≡ codes "false true true true\ntrue\nfalse <null>\ndone steps 16 left 0\n"
unfolding everything
row_unit_ends = refl

row_hidden_local : writes names_hidden_local code_hidden_local 100 ≡ codes "true\ntrue\ndone steps 9 left 0\n"
unfolding everything
row_hidden_local = refl

row_held : writes names_held code_held 100 ≡ codes "<Box#2><null>\ndone steps 4 left 0\n"
unfolding everything
row_held = refl

row_init_result : writes names_init_result code_init_result 100 ≡ codes "true<null>true\ntrue\ndone steps 10 left 0\n"
unfolding everything
row_init_result = refl

pub variable_rows : VariableRows
variable_rows = record { row_local_defaults = row_local_defaults; row_local_constant = row_local_constant; row_assignments = row_assignments; row_order_of_parts = row_order_of_parts; row_old_value = row_old_value; row_members = row_members; row_into_string = row_into_string; row_into_array = row_into_array; row_block_ends = row_block_ends; row_unit_ends = row_unit_ends; row_hidden_local = row_hidden_local; row_held = row_held; row_init_result = row_init_result }

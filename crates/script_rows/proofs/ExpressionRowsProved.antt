-- Worked runs on expressions: by computation.
use Rattle.std.proofs.Common.{◌≡◌, refl}
use Rattle.std.specs.Prelude.{codes}
use Rattle.script_rows.specs.Scripts.{writes}
use Rattle.script_rows.specs.ExpressionRows.{ExpressionRows, names_literals, code_literals, names_parens, code_parens, names_operators, code_operators, names_least, code_least, names_within, code_within, names_truth, code_truth, names_ternary, code_ternary, names_dictionaries, code_dictionaries, names_bad_key, code_bad_key, names_indexes, code_indexes, names_no_key, code_no_key, names_bad_operands, code_bad_operands, names_kinds, code_kinds, names_bad_shift, code_bad_shift, names_no_member, code_no_member, names_null_member, code_null_member, names_formats, code_formats, names_too_deep, code_too_deep, names_keys_behind_parts, code_keys_behind_parts, names_object_key, code_object_key, names_first_line, code_first_line}
use Rattle.script_rows.proofs.Compute.{everything}

row_literals : writes names_literals code_literals 100 ≡ codes "<null>truefalse7a\"b\n\ndone steps 3 left 0\n"
unfolding everything
row_literals = refl

row_parens : writes names_parens code_parens 100 ≡ codes "97-4-669\ndone steps 2 left 0\n"
unfolding everything
row_parens = refl

row_operators : writes names_operators code_operators 100 ≡ codes "3 -1 16 -4 2 5 7\nab[1, 2]truefalsetruefalsefalsetruefalse\ndone steps 3 left 0\n"
unfolding everything
row_operators = refl

row_least : writes names_least code_least 100 ≡ codes "-9223372036854775808 0 9223372036854775807 -9223372036854775808\ndone steps 3 left 0\n"
unfolding everything
row_least = refl

row_within : writes names_within code_within 100 ≡ codes "truetruefalsetruefalsetrue\ndone steps 2 left 0\n"
unfolding everything
row_within = refl

row_truth : writes names_truth code_truth 100 ≡ codes "0\n2\nfalsetruetruefalsetrue\ndone steps 8 left 0\n"
unfolding everything
row_truth = refl

row_ternary : writes names_ternary code_ternary 100 ≡ codes "3y\ndone steps 2 left 0\n"
unfolding everything
row_ternary = refl

row_dictionaries : writes names_dictionaries code_dictionaries 100 ≡ codes "{ 1: \"b\", true: 2, \"k\": [1] }\n{ \"a\": 1, \"b\": {} }\ndone steps 3 left 0\n"
unfolding everything
row_dictionaries = refl

row_bad_key : writes names_bad_key code_bad_key 100 ≡ codes "f\nfault BadKey res://m.gd:5 steps 5\n"
unfolding everything
row_bad_key = refl

row_indexes : writes names_indexes code_indexes 100 ≡ codes "1020yz1z1\nfault BadIndex res://m.gd:5 steps 5\n"
unfolding everything
row_indexes = refl

row_no_key : writes names_no_key code_no_key 100 ≡ codes "fault NoKey res://m.gd:3 steps 3\n"
unfolding everything
row_no_key = refl

row_bad_operands : writes names_bad_operands code_bad_operands 100 ≡ codes "fault BadOperands res://m.gd:3 steps 3\n"
unfolding everything
row_bad_operands = refl

row_kinds : writes names_kinds code_kinds 100 ≡ codes "truetruefalse\nfault BadOperands res://m.gd:4 steps 4\n"
unfolding everything
row_kinds = refl

row_bad_shift : writes names_bad_shift code_bad_shift 100 ≡ codes "fault BadShift res://m.gd:2 steps 2\n"
unfolding everything
row_bad_shift = refl

row_no_member : writes names_no_member code_no_member 100 ≡ codes "fault NoMember res://m.gd:3 steps 3\n"
unfolding everything
row_no_member = refl

row_null_member : writes names_null_member code_null_member 100 ≡ codes "fault NullAccess res://m.gd:3 steps 3\n"
unfolding everything
row_null_member = refl

row_formats : writes names_formats code_formats 100 ≡ codes "a-7|   42|5  |ff|z%\nfault BadFormat res://m.gd:3 steps 3\n"
unfolding everything
row_formats = refl

row_too_deep : writes names_too_deep code_too_deep 100 ≡ codes "fault TooDeep res://m.gd:4 steps 4\n"
unfolding everything
row_too_deep = refl

row_keys_behind_parts : writes names_keys_behind_parts code_keys_behind_parts 9 ≡ codes "x\nfault BadKey res://m.gd:2 steps 2\n"
unfolding everything
row_keys_behind_parts = refl

row_object_key : writes names_object_key code_object_key 100 ≡ codes "{ <res://m.gd#1>: 1 }true\ndone steps 2 left 0\n"
unfolding everything
row_object_key = refl

row_first_line : writes names_first_line code_first_line 100 ≡ codes "fault DivisionByZero res://m.gd:2 steps 2\n"
unfolding everything
row_first_line = refl

pub expression_rows : ExpressionRows
expression_rows = record { row_literals = row_literals; row_parens = row_parens; row_operators = row_operators; row_least = row_least; row_within = row_within; row_truth = row_truth; row_ternary = row_ternary; row_dictionaries = row_dictionaries; row_bad_key = row_bad_key; row_indexes = row_indexes; row_no_key = row_no_key; row_bad_operands = row_bad_operands; row_kinds = row_kinds; row_bad_shift = row_bad_shift; row_no_member = row_no_member; row_null_member = row_null_member; row_formats = row_formats; row_too_deep = row_too_deep; row_keys_behind_parts = row_keys_behind_parts; row_object_key = row_object_key; row_first_line = row_first_line }

-- Worked runs on statements: by computation.
use Rattle.std.proofs.Common.{◌≡◌, refl}
use Rattle.std.specs.Prelude.{codes}
use Rattle.script_rows.specs.Scripts.{writes}
use Rattle.script_rows.specs.StatementRows.{StatementRows, names_branches, code_branches, names_elif_fault, code_elif_fault, names_loop, code_loop, names_loop_ends, code_loop_ends, names_numbers, code_numbers, names_keys_and_characters, code_keys_and_characters, names_array_grows, code_array_grows, names_no_walk, code_no_walk, names_out_of_loops, code_out_of_loops, names_asserts, code_asserts, names_one_line, code_one_line, names_turns_go_on, code_turns_go_on, names_test_fault, code_test_fault, names_block_names, code_block_names, names_shadow, code_shadow, names_spent_inside, code_spent_inside, names_elif_line, code_elif_line}
use Rattle.script_rows.proofs.Compute.{everything}

row_branches : writes names_branches code_branches 100 ≡ codes "c\ne\ndone steps 5 left 0\n"
unfolding everything
row_branches = refl

row_elif_fault : writes names_elif_fault code_elif_fault 100 ≡ codes "fault DivisionByZero res://m.gd:4 steps 2\n"
unfolding everything
row_elif_fault = refl

row_loop : writes names_loop code_loop 100 ≡ codes "1\n3\nend\ndone steps 23 left 0\n"
unfolding everything
row_loop = refl

row_loop_ends : writes names_loop_ends code_loop_ends 100 ≡ codes "2\ndone steps 9 left 0\n"
unfolding everything
row_loop_ends = refl

row_numbers : writes names_numbers code_numbers 100 ≡ codes "5\n3\n1\ndone steps 15 left 0\n"
unfolding everything
row_numbers = refl

row_keys_and_characters : writes names_keys_and_characters code_keys_and_characters 100 ≡ codes "a\n2\nx\ny\n{ \"a\": 1, 2: 3, \"x\": 2 }\ndone steps 17 left 0\n"
unfolding everything
row_keys_and_characters = refl

row_array_grows : writes names_array_grows code_array_grows 100 ≡ codes "[6, 2, 1, 2]\ndone steps 16 left 0\n"
unfolding everything
row_array_grows = refl

row_no_walk : writes names_no_walk code_no_walk 100 ≡ codes "fault BadOperands res://m.gd:2 steps 2\n"
unfolding everything
row_no_walk = refl

row_out_of_loops : writes names_out_of_loops code_out_of_loops 100 ≡ codes "00\n10\n1\ndone steps 23 left 0\n"
unfolding everything
row_out_of_loops = refl

row_asserts : writes names_asserts code_asserts 100 ≡ codes "m\nm\nfault AssertFailed res://m.gd:6 steps 9\n"
unfolding everything
row_asserts = refl

row_one_line : writes names_one_line code_one_line 100 ≡ codes "2\ndone steps 5 left 0\n"
unfolding everything
row_one_line = refl

row_turns_go_on : writes names_turns_go_on code_turns_go_on 100 ≡ codes "0\n2\ndone steps 12 left 0\n"
unfolding everything
row_turns_go_on = refl

row_test_fault : writes names_test_fault code_test_fault 100 ≡ codes "fault DivisionByZero res://m.gd:3 steps 6\n"
unfolding everything
row_test_fault = refl

row_block_names : writes names_block_names code_block_names 100 ≡ codes "2\ndone steps 5 left 0\n"
unfolding everything
row_block_names = refl

row_shadow : writes names_shadow code_shadow 100 ≡ codes "21\ndone steps 4 left 0\n"
unfolding everything
row_shadow = refl

row_spent_inside : writes names_spent_inside code_spent_inside 4 ≡ codes "spent res://m.gd:3 steps 4\n"
unfolding everything
row_spent_inside = refl

row_elif_line : writes names_elif_line code_elif_line 100 ≡ codes "fault DivisionByZero res://m.gd:4 steps 2\n"
unfolding everything
row_elif_line = refl

pub statement_rows : StatementRows
statement_rows = record { row_branches = row_branches; row_elif_fault = row_elif_fault; row_loop = row_loop; row_loop_ends = row_loop_ends; row_numbers = row_numbers; row_keys_and_characters = row_keys_and_characters; row_array_grows = row_array_grows; row_no_walk = row_no_walk; row_out_of_loops = row_out_of_loops; row_asserts = row_asserts; row_one_line = row_one_line; row_turns_go_on = row_turns_go_on; row_test_fault = row_test_fault; row_block_names = row_block_names; row_shadow = row_shadow; row_spent_inside = row_spent_inside; row_elif_line = row_elif_line }

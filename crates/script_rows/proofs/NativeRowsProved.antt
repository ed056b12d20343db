-- Worked runs on native calls: by computation.
use Rattle.std.proofs.Common.{◌≡◌, refl}
use Rattle.std.specs.Prelude.{codes}
use Rattle.script_rows.specs.Scripts.{writes}
use Rattle.script_rows.specs.NativeRows.{NativeRows, names_globals, code_globals, names_bad_range, code_bad_range, names_pos_mod, code_pos_mod, names_strings, code_strings, names_arrays, code_arrays, names_dictionary_methods, code_dictionary_methods, names_copies, code_copies, names_size_key, code_size_key, names_no_method, code_no_method, names_native_callable, code_native_callable, names_null_method, code_null_method}
use Rattle.script_rows.proofs.Compute.{everything}

row_globals : writes names_globals code_globals 100 ≡ codes "1a<null>320\n31332121\n2-2[0, 1, 2][1, 2][5, 3, 1]\ntruefalsetrue<WeakRef>\ndone steps 5 left 0\n"
unfolding everything
row_globals = refl

row_bad_range : writes names_bad_range code_bad_range 100 ≡ codes "fault BadArgs res://m.gd:2 steps 2\n"
unfolding everything
row_bad_range = refl

row_pos_mod : writes names_pos_mod code_pos_mod 100 ≡ codes "fault DivisionByZero res://m.gd:2 steps 2\n"
unfolding everything
row_pos_mod = refl

row_strings : writes names_strings code_strings 100 ≡ codes "5falseellloHelo23-1\ntruetruetrueHeLLo[\"a\", \"b\"]x-yabab\nHELLOhellottrue-1165\ndone steps 5 left 0\n"
unfolding everything
row_strings = refl

row_arrays : writes names_arrays code_arrays 100 ≡ codes "[1, 2, 3, 5, 9]5true4119\n[2][3, 2]13[2]\n[2, 7, 7, <null>][2, 7, 7, <null>]false\n[0, 0, 0, 0]\n[]\ndone steps 18 left 0\n"
unfolding everything
row_arrays = refl

row_dictionary_methods : writes names_dictionary_methods code_dictionary_methods 100 ≡ codes "2true<null>5[\"b\", \"a\"][1, 2]false\ntruefalse\n{ \"a\": 9, \"c\": 3 }{ \"a\": 9, \"c\": 3 }\n{}\ndone steps 9 left 0\n"
unfolding everything
row_dictionary_methods = refl

row_copies : writes names_copies code_copies 100 ≡ codes "[[1, 2], 3][[1, 2]][[1]]\ndone steps 7 left 0\n"
unfolding everything
row_copies = refl

row_size_key : writes names_size_key code_size_key 100 ≡ codes "51\ndone steps 3 left 0\n"
unfolding everything
row_size_key = refl

row_no_method : writes names_no_method code_no_method 100 ≡ codes "x\nfault NoMethod res://m.gd:5 steps 5\n"
unfolding everything
row_no_method = refl

row_native_callable : writes names_native_callable code_native_callable 100 ≡ codes "<Callable free>true\nfault BadArgs res://m.gd:4 steps 4\n"
unfolding everything
row_native_callable = refl

row_null_method : writes names_null_method code_null_method 100 ≡ codes "fault NullAccess res://m.gd:3 steps 3\n"
unfolding everything
row_null_method = refl

pub native_rows : NativeRows
native_rows = record { row_globals = row_globals; row_bad_range = row_bad_range; row_pos_mod = row_pos_mod; row_strings = row_strings; row_arrays = row_arrays; row_dictionary_methods = row_dictionary_methods; row_copies = row_copies; row_size_key = row_size_key; row_no_method = row_no_method; row_native_callable = row_native_callable; row_null_method = row_null_method }

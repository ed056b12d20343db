-- Worked runs on names, constants and files: by computation.
use Rattle.std.proofs.Common.{◌≡◌, refl}
use Rattle.std.specs.Prelude.{codes}
use Rattle.script_rows.specs.Scripts.{writes}
use Rattle.script_rows.specs.NameRows.{NameRows, names_names, code_names, names_classes, code_classes, names_files, code_files, names_signals, code_signals, names_outer_names, code_outer_names, names_global_class, code_global_class, names_other_file, code_other_file, names_constants_anew, code_constants_anew, names_own_range, code_own_range, names_enums, code_enums, names_known_enum, code_known_enum, names_inner_sees, code_inner_sees, names_node_script, code_node_script, names_emission_of_nothing, code_emission_of_nothing}
use Rattle.script_rows.proofs.Compute.{everything}

row_names : writes names_names code_names 100 ≡ codes "205134\n<Callable g>32\ndone steps 5 left 0\n"
unfolding everything
row_names = refl

row_classes : writes names_classes code_classes 100 ≡ codes "<res://m.gd#1><Box><RefCounted><Box#2>\ndone steps 2 left 0\n"
unfolding everything
row_classes = refl

row_files : writes names_files code_files 100 ≡ codes "<res://b.gd>23\n<res://b.gd#2>\ndone steps 5 left 0\n"
unfolding everything
row_files = refl

row_signals : writes names_signals code_signals 100 ≡ codes "<Signal s>true\ndone steps 2 left 0\n"
unfolding everything
row_signals = refl

row_outer_names : writes names_outer_names code_outer_names 100 ≡ codes "[3, 3, 9]3\ndone steps 4 left 0\n"
unfolding everything
row_outer_names = refl

row_global_class : writes names_global_class code_global_class 100 ≡ codes "<Foo><Foo#2>\ndone steps 2 left 0\n"
unfolding everything
row_global_class = refl

row_other_file : writes names_other_file code_other_file 100 ≡ codes "fault DivisionByZero res://b.gd:2 steps 4\n"
unfolding everything
row_other_file = refl

row_constants_anew : writes names_constants_anew code_constants_anew 100 ≡ codes "{ \"k\": [1] }true\ndone steps 3 left 0\n"
unfolding everything
row_constants_anew = refl

row_own_range : writes names_own_range code_own_range 100 ≡ codes "3\n3\ndone steps 9 left 0\n"
unfolding everything
row_own_range = refl

row_enums : writes names_enums code_enums 9 ≡ codes "4[1]\n[1][1]\ndone steps 4 left 0\n"
unfolding everything
row_enums = refl

row_known_enum : writes names_known_enum code_known_enum 9 ≡ codes "0\nfault NoMember res://m.gd:6 steps 4\n"
unfolding everything
row_known_enum = refl

row_inner_sees : writes names_inner_sees code_inner_sees 9 ≡ codes "5\ndone steps 6 left 0\n"
unfolding everything
row_inner_sees = refl

row_node_script : writes names_node_script code_node_script 100 ≡ codes "<res://m.gd#1>\ndone steps 2 left 0\n"
unfolding everything
row_node_script = refl

row_emission_of_nothing : writes names_emission_of_nothing code_emission_of_nothing 100 ≡ codes "after\ndone steps 3 left 0\n"
unfolding everything
row_emission_of_nothing = refl

pub name_rows : NameRows
name_rows = record { row_names = row_names; row_classes = row_classes; row_files = row_files; row_signals = row_signals; row_outer_names = row_outer_names; row_global_class = row_global_class; row_other_file = row_other_file; row_constants_anew = row_constants_anew; row_own_range = row_own_range; row_enums = row_enums; row_known_enum = row_known_enum; row_inner_sees = row_inner_sees; row_node_script = row_node_script; row_emission_of_nothing = row_emission_of_nothing }

-- Worked runs on types that are declared: by computation.
use Rattle.std.proofs.Common.{◌≡◌, refl}
use Rattle.std.specs.Prelude.{codes}
use Rattle.script_rows.specs.Scripts.{writes}
use Rattle.script_rows.specs.TypeRows.{TypeRows, names_types, code_types, names_native_types, code_native_types, names_local_types, code_local_types, names_inferred, code_inferred, names_field_type, code_field_type, names_member_type, code_member_type, names_parameter_types, code_parameter_types, names_result_type, code_result_type, names_typed_parameter, code_typed_parameter, names_void_result, code_void_result, names_typed_walk, code_typed_walk, names_arguments_before_types, code_arguments_before_types, names_default_type, code_default_type, names_initialiser_type, code_initialiser_type}
use Rattle.script_rows.proofs.Compute.{everything}

row_types : writes names_types code_types 100 ≡ codes "truetruefalsetruefalsefalsetruetruefalse\ntrue<null>1\nfault BadType res://m.gd:10 steps 6\n"
unfolding everything
row_types = refl

row_native_types : writes names_native_types code_native_types 9 ≡ codes "truefalsefalse<null>1\nfault BadType res://m.gd:3 steps 3\n"
unfolding everything
row_native_types = refl

row_local_types : writes names_local_types code_local_types 100 ≡ codes "2\nfault BadType res://m.gd:6 steps 6\n"
unfolding everything
row_local_types = refl

row_inferred : writes names_inferred code_inferred 100 ≡ codes "fault BadType res://m.gd:4 steps 4\n"
unfolding everything
row_inferred = refl

row_field_type : writes names_field_type code_field_type 100 ≡ codes "fault BadType res://m.gd:4 steps 4\n"
unfolding everything
row_field_type = refl

row_member_type : writes names_member_type code_member_type 100 ≡ codes "fault BadType res://m.gd:5 steps 3\n"
unfolding everything
row_member_type = refl

row_parameter_types : writes names_parameter_types code_parameter_types 100 ≡ codes "1x\n2y\nfault BadType res://m.gd:7 steps 9\n"
unfolding everything
row_parameter_types = refl

row_result_type : writes names_result_type code_result_type 100 ≡ codes "fault BadType res://m.gd:3 steps 5\n"
unfolding everything
row_result_type = refl

row_typed_parameter : writes names_typed_parameter code_typed_parameter 9 ≡ codes "fault BadType res://m.gd:4 steps 3\n"
unfolding everything
row_typed_parameter = refl

row_void_result : writes names_void_result code_void_result 100 ≡ codes "fault BadType res://m.gd:2 steps 7\n"
unfolding everything
row_void_result = refl

row_typed_walk : writes names_typed_walk code_typed_walk 100 ≡ codes "1\nfault BadType res://m.gd:2 steps 5\n"
unfolding everything
row_typed_walk = refl

row_arguments_before_types : writes names_arguments_before_types code_arguments_before_types 100 ≡ codes "fault BadArgs res://m.gd:5 steps 3\n"
unfolding everything
row_arguments_before_types = refl

row_default_type : writes names_default_type code_default_type 100 ≡ codes "fault BadType res://m.gd:3 steps 5\n"
unfolding everything
row_default_type = refl

row_initialiser_type : writes names_initialiser_type code_initialiser_type 100 ≡ codes "fault BadType res://m.gd:3 steps 3\n"
unfolding everything
row_initialiser_type = refl

pub type_rows : TypeRows
type_rows = record { row_types = row_types; row_native_types = row_native_types; row_local_types = row_local_types; row_inferred = row_inferred; row_field_type = row_field_type; row_member_type = row_member_type; row_parameter_types = row_parameter_types; row_result_type = row_result_type; row_typed_parameter = row_typed_parameter; row_void_result = row_void_result; row_typed_walk = row_typed_walk; row_arguments_before_types = row_arguments_before_types; row_default_type = row_default_type; row_initialiser_type = row_initialiser_type }

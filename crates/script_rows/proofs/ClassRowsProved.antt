-- Worked runs on objects and their classes: by computation.
use Rattle.std.proofs.Common.{◌≡◌, refl}
use Rattle.std.specs.Prelude.{codes}
use Rattle.script_rows.specs.Scripts.{writes}
use Rattle.script_rows.specs.ClassRows.{ClassRows, names_statics, code_statics, names_virtual, code_virtual, names_order_of_new, code_order_of_new, names_nearest_init, code_nearest_init, names_no_init, code_no_init, names_native_classes, code_native_classes, names_field_defaults, code_field_defaults, names_initialiser_fault, code_initialiser_fault, names_statics_and_super, code_statics_and_super, names_new_fields, code_new_fields, names_three_classes, code_three_classes}
use Rattle.script_rows.proofs.Compute.{everything}

row_statics : writes names_statics code_statics 100 ≡ codes "2636\n8\ndone steps 16 left 0\n"
unfolding everything
row_statics = refl

row_virtual : writes names_virtual code_virtual 100 ≡ codes "Aa BAba\ndone steps 14 left 0\n"
unfolding everything
row_virtual = refl

row_order_of_new : writes names_order_of_new code_order_of_new 100 ≡ codes "x\ny\nA2\nB1\ndone steps 15 left 0\n"
unfolding everything
row_order_of_new = refl

row_nearest_init : writes names_nearest_init code_nearest_init 100 ≡ codes "A5\n<C#2>\ndone steps 4 left 0\n"
unfolding everything
row_nearest_init = refl

row_no_init : writes names_no_init code_no_init 100 ≡ codes "x\nfault BadArgs res://m.gd:7 steps 6\n"
unfolding everything
row_no_init = refl

row_native_classes : writes names_native_classes code_native_classes 100 ≡ codes "<Object#2><Node#3><RefCounted#4>\ndone steps 5 left 2\n"
unfolding everything
row_native_classes = refl

row_field_defaults : writes names_field_defaults code_field_defaults 100 ≡ codes "0[]0<null>\n0[]37[1]\ndone steps 8 left 0\n"
unfolding everything
row_field_defaults = refl

row_initialiser_fault : writes names_initialiser_fault code_initialiser_fault 100 ≡ codes "fault DivisionByZero res://m.gd:2 steps 2\n"
unfolding everything
row_initialiser_fault = refl

row_statics_and_super : writes names_statics_and_super code_statics_and_super 99 ≡ codes "9\n230\ndone steps 12 left 0\n"
unfolding everything
row_statics_and_super = refl

row_new_fields : writes names_new_fields code_new_fields 99 ≡ codes "1[][7]1<P#2>\nfault BadArgs res://m.gd:10 steps 11\n"
unfolding everything
row_new_fields = refl

row_three_classes : writes names_three_classes code_three_classes 100 ≡ codes "ABC\ndone steps 8 left 0\n"
unfolding everything
row_three_classes = refl

pub class_rows : ClassRows
class_rows = record { row_statics = row_statics; row_virtual = row_virtual; row_order_of_new = row_order_of_new; row_nearest_init = row_nearest_init; row_no_init = row_no_init; row_native_classes = row_native_classes; row_field_defaults = row_field_defaults; row_initialiser_fault = row_initialiser_fault; row_statics_and_super = row_statics_and_super; row_new_fields = row_new_fields; row_three_classes = row_three_classes }

-- Worked runs on calls of functions: by computation.
use Rattle.std.proofs.Common.{◌≡◌, refl}
use Rattle.std.specs.Prelude.{codes}
use Rattle.script_rows.specs.Scripts.{writes}
use Rattle.script_rows.specs.CallRows.{CallRows, names_callables, code_callables, names_not_callable, code_not_callable, names_null_call, code_null_call, names_freed_call, code_freed_call, names_field_called, code_field_called, names_defaults, code_defaults, names_entering, code_entering, names_default_fault, code_default_fault, names_bad_args, code_bad_args, names_bad_init, code_bad_init, names_no_step, code_no_step, names_results, code_results, names_factorial, code_factorial, names_values_called, code_values_called, names_deepest, code_deepest, names_refused_at_depth, code_refused_at_depth}
use Rattle.script_rows.proofs.Compute.{everything}

row_callables : writes names_callables code_callables 100 ≡ codes "12true<Callable f>\ndone steps 7 left 0\n"
unfolding everything
row_callables = refl

row_not_callable : writes names_not_callable code_not_callable 100 ≡ codes "fault NotCallable res://m.gd:3 steps 3\n"
unfolding everything
row_not_callable = refl

row_null_call : writes names_null_call code_null_call 100 ≡ codes "fault NullAccess res://m.gd:3 steps 3\n"
unfolding everything
row_null_call = refl

row_freed_call : writes names_freed_call code_freed_call 100 ≡ codes "false\nfault FreedAccess res://m.gd:7 steps 4\n"
unfolding everything
row_freed_call = refl

row_field_called : writes names_field_called code_field_called 100 ≡ codes "23\ndone steps 7 left 0\n"
unfolding everything
row_field_called = refl

row_defaults : writes names_defaults code_defaults 100 ≡ codes "36\ndone steps 6 left 0\n"
unfolding everything
row_defaults = refl

row_entering : writes names_entering code_entering 2 ≡ codes "spent res://m.gd:4 steps 2\n"
unfolding everything
row_entering = refl

row_default_fault : writes names_default_fault code_default_fault 100 ≡ codes "fault DivisionByZero res://m.gd:2 steps 3\n"
unfolding everything
row_default_fault = refl

row_bad_args : writes names_bad_args code_bad_args 100 ≡ codes "fault BadArgs res://m.gd:5 steps 3\n"
unfolding everything
row_bad_args = refl

row_bad_init : writes names_bad_init code_bad_init 100 ≡ codes "fault BadArgs res://m.gd:1 steps 0\n"
unfolding everything
row_bad_init = refl

row_no_step : writes names_no_step code_no_step 1 ≡ codes "spent res://m.gd:4 steps 1\n"
unfolding everything
row_no_step = refl

row_results : writes names_results code_results 100 ≡ codes "<null><null>\nh\ndone steps 14 left 0\n"
unfolding everything
row_results = refl

row_factorial : writes names_factorial code_factorial 100 ≡ codes "120\ndone steps 17 left 0\n"
unfolding everything
row_factorial = refl

row_values_called : writes names_values_called code_values_called 9 ≡ codes "5<Signal s><Callable g>\nfault NotCallable res://m.gd:6 steps 6\n"
unfolding everything
row_values_called = refl

row_deepest : writes names_deepest code_deepest 10000 ≡ codes "0\ndone steps 3071 left 0\n"
unfolding everything
row_deepest = refl

row_refused_at_depth : writes names_refused_at_depth code_refused_at_depth 10000 ≡ codes "fault BadArgs res://m.gd:2 steps 3071\n"
unfolding everything
row_refused_at_depth = refl

pub call_rows : CallRows
call_rows = record { row_callables = row_callables; row_not_callable = row_not_callable; row_null_call = row_null_call; row_freed_call = row_freed_call; row_field_called = row_field_called; row_defaults = row_defaults; row_entering = row_entering; row_default_fault = row_default_fault; row_bad_args = row_bad_args; row_bad_init = row_bad_init; row_no_step = row_no_step; row_results = row_results; row_factorial = row_factorial; row_values_called = row_values_called; row_deepest = row_deepest; row_refused_at_depth = row_refused_at_depth }

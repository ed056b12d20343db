use Rattle.std.proofs.Common.{sym, ap, refl, ◌≡◌, ◌∙◌, ◌<◌, ◌++◌, ℕ, List, length, drop, codes, rules, arith, true, Result, Err, ◌∷◌}
use Rattle.std.proofs.lemmas.Result.{err_from_is_err_and}
use Rattle.std.specs.List.{flat_map, join_by}
use Rattle.variant_values.specs.declared.values.Key.{Key}
use Rattle.variant_values.specs.declared.values.Value.{Value}
use Rattle.variant_values.specs.declared.faults.Trouble.{Trouble}
use Rattle.variant_values.specs.ValueTexts.{shown, entry_text, text_in}
use Rattle.string_calls.proofs.Levels.{writes_next, item_at, joins_rest, writes_fails, longer}
use Rattle.std.specs.Fmt.{signed_decimal}
use Rattle.string_calls.specs.Writes.{Writes}
use Rattle.string_calls.proofs.Levels.{writes_in, array_in-zero, dict_in-zero, array_in-below, dict_in-below, writes_text}
use Rattle.string_calls.proofs.texts.+texts.Goals as goal

pub write_value-returns-in-Null : goal.write_value-returns-in-Null
write_value-returns-in-Null t c = writes_in c.args.out.now c.write.new.self c.write.result c.args.levels c.args.heap.now.state.cells c.args.names.now _ _ c.in-Null.is (search (rules, c.write.ensures))

pub write_value-returns-in-Bool : goal.write_value-returns-in-Bool
write_value-returns-in-Bool t c = writes_in c.args.out.now c.write_truth.new.self c.write_truth.result c.args.levels c.args.heap.now.state.cells c.args.names.now _ _ c.in-Bool.is (search (rules, c.write_truth.ensures))

pub write_value-returns-in-Callable : goal.write_value-returns-in-Callable
write_value-returns-in-Callable t c = writes_in c.args.out.now c.write_between.new.self c.write_between.result c.args.levels c.args.heap.now.state.cells c.args.names.now _ _ c.in-Callable.is (search (rules, c.write_between.ensures))

pub write_value-returns-in-Signal : goal.write_value-returns-in-Signal
write_value-returns-in-Signal t c = writes_in c.args.out.now c.write_between-in-Signal.new.self c.write_between-in-Signal.result c.args.levels c.args.heap.now.state.cells c.args.names.now _ _ c.in-Signal.is (search (rules, c.write_between-in-Signal.ensures))

pub write_value-returns-in-Class : goal.write_value-returns-in-Class
write_value-returns-in-Class t c = writes_in c.args.out.now c.write_between-in-Class.new.self c.write_between-in-Class.result c.args.levels c.args.heap.now.state.cells c.args.names.now _ _ c.in-Class.is (search (rules, c.write_between-in-Class.ensures))

pub write_value-returns-in-Scene : goal.write_value-returns-in-Scene
write_value-returns-in-Scene t c =
    writes_in c.args.out.now c.write_between-in-Scene.new.self c.write_between-in-Scene.result c.args.levels c.args.heap.now.state.cells c.args.names.now _ _ c.in-Scene.is (writes_text c.args.out.now c.write_between-in-Scene.new.self c.write_between-in-Scene.result _ _ (ap (λ p. codes "<PackedScene " ++ p ++ codes ">") c.as_str-in-Scene.ensures) c.write_between-in-Scene.ensures)

pub write_value-returns-in-Weak : goal.write_value-returns-in-Weak
write_value-returns-in-Weak t c = writes_in c.args.out.now c.write-in-Weak.new.self c.write-in-Weak.result c.args.levels c.args.heap.now.state.cells c.args.names.now _ _ c.in-Weak.is (search (rules, c.write-in-Weak.ensures))

pub write_value-returns-in-Object : goal.write_value-returns-in-Object
write_value-returns-in-Object t c = writes_in c.args.out.now c.write_object.new.out c.write_object.result c.args.levels c.args.heap.now.state.cells c.args.names.now _ _ c.in-Object.is (search (rules, c.write_object.ensures))

pub write_value-returns-in-Int : goal.write_value-returns-in-Int
write_value-returns-in-Int t c =
    let h : Writes c.args.out.now c.write_number.new.self c.write_number.result (signed_decimal c.in-Int.n) = search (rules, c.write_number.ensures) in
    writes_in c.args.out.now c.write_number.new.self c.write_number.result c.args.levels c.args.heap.now.state.cells c.args.names.now _ _ c.in-Int.is h

pub write_value-returns-in-Str : goal.write_value-returns-in-Str
write_value-returns-in-Str t c =
    writes_in c.args.out.now c.write-in-Str.new.self c.write-in-Str.result c.args.levels c.args.heap.now.state.cells c.args.names.now _ _ c.in-Str.is (writes_text c.args.out.now c.write-in-Str.new.self c.write-in-Str.result _ _ c.as_str.ensures c.write-in-Str.ensures)

pub write_value-returns-in-Array : goal.write_value-returns-in-Array
write_value-returns-in-Array t c =
    writes_in c.args.out.now c.write-in-Array.new.self c.write-in-Array.result c.args.levels c.args.heap.now.state.cells c.args.names.now _ _ c.in-Array.is (writes_text c.args.out.now c.write-in-Array.new.self c.write-in-Array.result _ _ (array_in-zero c.args.levels c.args.heap.now.state.cells c.args.names.now _ c.if-levels-eq0.true) c.write-in-Array.ensures)

pub write_value-returns-in-Dict : goal.write_value-returns-in-Dict
write_value-returns-in-Dict t c =
    writes_in c.args.out.now c.write-in-Dict.new.self c.write-in-Dict.result c.args.levels c.args.heap.now.state.cells c.args.names.now _ _ c.in-Dict.is (writes_text c.args.out.now c.write-in-Dict.new.self c.write-in-Dict.result _ _ (dict_in-zero c.args.levels c.args.heap.now.state.cells c.args.names.now _ c.if-levels-eq0-2.true) c.write-in-Dict.ensures)

pub write_value-returns-in-Array-2 : goal.write_value-returns-in-Array-2
write_value-returns-in-Array-2 t c =
    writes_in c.args.out.now c.write_array.new.out c.write_array.result c.args.levels c.args.heap.now.state.cells c.args.names.now _ _ c.in-Array-2.is (writes_text c.args.out.now c.write_array.new.out c.write_array.result _ _ (array_in-below c.args.levels c.args.heap.now.state.cells c.args.names.now _ _ c.if-levels-eq0.false c.items.ensures.value) c.write_array.ensures)

pub write_value-returns-in-Dict-2 : goal.write_value-returns-in-Dict-2
write_value-returns-in-Dict-2 t c =
    writes_in c.args.out.now c.write_dict.new.out c.write_dict.result c.args.levels c.args.heap.now.state.cells c.args.names.now _ _ c.in-Dict-2.is (writes_text c.args.out.now c.write_dict.new.out c.write_dict.result _ _ (dict_in-below c.args.levels c.args.heap.now.state.cells c.args.names.now _ _ c.if-levels-eq0-2.false c.entries.ensures.value) c.write_dict.ensures)

pub write_items-loop-v-preserved : goal.write_items-loop-v-preserved
write_items-loop-v-preserved t c =
    writes_next (λ v. codes ", " ++ shown (text_in c.args.levels c.args.heap.now.state.cells c.args.names.now) v) _ _ _ c.args.others.now c.loop-v.v-index c.v-item.result (item_at c.args.others.now c.loop-v.v-index c.v-item.result (omega arith) c.v-item.is) c.in_ok-write_shown-2.ensures c.loop-v.invariant

pub write_items-returns-in_err-write_shown-2 : goal.write_items-returns-in_err-write_shown-2
write_items-returns-in_err-write_shown-2 t c =
    let failed = err_from_is_err_and c.from_residual-in_err-write_shown-2.result c.from_residual-in_err-write_shown-2.ensures.1 in
    let f : Value → List ℕ = shown (text_in c.args.levels c.args.heap.now.state.cells c.args.names.now) in
    let g : Value → List ℕ = λ v. codes ", " ++ f v in
    let all : List Value = c.args.first.now ∷ c.args.others.now in
    let q : Result (Unit {0}) Trouble = Err c.in_err-write_shown-2.field-0.0 in
    let whole : c.loop-v.out ++ flat_map g (drop c.loop-v.v-index c.args.others.now) ≡ c.args.out.now ++ join_by f (codes ", ") all = c.loop-v.invariant ∙ joins_rest f (codes ", ") _ _ all c.args.first.now refl c.in_ok-write_shown.ensures in
    writes_fails c.args.out.now c.loop-v.out c.write_shown-in-loop-v.new.out (join_by f (codes ", ") all) (g c.v-item.result) c.from_residual-in_err-write_shown-2.result q c.in_err-write_shown-2.field-0.0 (failed.1 ∙ ap Err failed.2) refl c.in_err-write_shown-2.ensures (λ long. longer g _ _ c.args.others.now c.loop-v.v-index _ _ (item_at c.args.others.now c.loop-v.v-index c.v-item.result (omega arith) c.v-item.is) long whole)

pub write_entries-loop-i-preserved : goal.write_entries-loop-i-preserved
write_entries-loop-i-preserved t c =
    writes_next (λ (e : Key × Value). codes ", " ++ entry_text c.args.heap.now.state.cells c.args.names.now (text_in c.args.levels c.args.heap.now.state.cells c.args.names.now) e) _ _ _ c.args.entries.now c.loop-i.i _ c.entry_at.ensures c.in_ok-write_entry-2.ensures c.loop-i.invariant

pub write_entries-returns-in_err-write_entry-2 : goal.write_entries-returns-in_err-write_entry-2
write_entries-returns-in_err-write_entry-2 t c =
    let failed = err_from_is_err_and c.from_residual-in_err-write_entry-2.result c.from_residual-in_err-write_entry-2.ensures.1 in
    let f : Key × Value → List ℕ = entry_text c.args.heap.now.state.cells c.args.names.now (text_in c.args.levels c.args.heap.now.state.cells c.args.names.now) in
    let g : Key × Value → List ℕ = λ e. codes ", " ++ f e in
    let q : Result (Unit {0}) Trouble = Err c.in_err-write_entry-2.field-0.0 in
    let whole : c.loop-i.out ++ flat_map g (drop c.loop-i.i c.args.entries.now) ≡ c.args.out.now ++ join_by f (codes ", ") c.args.entries.now = c.loop-i.invariant ∙ joins_rest f (codes ", ") _ _ c.args.entries.now _ c.entry_at-first.ensures c.in_ok-write_entry.ensures in
    writes_fails c.args.out.now c.loop-i.out c.write_entry-in-loop-i.new.out (join_by f (codes ", ") c.args.entries.now) (g (c.entry_at.result.0.now, c.entry_at.result.1.now)) c.from_residual-in_err-write_entry-2.result q c.in_err-write_entry-2.field-0.0 (failed.1 ∙ ap Err failed.2) refl c.in_err-write_entry-2.ensures (λ long. longer g _ _ c.args.entries.now c.loop-i.i _ _ c.entry_at.ensures long whole)

use Rattle.std.proofs.Common.{◌≡◌, ◌∙◌, ◌≤◌, ap, sym, subst, false, true, Bool, is_some, rules, List, Some}
use Rattle.std.specs.Prelude.{slice_get}
use Rattle.std.specs.Map.{lookup}
use Rattle.variant_values.specs.declared.values.Key.{Key}
use Rattle.variant_values.specs.declared.values.Value.{Value}
use Rattle.variant_values.specs.Places.{weight}
use Rattle.variant_values.specs.Keys.{same_key, with_entry}
use Rattle.variant_values.specs.Heaps.{with_entry_at}
use Rattle.variant_values.specs.DictMethods.{entries_in, with_entries}
use Rattle.bulk_changes.specs.Merges.{with_put}
use Rattle.bulk_changes.proofs.Merging.{after_ok, entered, is_put}
use Rattle.bulk_changes.proofs.merges.enter_at.Goals as goal
use Rattle.bulk_changes.proofs.merges.enter_at.Goals.{else-not-overwrite-via-then-not-overwrite+else-is_some, else-not-overwrite-via-else-not-overwrite}

pub enter-requires-clause-room : goal.enter-requires-clause-room
enter-requires-clause-room c =
    let es = entries_in c.args.heap.now.state c.args.of.0 in
    let f : Key × Value = (c.in_ok-key.key, c.in_ok-value.value) in
    let key : c.in_ok-key.key ≡ c.entry_at.result.0.now = search rules in
    let value : c.in_ok-value.value ≡ c.entry_at.result.1.now = search rules in
    let at : slice_get (entries_in c.args.heap.now.state c.args.other.0) c.args.index ≡ Some f = cc (c.entries.ensures.value, c.entry_at.ensures, key, value) in
    let put : with_put c.args.overwrite es f ≡ with_entry es f.0 f.1 = elim c.else-not-overwrite.branch [ else-not-overwrite-via-then-not-overwrite+else-is_some w ↦ is_put c.args.overwrite es f (search rules) | else-not-overwrite-via-else-not-overwrite w ↦ let over : c.args.overwrite ≡ true = search rules in ap (λ (b : Bool). with_put b es f) over ] in
    subst (λ (us : List (Key × Value)). weight (with_entries c.args.heap.now.state c.args.of.0 us).cells ≤ 67108864) put (c.requires.room f at)

pub returns-clause-ok : goal.returns-clause-ok
returns-clause-ok c =
    let es = entries_in c.args.heap.now.state c.args.of.0 in
    let f : Key × Value = (c.in_ok-key.key, c.in_ok-value.value) in
    let key : c.in_ok-key.key ≡ c.entry_at.result.0.now = search rules in
    let value : c.in_ok-value.value ≡ c.entry_at.result.1.now = search rules in
    let at : slice_get (entries_in c.args.heap.now.state c.args.other.0) c.args.index ≡ Some f = cc (c.entries.ensures.value, c.entry_at.ensures, key, value) in
    let put : with_put c.args.overwrite es f ≡ with_entry es f.0 f.1 = elim c.else-not-overwrite.branch [ else-not-overwrite-via-then-not-overwrite+else-is_some w ↦ is_put c.args.overwrite es f (search rules) | else-not-overwrite-via-else-not-overwrite w ↦ let over : c.args.overwrite ≡ true = search rules in ap (λ (b : Bool). with_put b es f) over ] in
    let fs = entries_in c.args.heap.now.state c.args.other.0 in
    after_ok (c.enter.new.heap.state ≡ with_entry_at c.args.heap.now.state c.args.of.0 f.0 f.1) ((g : Key × Value) → slice_get fs c.args.index ≡ Some g → c.enter.new.heap.state ≡ with_entries c.args.heap.now.state c.args.of.0 (with_put c.args.overwrite es g)) c.enter.result (λ e. entered c.args.overwrite c.args.heap.now.state c.enter.new.heap.state c.args.of.0 fs c.args.index f at put e) c.enter.ensures.ok

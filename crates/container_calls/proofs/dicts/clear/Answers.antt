use Rattle.std.proofs.Common.{◌≡◌, ◌<◌, ℕ, sym, subst, true, length, List, Option, Some}
use Rattle.variant_values.specs.Heaps.{Heap, cell_at, is_dict, without_entry_at}
use Rattle.variant_values.specs.declared.values.Key.{Key}
use Rattle.variant_values.specs.declared.values.Value.{Value}
use Rattle.container_calls.specs.Walks.{IsLastKey}
use Rattle.variant_values.specs.DictMethods.{entries_in, with_entries}
use Rattle.container_calls.proofs.Entries.{still_dict, still_put, fewer}
use Rattle.container_calls.proofs.dicts.clear.Goals as goal

last_is : (h : Heap) (x : ℕ) (o : Option Key) (es : List (Key × Value)) (k : Key) → IsLastKey o es → es ≡ entries_in h x → o ≡ Some k → IsLastKey (Some k) (entries_in h x)
last_is h x o es k l e g = subst (λ (p : Option Key). IsLastKey p (entries_in h x)) g (subst (λ (fs : List (Key × Value)). IsLastKey o fs) e l)

kept : (old h new : Heap) (x : ℕ) (k : Key) → is_dict (cell_at old.cells x) ≡ true → is_dict (cell_at h.cells x) ≡ true → h ≡ with_entries old x (entries_in h x) → new ≡ without_entry_at h x k → (is_dict (cell_at new.cells x) ≡ true) × (new ≡ with_entries old x (entries_in new x))
kept old h new x k was dict is after = subst (λ (g : Heap). (is_dict (cell_at g.cells x) ≡ true) × (g ≡ with_entries old x (entries_in g x))) (sym after) (still_dict h x dict k, still_put h x dict k old was is)

less : (h new : Heap) (x : ℕ) (k : Key) → is_dict (cell_at h.cells x) ≡ true → new ≡ without_entry_at h x k → IsLastKey (Some k) (entries_in h x) → length (entries_in new x) < length (entries_in h x)
less h new x k dict after l = subst (λ (g : Heap). length (entries_in g x) < length (entries_in h x)) (sym after) (fewer h x dict k l)

pub loop-key-smaller-in-Some : goal.loop-key-smaller-in-Some
loop-key-smaller-in-Some c = less c.loop-key.heap.state c.remove_entry.new.self.state c.args.of.0 c.in-Some.key c.loop-key.invariant.dict c.remove_entry.ensures.after (last_is c.loop-key.heap.state c.args.of.0 c.in_ok-key.field-0 c.entries.result.now c.in-Some.key c.in_ok-key.ensures c.entries.ensures.value c.in-Some.is)

pub loop-key-preserved-in-Some : goal.loop-key-preserved-in-Some
loop-key-preserved-in-Some c = let both = kept c.args.heap.now.state c.loop-key.heap.state c.remove_entry.new.self.state c.args.of.0 c.in-Some.key c.requires c.loop-key.invariant.dict c.loop-key.invariant.rest c.remove_entry.ensures.after in record { dict = both.0; rest = both.1 }

pub loop-key-smaller : goal.loop-key-smaller
loop-key-smaller c = less c.loop-key.heap.state c.remove_entry.new.self.state c.args.of.0 c.in-Some.key c.loop-key.invariant.dict c.remove_entry.ensures.after (last_is c.loop-key.heap.state c.args.of.0 c.in_ok-key.field-0 c.entries.result.now c.in-Some.key c.in_ok-key.ensures c.entries.ensures.value c.in-Some.is)

pub loop-key-preserved : goal.loop-key-preserved
loop-key-preserved c = let both = kept c.args.heap.now.state c.loop-key.heap.state c.remove_entry.new.self.state c.args.of.0 c.in-Some.key c.requires c.loop-key.invariant.dict c.loop-key.invariant.rest c.remove_entry.ensures.after in record { dict = both.0; rest = both.1 }

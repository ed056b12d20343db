-- The law that what a value names is known.
use Rattle.std.proofs.Common.{◌≡◌, ℕ, true, List, [], ◌∷◌, refl, subst, Option, Some, None, Ok, Err, arith}
use Rattle.std.specs.List.{AllByRecursion}
use Rattle.std.proofs.lemmas.List.Elements.{All-from_recursion, recursion_from_All}
use Rattle.folder_meaning.specs.declared.const_value.ConstValue.{ConstValue}
use Rattle.native_calls.specs.Natives.{Gives, Prints, GoesOn, Emits, Enters, Instantiates, Native, global_native, method_native}
use Rattle.variant_values.specs.declared.cells.Cell.{Cell}
use Rattle.variant_values.specs.declared.cells.Cell.TheVariants.{Array as ArrayCell, Dict as DictCell, Object as ObjectCell}
use Rattle.variant_values.specs.declared.values.Key.{Key}
use Rattle.variant_values.specs.declared.values.Value.{Value}
use Rattle.variant_values.specs.declared.values.Value.TheVariants.{Null, Bool as Truth, Int, Str, Array, Dict, Object, Callable, Signal, Class, Scene, Weak}
use Rattle.variant_values.specs.Changes.{Done, Given, new_array, weighed}
use Rattle.variant_values.specs.DictMethods.{keys_of}
use Rattle.variant_values.specs.Heaps.{Heap, cell_at, entries_of, field_in, field_put, items_of, knows, KnowsSlot, with_field}
use Rattle.variant_values.specs.Indexing.{index_of, index_put}
use Rattle.variant_values.specs.Operations.{operated}
use Rattle.variant_values.specs.Operators.{Outcome}
use Rattle.script_meaning.specs.State.{World, Frame, heap_of, with_heap}
use Rattle.script_meaning.specs.Constants.{made, new_dict_of}
use Rattle.script_meaning.specs.Objects.{placed}
use Rattle.script_meaning.specs.Types.{default_of}
use Rattle.script_laws.specs.Cells.{AreKnown, Fits, Follows, IsGrown, Knows, KnowsDone, Tells}
use Rattle.script_laws.specs.Knowing.{Covers, IsLater, IsPlain}
use Rattle.script_laws.proofs.Growing.{value_grown}
use Rattle.script_laws.proofs.CallRules.{KnowsEntry, KnowsFound, entries_are, fits_array, fits_cell, fits_weighed, got_known, items_are}
use Rattle.script_laws.proofs.Holding.{stays_more}
use Rattle.script_laws.proofs.KnownSweeps.{sweep_known, sweep_later}
use Rattle.script_laws.proofs.Law.{Law, DoesKnown, GivesKnown, Grows, IsAnswer, KnownIn, KnownOutcome}
use Rattle.script_laws.proofs.MakingCalls.{default_fits, follows_field, made_dict_fits, making_fits, placed_fits, slot_field}
use Rattle.script_laws.proofs.Moments.{IsMaking}
use Rattle.script_laws.proofs.NativeCalls.{IsKnownAnswer, global_known, method_known}
use Rattle.script_laws.proofs.ValueCalls.{index_tells, keys_fits, operator_fits, put_fits}

abbrev pub Fine : World → Type 0
Fine w = AreKnown w.cells

abbrev pub Known : World → Value → Type 0
Known w v = knows w.cells v ≡ true

abbrev pub Then : List Value → World → World → Type 0
Then held w u = IsLater held w.cells u.cells

pub same_cells : (held : List Value) (cells : List (Option Cell)) → IsLater held cells cells
same_cells held cells = record { serials = omega arith; gone = λ x l e. e; stays = λ v s k. k }

pub later_on : (held : List Value) (a b c : List (Option Cell)) → IsLater held a b → IsLater held b c → IsLater held a c
later_on held a b c f g = record {
  serials = omega (arith, f.serials, g.serials);
  gone = λ x l e. g.gone x (omega (arith, l, f.serials)) (f.gone x l e);
  stays = λ v s k. g.stays v s (f.stays v s k);
}

pub later_fewer : (few many : List Value) (a b : List (Option Cell)) → Covers few many → IsLater many a b → IsLater few a b
later_fewer few many a b c f = record { serials = f.serials; gone = f.gone; stays = λ v s k. f.stays v (stays_more few many v c s) k }

grown_later : (held : List Value) (a b : List (Option Cell)) → IsGrown a b → IsLater held a b
grown_later held a b g = record { serials = g.serials; gone = λ x l e. subst (λ s. Follows s (cell_at b x)) e (g.each x l); stays = λ v s k. value_grown a b g v k }

pub grows : (w : World) (g : Heap) → IsGrown w.cells g.cells → AreKnown g.cells → Grows Fine Known Then w (with_heap w g)
grows w g e k = record { fine = k; then = λ held. grown_later held w.cells g.cells e; stays = λ v q. value_grown w.cells g.cells e v q }

pub given : (frames : List Frame) (w : World) (r : Given) → Fits Knows (heap_of frames w) r → GivesKnown Fine Known Then w r
given frames w (Ok (v, g)) s = record { given = (grows w g s.fits.0 s.fits.1, s.fits.2) }
given frames w (Err kind) s = record { given = tt }

pub does : (frames : List Frame) (w : World) (r : Done) → Fits KnowsDone (heap_of frames w) r → DoesKnown Fine Known Then w r
does frames w (Ok (v, g)) s = record { done = grows w g s.fits.0 s.fits.1 }
does frames w (Err kind) s = record { done = tt }

pub answer : (frames : List Frame) (w : World) (Has : Value → Type 0) (n : Option Native) → IsKnownAnswer Has (heap_of frames w) n → IsAnswer Fine Known Then w Has n
answer frames w Has None k = tt
answer frames w Has (Some (Err kind)) k = tt
answer frames w Has (Some (Ok (Gives v g))) k = (grows w g k.0 k.1, k.2)
answer frames w Has (Some (Ok (Prints text))) k = tt
answer frames w Has (Some (Ok (GoesOn of name vs))) k = k
answer frames w Has (Some (Ok (Emits targets vs))) k = k
answer frames w Has (Some (Ok (Enters node g))) k = tt
answer frames w Has (Some (Ok (Instantiates file))) k = tt

pub plain_known : (cells : List (Option Cell)) (v : Value) → IsPlain v → knows cells v ≡ true
plain_known cells Null p = refl
plain_known cells (Truth b) p = refl
plain_known cells (Int n) p = refl
plain_known cells (Str s) p = refl
plain_known cells (Class c) p = refl
plain_known cells (Scene f n) p = refl
plain_known cells (Array s) p = absurd p
plain_known cells (Dict s) p = absurd p
plain_known cells (Object s) p = absurd p
plain_known cells (Callable s n) p = absurd p
plain_known cells (Signal s n) p = absurd p
plain_known cells (Weak s) p = absurd p

found_in : (w : World) (o : Option Value) → KnowsFound w.cells o → KnownIn Fine Known Then w o
found_in w None k = tt
found_in w (Some v) k = k

pub field_known : (w : World) (s : Option Cell) (i : ℕ) → KnowsSlot w.cells s → KnownIn Fine Known Then w (field_in s i)
field_known w None i k = tt
field_known w (Some (ArrayCell vs of)) i k = tt
field_known w (Some (DictCell es)) i k = tt
field_known w (Some (ObjectCell o)) i k = found_in w _ (got_known w.cells o.fields i k.0)

pub told : (w : World) (o : Outcome) → Tells w.cells o → KnownOutcome Fine Known Then w o
told w (Ok v) t = t.known
told w (Err kind) t = tt

pub seconds : (w : World) (es : List (Key × Value)) → AllByRecursion (KnowsEntry w.cells) es → AllByRecursion (λ e. Known w e.1) es
seconds w [] k = tt
seconds w (e ∷ es) k = (k.0.1, seconds w es k.1)

abbrev pub known : Law
known = record {
  Fine = Fine;
  Known = Known;
  Then = Then;
  same = λ held w. same_cells held w.cells;
  after = λ held u v w f g. later_on held u.cells v.cells w.cells f g;
  fewer = λ few many u v c f. later_fewer few many u.cells v.cells c f;
  keeps = λ held u v x f s k. f.stays x s k;
  stepped = λ held w n e k. (k, same_cells held w.cells);
  prints = λ held w text k. (k, same_cells held w.cells);
  sweeps = λ frames w k. (sweep_known frames w k, sweep_later frames w k);
  plain = λ w v p. plain_known w.cells v p;
  callable = λ w s name k. k;
  signal = λ w s name k. k;
  object = λ w s name k. k;
  field = λ w x i k. field_known w (cell_at w.cells x) i (k.each x);
  items = λ w x k. recursion_from_All (Knows w.cells) (items_of (cell_at w.cells x)) (items_are w.cells k x);
  entries = λ w x k. seconds w (entries_of (cell_at w.cells x)) (recursion_from_All (KnowsEntry w.cells) (entries_of (cell_at w.cells x)) (entries_are w.cells k x));
  index = λ w v i k n m. told w (index_of w.cells v i) (index_tells w.cells k v i);
  operates = λ frames w names op v u k n m. given frames w (operated names (heap_of frames w) op v u) (operator_fits (heap_of frames w) k names op v u);
  puts = λ frames w v i to k n m q. does frames w (index_put (heap_of frames w) v i to) (put_fits (heap_of frames w) k v i to m q);
  puts_field = λ frames w x i v k n. does frames w (weighed (with_field (heap_of frames w) x i v) tt) (fits_weighed KnowsDone (heap_of frames w) (with_field (heap_of frames w) x i v) tt
      (fits_cell KnowsDone (λ old new a g e. tt) (heap_of frames w) k x (field_put i v (cell_at w.cells x)) tt (follows_field i v (cell_at w.cells x)) (slot_field w.cells i v (cell_at w.cells x) n (k.each x)) tt));
  array = λ frames w vs of k n. given frames w (new_array (heap_of frames w) vs of) (fits_array (heap_of frames w) k vs of (All-from_recursion (Knows w.cells) vs n));
  dict = λ frames w vs k n. given frames w (new_dict_of (heap_of frames w) vs) (made_dict_fits (heap_of frames w) k vs n);
  keys = λ frames w x k. given frames w (keys_of (heap_of frames w) x) (keys_fits (heap_of frames w) k x);
  default = λ frames w type k. given frames w (default_of type (heap_of frames w)) (default_fits (heap_of frames w) k type);
  places = λ frames w project class k. given frames w (placed project (heap_of frames w) class) (placed_fits project class (heap_of frames w) k);
  method = λ frames w has v name vs Has k n m passed. answer frames w Has (method_native has (heap_of frames w) v name vs) (method_known Has (heap_of frames w) k has vs (All-from_recursion (Knows w.cells) vs m) passed v name n);
  global = λ frames w names name vs Has k m passed. answer frames w Has (global_native names (heap_of frames w) name vs) (global_known Has (heap_of frames w) k names vs (All-from_recursion (Knows w.cells) vs m) name);
}

-- a read of a constant makes what is known
pub constant_made : (c : ConstValue) → IsMaking known (made c)
constant_made c = record { makes = λ frames w k. given frames w (made c (heap_of frames w)) (making_fits c (heap_of frames w) k) }

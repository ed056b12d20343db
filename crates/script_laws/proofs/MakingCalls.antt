-- What reads of constants and `new` make is known.
use Rattle.std.proofs.Common.{◌≡◌, ℕ, suc, Bool, true, false, List, [], ◌∷◌, ◌++◌, length, map, refl, sym, subst, Option, Some, None, Result, Ok, Err, arith}
use Rattle.std.specs.List.{AllByRecursion, list_any}
use Rattle.std.proofs.lemmas.Bool.{and_from, lt-ltb}
use Rattle.std.proofs.lemmas.List.{get_or_push, length_push}
use Rattle.std.proofs.lemmas.List.Elements.{All-nil, All-cons, All-set}
use Rattle.folder_meaning.specs.declared.const_value.ConstValue.{ConstValue}
use Rattle.folder_meaning.specs.declared.const_value.ConstValue.TheOpen.{ConstValue-F}
use Rattle.folder_meaning.specs.declared.const_value.ConstValue.TheFolds.{fold-roll-ConstValue, ind-ConstValue, map-ConstValue}
use Rattle.folder_meaning.specs.declared.script_type.ScriptType.{ScriptType}
use Rattle.folder_meaning.specs.declared.script_type.ScriptType.TheVariants as of_type
use Rattle.variant_values.specs.declared.cells.Cell.{Cell}
use Rattle.variant_values.specs.declared.cells.Cell.TheVariants.{Array as ArrayCell, Dict as DictCell, Object as ObjectCell}
use Rattle.variant_values.specs.declared.classes.ClassTag.{ClassTag}
use Rattle.variant_values.specs.declared.faults.RunFault.{RunFault}
use Rattle.variant_values.specs.declared.faults.RunFault.TheVariants.{HeapFull}
use Rattle.variant_values.specs.declared.values.Key.{Key}
use Rattle.variant_values.specs.declared.values.Serial.{Serial}
use Rattle.variant_values.specs.declared.values.Value.{Value}
use Rattle.variant_values.specs.declared.values.Value.TheVariants.{Null, Bool as Truth, Int, Str, Object, Class, Scene}
use Rattle.variant_values.specs.Changes.{next_serial, takes}
use Rattle.variant_values.specs.Classes.{is_node_class}
use Rattle.variant_values.specs.Heaps.{Heap, cell_at, field_put, is_no_container, knows, KnowsAll, KnowsEntries, KnowsNode, KnowsSlot, with_field, with_new}
use Rattle.variant_values.specs.Keys.{with_entry}
use Rattle.variant_values.specs.Operators.{key_of}
use Rattle.script_meaning.specs.State.{Making}
use Rattle.script_meaning.specs.Projects.{Project, Field, Starts, Never}
use Rattle.script_meaning.specs.Types.{default_of, plain_default}
use Rattle.script_meaning.specs.Constants.{Made, and_make, array_made, const_step, dict_by, dict_made, entries_by, made, made_all, made_pairs, new_dict_of, scalar_made}
use Rattle.script_meaning.specs.Objects.{filled, filled_at, filled_by, new_object, new_part, placed, placed_at}
use Rattle.script_laws.specs.Cells.{AreKnown, Fits, Follows, IsGrown, Knows}
use Rattle.script_laws.proofs.Growing.{grown_itself, grown_set, known_set, value_grown}
use Rattle.script_laws.proofs.CallRules.{KnowsKeyed, entry_known, fits_array, fits_dict, fits_err, fits_if, fits_later, fits_looked, fits_new, key_known, tells_ok}

-- ---- one after the other

pub fits_make : {A B : Type 0} (K : List (Option Cell) → A → Type 0) (M : List (Option Cell) → B → Type 0) (h : Heap) (r : Made A) (go : A → Heap → Made B) → Fits K h r
    → ((a : A) (g : Heap) → IsGrown h.cells g.cells → AreKnown g.cells → K g.cells a → Fits M g (go a g)) → Fits M h (and_make r go)
fits_make K M h (Ok (a, g)) go s f = fits_later M h g (go a g) s.fits.0 (f a g s.fits.0 s.fits.1 s.fits.2)
fits_make K M h (Err kind) go s f = fits_err M h kind

-- ---- dictionaries of values in order

abbrev pub KnowsPair : List (Option Cell) → Value × Value → Type 0
KnowsPair cells p = Knows cells p.0 × Knows cells p.1

abbrev pub KnowsPairs : List (Option Cell) → List (Value × Value) → Type 0
KnowsPairs cells ps = AllByRecursion (KnowsPair cells) ps

module _ (cells : List (Option Cell)) where
  abbrev KnowsBuilt : Result (List (Key × Value)) RunFault → Type 0
  KnowsBuilt (Ok es) = KnowsEntries cells es
  KnowsBuilt (Err kind) = Unit {0}

  built_by : (es : List (Key × Value)) (v : Value) (ps : List (Value × Value)) (q : Result Key RunFault) → KnowsKeyed cells q
      → ((k : Key) → KnowsKeyed cells (Ok k) → KnowsBuilt (entries_by (with_entry es k v) ps))
      → KnowsBuilt (elim q [ Ok k ↦ entries_by (with_entry es k v) ps | Err kind ↦ Err kind ])
  built_by es v ps (Ok k) n rest = rest k n
  built_by es v ps (Err kind) n rest = tt

  entries_built : (es : List (Key × Value)) (ps : List (Value × Value)) → KnowsEntries cells es → KnowsPairs cells ps → KnowsBuilt (entries_by es ps)
  entries_built es [] a b = a
  entries_built es (p ∷ ps) a b = built_by es p.1 ps (key_of p.0) (key_known cells p.0 b.0.0) (λ k n. entries_built (with_entry es k p.1) ps (entry_known cells es k p.1 n b.0.1 a) b.1)

module _ (h : Heap) (k : AreKnown h.cells) where
  dict_fits_by : (r : Result (List (Key × Value)) RunFault) → KnowsBuilt h.cells r → Fits Knows h (dict_by h r)
  dict_fits_by (Ok es) b = fits_dict h k es b
  dict_fits_by (Err kind) b = fits_err Knows h kind

  pub made_dict_fits : (ps : List (Value × Value)) → KnowsPairs h.cells ps → Fits Knows h (new_dict_of h ps)
  made_dict_fits ps b = dict_fits_by (entries_by [] ps) (entries_built h.cells [] ps (All-nil _) b)

-- ---- defaults

pub plain_known : (cells : List (Option Cell)) (type : ScriptType) → knows cells (plain_default type) ≡ true
plain_known cells of_type.Bool = refl
plain_known cells of_type.Int = refl
plain_known cells of_type.Str = refl
plain_known cells type = refl

pub default_fits : (h : Heap) (k : AreKnown h.cells) (type : ScriptType) → Fits Knows h (default_of type h)
default_fits h k (of_type.Array of) = fits_array h k [] of (All-nil (Knows h.cells))
default_fits h k of_type.Dict = fits_dict h k [] (All-nil _)
default_fits h k of_type.Bool = fits_looked h _ k (tells_ok h.cells (Truth false) refl)
default_fits h k of_type.Int = fits_looked h _ k (tells_ok h.cells _ refl)
default_fits h k of_type.Str = fits_looked h _ k (tells_ok h.cells _ refl)
default_fits h k type = fits_looked h _ k (tells_ok h.cells Null refl)

-- ---- a field that is written

pub follows_field : (i : ℕ) (v : Value) (s : Option Cell) → Follows s (field_put i v s)
follows_field i v None = refl
follows_field i v (Some (ArrayCell vs of)) = refl
follows_field i v (Some (DictCell es)) = refl
follows_field i v (Some (ObjectCell o)) = refl

pub slot_field : (cells : List (Option Cell)) (i : ℕ) (v : Value) (s : Option Cell) → knows cells v ≡ true → KnowsSlot cells s → KnowsSlot cells (field_put i v s)
slot_field cells i v None n k = tt
slot_field cells i v (Some (ArrayCell vs of)) n k = k
slot_field cells i v (Some (DictCell es)) n k = k
slot_field cells i v (Some (ObjectCell o)) n k = (All-set (Knows cells) o.fields i v n k.0, k.1, k.2)

module _ (h : Heap) (k : AreKnown h.cells) (x i : ℕ) (v : Value) (n : knows h.cells v ≡ true) where
  pub field_grown : IsGrown h.cells (with_field h x i v).cells
  field_grown = grown_set h.cells x (field_put i v (cell_at h.cells x)) (follows_field i v (cell_at h.cells x))

  pub field_known : AreKnown (with_field h x i v).cells
  field_known = known_set h.cells x (field_put i v (cell_at h.cells x)) k (follows_field i v (cell_at h.cells x)) (slot_field h.cells i v (cell_at h.cells x) n (k.each x))

-- ---- a new object

default_filled : (h : Heap) (k : AreKnown h.cells) (type : ScriptType) (s : Serial) (i : ℕ) (rest : Heap → Made Value) → Knows h.cells (Object s)
    → ((g : Heap) → AreKnown g.cells → Knows g.cells (Object s) → Fits Knows g (rest g)) → Fits Knows h (filled_by (default_of type h) s i rest)
default_filled h k type s i rest n f = fits_make Knows Knows h (default_of type h) (λ v g. rest (with_field g s.0 i v)) (default_fits h k type) (λ v g grown known e.
    let after : IsGrown g.cells (with_field g s.0 i v).cells = field_grown g known s.0 i v e in
    fits_later Knows g (with_field g s.0 i v) _ after (f (with_field g s.0 i v) (field_known g known s.0 i v e) (value_grown g.cells (with_field g s.0 i v).cells after (Object s) (value_grown h.cells g.cells grown (Object s) n))))

filled_at_fits : (h : Heap) (k : AreKnown h.cells) (starts : Starts) (type : ScriptType) (s : Serial) (i : ℕ) (rest : Heap → Made Value) → Knows h.cells (Object s)
    → ((g : Heap) → AreKnown g.cells → Knows g.cells (Object s) → Fits Knows g (rest g)) → Fits Knows h (filled_at starts type s i rest h)
filled_at_fits h k Never (of_type.Array of) s i rest n f = default_filled h k (of_type.Array of) s i rest n f
filled_at_fits h k Never of_type.Dict s i rest n f = default_filled h k of_type.Dict s i rest n f
filled_at_fits h k starts type s i rest n f = f h k n

pub filled_fits : (fields : List Field) (s : Serial) (i : ℕ) (h : Heap) → AreKnown h.cells → Knows h.cells (Object s) → Fits Knows h (filled fields s i h)
filled_fits [] s i h k n = record { fits = (grown_itself h.cells, k, n) }
filled_fits (f ∷ fs) s i h k n = filled_at_fits h k f.starts f.type s i (filled fs s (suc i)) n (λ g known m. filled_fits fs s (suc i) g known m)

defaults_known : (cells : List (Option Cell)) (fields : List Field) → KnowsAll cells (map (λ f. plain_default f.type) fields)
defaults_known cells [] = All-nil (Knows cells)
defaults_known cells (f ∷ fs) = All-cons (Knows cells) (plain_default f.type) (map (λ f. plain_default f.type) fs) (plain_known cells f.type) (defaults_known cells fs)

part_known : (cells : List (Option Cell)) (b : Bool) → KnowsNode cells (new_part b)
part_known cells true = (tt, All-nil _)
part_known cells false = tt

pub object_known : (cells : List (Option Cell)) (project : Project) (class : ClassTag) → KnowsSlot cells (Some (new_object project class))
object_known cells project class = (defaults_known cells (project.fields class), All-nil _, part_known cells (list_any is_node_class (project.lineage class)))

new_object_known : (h : Heap) (c : Cell) → AreKnown h.cells → is_no_container (Some c) ≡ true → knows (with_new h c).cells (Object (next_serial h)) ≡ true
new_object_known h c k single = and_from _ _ (lt-ltb 0 (length h.cells) k.some) (and_from _ _ (lt-ltb (length h.cells) (length (h.cells ++ Some c ∷ [])) (omega (arith, length_push h.cells (Some c))))
    (subst (λ s. is_no_container s ≡ true) (sym (get_or_push h.cells (Some c) None (length h.cells) refl)) single))

-- what `new` gives of a heap is an object of it
abbrev IsIt : Serial → List (Option Cell) → Value → Type 0
IsIt s cells v = Knows cells (Object s)

object_is : (project : Project) (class : ClassTag) (h : Heap) → AreKnown h.cells → Fits (IsIt (next_serial h)) h (placed_at h (new_object project class) (next_serial h))
object_is project class h k = fits_if (IsIt (next_serial h)) h (takes h (new_object project class)) (Ok (Object (next_serial h), with_new h (new_object project class))) (Err HeapFull) (record { fits = (fits_new h k (new_object project class) (Object (next_serial h)) (object_known h.cells project class) (new_object_known h (new_object project class) k refl)).fits }) (fits_err (IsIt (next_serial h)) h HeapFull)

pub placed_fits : (project : Project) (class : ClassTag) (h : Heap) → AreKnown h.cells → Fits Knows h (placed project h class)
placed_fits project class h k = fits_make (IsIt (next_serial h)) Knows h (placed_at h (new_object project class) (next_serial h)) (λ v g. filled (project.fields class) (next_serial h) 0 g) (object_is project class h k)
    (λ v g grown known n. filled_fits (project.fields class) (next_serial h) 0 g known n)

-- ---- constants

-- a read of a constant gives what is known
pub record IsMaking (making : Making) : Type 0 where
  pub makes : (h : Heap) → AreKnown h.cells → Fits Knows h (making h)

abbrev AreMakings : List Making → Type 0
AreMakings ms = AllByRecursion IsMaking ms

abbrev PairMakes : Making × Making → Type 0
PairMakes m = IsMaking m.0 × IsMaking m.1

pub scalar_makes : (v : Value) → ((cells : List (Option Cell)) → knows cells v ≡ true) → IsMaking (scalar_made v)
scalar_makes v n = record { makes = λ h k. fits_looked h (Ok v) k (tells_ok h.cells v (n h.cells)) }

all_fits : (ms : List Making) → AreMakings ms → (h : Heap) → AreKnown h.cells → Fits KnowsAll h (made_all ms h)
all_fits [] is h k = record { fits = (grown_itself h.cells, k, All-nil (Knows h.cells)) }
all_fits (m ∷ ms) is h k = fits_make Knows KnowsAll h (m h) _ (is.0.makes h k) (λ v g grown known n.
    fits_make KnowsAll KnowsAll g (made_all ms g) _ (all_fits ms is.1 g known) (λ vs f later there ns.
    record { fits = (grown_itself f.cells, there, All-cons (Knows f.cells) v vs (value_grown g.cells f.cells later v n) ns) }))

pair_grown : (cells new : List (Option Cell)) → IsGrown cells new → (p : Value × Value) → KnowsPair cells p → KnowsPair new p
pair_grown cells new g p n = (value_grown cells new g p.0 n.0, value_grown cells new g p.1 n.1)

pairs_fit : (ms : List (Making × Making)) → AllByRecursion PairMakes ms → (h : Heap) → AreKnown h.cells → Fits KnowsPairs h (made_pairs ms h)
pairs_fit [] is h k = record { fits = (grown_itself h.cells, k, tt) }
pairs_fit (m ∷ ms) is h k = fits_make Knows KnowsPairs h (m.0 h) _ (is.0.0.makes h k) (λ u g grown known n.
    fits_make Knows KnowsPairs g (m.1 g) _ (is.0.1.makes g known) (λ v f later there o.
    fits_make KnowsPairs KnowsPairs f (made_pairs ms f) _ (pairs_fit ms is.1 f there) (λ ps e last here q.
    record { fits = (grown_itself e.cells, here, (pair_grown f.cells e.cells last (u, v) (value_grown g.cells f.cells later u n, o), q)) })))

pub array_makes : (ms : List Making) → AreMakings ms → IsMaking (array_made ms)
array_makes ms is = record { makes = λ h k. fits_make KnowsAll Knows h (made_all ms h) (λ vs g. _) (all_fits ms is h k) (λ vs g grown known n. fits_array g known vs None n) }

pub dict_makes : (ms : List (Making × Making)) → AllByRecursion PairMakes ms → IsMaking (dict_made ms)
dict_makes ms is = record { makes = λ h k. fits_make KnowsPairs Knows h (made_pairs ms h) (λ ps g. new_dict_of g ps) (pairs_fit ms is h k) (λ ps g grown known n. made_dict_fits g known ps n) }

abbrev Makes : ConstValue → Type 0
Makes c = IsMaking (made c)

abbrev Shown : Type 0
Shown = (c : ConstValue) × Makes c

all_of : (cs : List Shown) → AreMakings (map made (map (λ c. c.0) cs))
all_of [] = tt
all_of (c ∷ cs) = (c.1, all_of cs)

pairs_of : (cs : List (Shown × Shown)) → AllByRecursion PairMakes (map (λ (c : ConstValue × ConstValue). (made c.0, made c.1)) (map (λ (c : Shown × Shown). (c.0.0, c.1.0)) cs))
pairs_of [] = tt
pairs_of (c ∷ cs) = ((c.0.1, c.1.1), pairs_of cs)

layer_makes : (c : ConstValue-F Shown) → IsMaking (const_step (map-ConstValue ConstValue Making made (map-ConstValue Shown ConstValue (λ c. c.0) c)))
layer_makes ConstValue-F.Null = scalar_makes Null (λ cells. refl)
layer_makes (ConstValue-F.Bool b) = scalar_makes (Truth b) (λ cells. refl)
layer_makes (ConstValue-F.Int n) = scalar_makes (Int n) (λ cells. refl)
layer_makes (ConstValue-F.Str text) = scalar_makes (Str text) (λ cells. refl)
layer_makes (ConstValue-F.Array all) = array_makes _ (all_of all)
layer_makes (ConstValue-F.Dict all) = dict_makes _ (pairs_of all)
layer_makes (ConstValue-F.Class class) = scalar_makes (Class class) (λ cells. refl)
layer_makes (ConstValue-F.Scene file path) = scalar_makes (Scene file path) (λ cells. refl)

constant_makes : (c : ConstValue) → Makes c
unfolding made
constant_makes = ind-ConstValue Makes (λ x y is. subst IsMaking (sym (fold-roll-ConstValue Making const_step x)) (subst (λ z. IsMaking (const_step (map-ConstValue ConstValue Making made z))) is (layer_makes y)))

-- a read of a constant gives what is known, its containers made anew
pub making_fits : (c : ConstValue) (h : Heap) → AreKnown h.cells → Fits Knows h (made c h)
making_fits c h k = (constant_makes c).makes h k

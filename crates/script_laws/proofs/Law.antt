-- A law of runs: what is true of each world, of each value in it, and how a world goes on to a later one. What it takes for a
-- law to hold of every run.
use Rattle.std.proofs.Common.{◌≡◌, ℕ, suc, List, ◌++◌, Option, Some, None, Result, Ok, Err}
use Rattle.std.specs.List.{AllByRecursion}
use Rattle.folder_meaning.specs.declared.script_type.ScriptType.{ScriptType}
use Rattle.native_calls.specs.Natives.{Gives, Prints, GoesOn, Emits, Enters, Instantiates, Native, HasFunction, global_native, method_native}
use Rattle.variant_values.specs.declared.classes.ClassTag.{ClassTag}
use Rattle.variant_values.specs.declared.classes.ElementTag.{ElementTag}
use Rattle.variant_values.specs.declared.faults.RunFault.{RunFault}
use Rattle.variant_values.specs.declared.operators.BinaryOp.{BinaryOp}
use Rattle.variant_values.specs.declared.values.Serial.{Serial}
use Rattle.variant_values.specs.declared.values.Value.{Value}
use Rattle.variant_values.specs.declared.values.Value.TheVariants.{Object, Callable, Signal}
use Rattle.variant_values.specs.Changes.{Given, Done, new_array, weighed}
use Rattle.variant_values.specs.DictMethods.{keys_of}
use Rattle.variant_values.specs.Heaps.{cell_at, entries_of, field_in, items_of, with_field}
use Rattle.variant_values.specs.Indexing.{index_of, index_put}
use Rattle.variant_values.specs.Operations.{operated}
use Rattle.variant_values.specs.ValueTexts.{Names}
use Rattle.script_meaning.specs.State.{World, Frame, Stop, Failed, Spent, heap_of, holds_of, sweep, with_heap}
use Rattle.script_meaning.specs.Constants.{new_dict_of}
use Rattle.script_meaning.specs.Types.{default_of}
use Rattle.script_meaning.specs.Projects.{Project}
use Rattle.script_meaning.specs.Objects.{placed}
use Rattle.script_laws.specs.Knowing.{Covers, IsPlain, Stays}

-- the world when something stopped
abbrev pub world_of : Stop → World
world_of (Failed kind spot w) = w
world_of (Spent spot w) = w

module _ (Fine : World → Type 0) (Known : World → Value → Type 0) (Then : List Value → World → World → Type 0) where
  -- Without a sweep: what is known stays known, whatever is held.
  pub record Grows (w u : World) : Type 0 where
    pub fine : Fine u
    pub then : (held : List Value) → Then held w u
    pub stays : (v : Value) → Known w v → Known u v

  abbrev pub KnownIn : World → Option Value → Type 0
  KnownIn w None = Unit {0}
  KnownIn w (Some v) = Known w v

  abbrev pub KnownOutcome : World → Result Value RunFault → Type 0
  KnownOutcome w (Ok v) = Known w v
  KnownOutcome w (Err kind) = Unit {0}

  abbrev pub AllKnown : World → List Value → Type 0
  AllKnown w vs = AllByRecursion (Known w) vs

  abbrev pub IsGiven : World → Given → Type 0
  IsGiven w (Ok (v, g)) = Grows w (with_heap w g) × Known (with_heap w g) v
  IsGiven w (Err kind) = Unit {0}

  -- what a call of values gives
  pub record GivesKnown (w : World) (r : Given) : Type 0 where
    pub given : IsGiven w r

  abbrev pub IsDone : World → Done → Type 0
  IsDone w (Ok (v, g)) = Grows w (with_heap w g)
  IsDone w (Err kind) = Unit {0}

  pub record DoesKnown (w : World) (r : Done) : Type 0 where
    pub done : IsDone w r

  -- what a native call gives, where its arguments have a property: those that are passed on have it too
  abbrev pub IsAnswer : World → (Value → Type 0) → Option Native → Type 0
  IsAnswer w Has None = Unit {0}
  IsAnswer w Has (Some (Err kind)) = Unit {0}
  IsAnswer w Has (Some (Ok (Gives v g))) = Grows w (with_heap w g) × Known (with_heap w g) v
  IsAnswer w Has (Some (Ok (Prints text))) = Unit {0}
  IsAnswer w Has (Some (Ok (GoesOn of name vs))) = Known w of × AllByRecursion Has vs
  IsAnswer w Has (Some (Ok (Emits targets vs))) = AllByRecursion (λ t. Known w t × ((held : List Value) → Stays held t)) targets × AllByRecursion Has vs
  IsAnswer w Has (Some (Ok (Enters node g))) = Unit {0}
  IsAnswer w Has (Some (Ok (Instantiates file))) = Unit {0}

-- a law, with the acts under which it is closed
pub record Law : Type 1 where
  pub Fine : World → Type 0
  pub Known : World → Value → Type 0
  -- a world goes on to another, while these values are held
  pub Then : List Value → World → World → Type 0
  pub same : (held : List Value) (w : World) → Then held w w
  pub after : (held : List Value) (u v w : World) → Then held u v → Then held v w → Then held u w
  pub fewer : (few many : List Value) (u v : World) → Covers few many → Then many u v → Then few u v
  pub keeps : (held : List Value) (u v : World) (x : Value) → Then held u v → Stays held x → Known u x → Known v x
  -- a step, a text that is printed, a sweep
  pub stepped : (held : List Value) (w : World) (n : ℕ) → w.left ≡ suc n → Fine w → Fine (record w { left = n }) × Then held w (record w { left = n })
  pub prints : (held : List Value) (w : World) (text : List ℕ) → Fine w → Fine (record w { printed = w.printed ++ text }) × Then held w (record w { printed = w.printed ++ text })
  pub sweeps : (frames : List Frame) (w : World) → Fine w → Fine (sweep frames w) × Then (holds_of frames) w (sweep frames w)
  -- values
  pub plain : (w : World) (v : Value) → IsPlain v → Known w v
  pub callable : (w : World) (s : Serial) (name : List ℕ) → Known w (Object s) → Known w (Callable s name)
  pub signal : (w : World) (s : Serial) (name : List ℕ) → Known w (Object s) → Known w (Signal s name)
  pub object : (w : World) (s : Serial) (name : List ℕ) → Known w (Callable s name) → Known w (Object s)
  -- looks at cells
  pub field : (w : World) (x i : ℕ) → Fine w → KnownIn Fine Known Then w (field_in (cell_at w.cells x) i)
  pub items : (w : World) (x : ℕ) → Fine w → AllKnown Fine Known Then w (items_of (cell_at w.cells x))
  pub entries : (w : World) (x : ℕ) → Fine w → AllByRecursion (λ e. Known w e.1) (entries_of (cell_at w.cells x))
  pub index : (w : World) (v i : Value) → Fine w → Known w v → Known w i → KnownOutcome Fine Known Then w (index_of w.cells v i)
  -- calls of values
  pub operates : (frames : List Frame) (w : World) (names : Names) (op : BinaryOp) (v u : Value) → Fine w → Known w v → Known w u → GivesKnown Fine Known Then w (operated names (heap_of frames w) op v u)
  pub puts : (frames : List Frame) (w : World) (v i to : Value) → Fine w → Known w v → Known w i → Known w to → DoesKnown Fine Known Then w (index_put (heap_of frames w) v i to)
  pub puts_field : (frames : List Frame) (w : World) (x i : ℕ) (v : Value) → Fine w → Known w v → DoesKnown Fine Known Then w (weighed (with_field (heap_of frames w) x i v) tt)
  pub array : (frames : List Frame) (w : World) (vs : List Value) (of : Option ElementTag) → Fine w → AllKnown Fine Known Then w vs → GivesKnown Fine Known Then w (new_array (heap_of frames w) vs of)
  pub dict : (frames : List Frame) (w : World) (vs : List (Value × Value)) → Fine w → AllByRecursion (λ p. Known w p.0 × Known w p.1) vs → GivesKnown Fine Known Then w (new_dict_of (heap_of frames w) vs)
  pub keys : (frames : List Frame) (w : World) (x : ℕ) → Fine w → GivesKnown Fine Known Then w (keys_of (heap_of frames w) x)
  pub default : (frames : List Frame) (w : World) (type : ScriptType) → Fine w → GivesKnown Fine Known Then w (default_of type (heap_of frames w))
  pub places : (frames : List Frame) (w : World) (project : Project) (class : ClassTag) → Fine w → GivesKnown Fine Known Then w (placed project (heap_of frames w) class)
  pub method : (frames : List Frame) (w : World) (has : HasFunction) (v : Value) (name : List ℕ) (vs : List Value) (Has : Value → Type 0) → Fine w → Known w v → AllKnown Fine Known Then w vs → AllByRecursion Has vs → IsAnswer Fine Known Then w Has (method_native has (heap_of frames w) v name vs)
  pub global : (frames : List Frame) (w : World) (names : Names) (name : List ℕ) (vs : List Value) (Has : Value → Type 0) → Fine w → AllKnown Fine Known Then w vs → AllByRecursion Has vs → IsAnswer Fine Known Then w Has (global_native names (heap_of frames w) name vs)

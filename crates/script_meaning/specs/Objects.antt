-- Making an object.
use Rattle.std.specs.Prelude.{ℕ, suc, Bool, true, false, if◌then◌else◌, List, [], ◌∷◌, map, codes, Option, Some, None, Result, Ok, Err}
use Rattle.std.specs.List.{list_any}
use Rattle.folder_meaning.specs.declared.script_type.ScriptType.{ScriptType}
use Rattle.folder_meaning.specs.declared.script_type.ScriptType.TheVariants as of_type
use Rattle.variant_values.specs.declared.cells.Cell.{Cell}
use Rattle.variant_values.specs.declared.cells.Cell.TheVariants.{Object as ObjectCell}
use Rattle.variant_values.specs.declared.cells.NodePart.{NodePart}
use Rattle.variant_values.specs.declared.classes.ClassTag.{ClassTag}
use Rattle.variant_values.specs.declared.faults.RunFault.TheVariants.{BadArgs, HeapFull}
use Rattle.variant_values.specs.declared.values.Serial.{Serial}
use Rattle.variant_values.specs.declared.values.Value.{Value}
use Rattle.variant_values.specs.declared.values.Value.TheVariants.{Null, Object}
use Rattle.variant_values.specs.Changes.{Given, next_serial, takes}
use Rattle.variant_values.specs.Classes.{is_node_class}
use Rattle.variant_values.specs.Heaps.{Heap, with_field, with_new}
use Rattle.script_meaning.specs.State.{World, Frame, Spot, Stop, Failed, ◌>>=◌, heap_of, with_heap}
use Rattle.script_meaning.specs.Projects.{Project, Field, Starts, Never, WithNew, WhenReady, Argument, Function, Initialisers, Calls, Ending, made_at, owner}
use Rattle.script_meaning.specs.Types.{plain_default, default_of}
use Rattle.script_meaning.specs.Constants.{Made, and_make}

-- what a new node has
abbrev pub new_part : Bool → Option NodePart
new_part true = Some (record { name = []; parent = None; children = [] })
new_part false = None

abbrev pub init : List ℕ
init = codes "_init"

-- the heap with a new cell, and its value
abbrev pub placed_at : Heap → Cell → Serial → Given
placed_at h c s = if takes h c then Ok (Object s, with_new h c) else Err HeapFull

-- Fields without an initialiser get their default containers, in order of declaration, where the first of them has the place i.
abbrev pub filled_by : Made Value → Serial → ℕ → (Heap → Made Value) → Made Value
filled_by default s i rest = and_make default (λ v h. rest (with_field h s.0 i v))

abbrev pub filled_at : Starts → ScriptType → Serial → ℕ → (Heap → Made Value) → Heap → Made Value
filled_at Never (of_type.Array of) s i rest h = filled_by (default_of (of_type.Array of) h) s i rest
filled_at Never of_type.Dict s i rest h = filled_by (default_of of_type.Dict h) s i rest
filled_at starts type s i rest h = rest h

abbrev pub filled : List Field → Serial → ℕ → Heap → Made Value
filled [] s i h = Ok (Object s, h)
filled (f ∷ fs) s i h = filled_at f.starts f.type s i (filled fs s (suc i)) h

abbrev pub born : Given → Spot → World → Ending
born (Ok (v, heap)) spot w = Ok (v, with_heap w heap)
born (Err kind) spot w = Err (Failed kind spot w)

abbrev pub is_with_new : Starts → Bool
is_with_new Never = false
is_with_new WithNew = true
is_with_new WhenReady = false

abbrev pub any_start : List Field → Bool
any_start fields = list_any (λ f. is_with_new f.starts) fields

module _ (project : Project) where
  -- for a refusal where no unit is active
  abbrev pub first_line : ClassTag → Spot
  first_line class = record { file = project.file class; line = 1 }

  -- at first a field holds its type's default where that is no container, and else null
  abbrev pub new_object : ClassTag → Cell
  new_object class = ObjectCell (record {
    lineage = project.lineage class;
    fields = map (λ f. plain_default f.type) (project.fields class);
    connections = [];
    node = new_part (list_any is_node_class (project.lineage class));
  })

  -- the object's cell, and then its default containers
  abbrev pub placed : Heap → ClassTag → Given
  placed h class = and_make (placed_at h (new_object class) (next_serial h)) (λ v g. filled (project.fields class) (next_serial h) 0 g)

  -- all initialisers run in one frame, and where there are none there is no frame
  abbrev pub initialised : Bool → Calls → List Frame → Option Spot → ClassTag → Value → World → Ending
  initialised true call frames unit class v w = call frames unit (Initialisers class) v [] w
  initialised false call frames unit class v w = Ok (Null, w)

  -- where there is no `_init`, no argument fits
  abbrev pub begun_by : Option ClassTag → List Argument → Calls → List Frame → Option Spot → Spot → Value → World → Ending
  begun_by (Some class) args call frames unit first v w = call frames unit (Function class init) v args w
  begun_by None [] call frames unit first v w = Ok (Null, w)
  begun_by None (a ∷ rest) call frames unit first v w = Err (Failed BadArgs (made_at unit first) w)

  -- `new`: the cell and its default containers, then the initialisers, then the nearest `_init`. It gives the object, and what
  -- `_init` returned, which the calling frame holds.
  abbrev pub make : Calls → List Frame → Option Spot → ClassTag → List Argument → World → Result (Value × Value × World) Stop
  make call frames unit class args w = do
    new ← born (placed (heap_of frames w) class) (made_at unit (first_line class)) w
    x ← initialised (any_start (project.fields class)) call frames unit class new.0 new.1
    y ← begun_by (owner project class init) args call frames unit (first_line class) new.0 x.1
    Ok (new.0, y.0, y.1)

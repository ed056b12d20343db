-- Worked emissions of signals, in a world whose first object has connections: no call of a script makes them yet.
use Rattle.std.specs.Prelude.{◌≡◌, ℕ, ◌-◌, pos, false, List, [], ◌∷◌, ◌++◌, codes, Some, None, Ok, Err}
use Rattle.folder_meaning.specs.declared.script_type.ScriptType.TheVariants as of_type
use Rattle.variant_values.specs.declared.cells.Cell.TheVariants.{Object as ObjectCell}
use Rattle.variant_values.specs.declared.cells.Connection.{Connection}
use Rattle.variant_values.specs.declared.classes.ClassTag.TheVariants as class_of
use Rattle.variant_values.specs.declared.values.Value.{Value}
use Rattle.variant_values.specs.declared.values.Value.TheVariants.{Object, Signal}
use Rattle.variant_values.specs.Heaps.{objects_in}
use Rattle.script_meaning.specs.State.{Local, World, Failed, Spent, opens}
use Rattle.script_meaning.specs.Projects.{Project, AFunction, ASignal}
use Rattle.script_meaning.specs.Meanings.{Around}
use Rattle.script_meaning.specs.Statements.{Runs, Flowing, Next}
use Rattle.script_meaning.specs.Functions.{script_calls}
use Rattle.script_meaning.specs.Runs.{Ended, Faulted, OutOfSteps, outcome_line}
use Rattle.script_meaning.specs.Tables.{ClassMeans, project_of_rows, bodies_of_rows}
use Rattle.script_rows.specs.Scripts.{at, identifier, own, own_row, path_of, num, txt, name, member, call, does, func, param}

-- signal s(a)
-- signal t(a)
-- func f(a):
--     print("f", a)
-- func g(a):
--     print("g", a)
abbrev pub names : Project
names = project_of_rows (own_row ((codes "s", ASignal) ∷ (codes "t", ASignal) ∷ (codes "f", AFunction own false) ∷ (codes "g", AFunction own false) ∷ []) ∷ [])

abbrev pub prints_both : ℕ → List ℕ → Runs
prints_both line word = does names (at line 2) (call names (at line 2) (name names (at line 2) (codes "print")) (txt names (at line 8) word ∷ name names (at line 13) (codes "a") ∷ []))

abbrev pub code : List ClassMeans
code = record {
  class = own;
  starts = [];
  functions =
      func names own false (identifier (at 3 6) (codes "f")) (param names own (identifier (at 3 8) (codes "a")) None ∷ []) (prints_both 4 (codes "f") ∷ [])
      ∷ func names own false (identifier (at 5 6) (codes "g")) (param names own (identifier (at 5 8) (codes "a")) None ∷ []) (prints_both 6 (codes "g") ∷ [])
      ∷ [];
} ∷ []

-- a signal, a target and its method
abbrev pub connects : List ℕ → ℕ → List ℕ → Connection
connects signal target method = record { signal = signal; target = record { 0 = target }; method = method }

-- an object of the class with the serial 1, and one of the serial 2 that has gone
abbrev pub world : List Connection → World
world connections = record {
  cells = None ∷ Some (ObjectCell (record { lineage = own ∷ class_of.RefCounted ∷ class_of.Object ∷ []; fields = []; connections = connections; node = None })) ∷ None ∷ [];
  queued = [];
  printed = [];
  left = 20;
}

abbrev pub this_object : Value
this_object = Object (record { 0 = 1 })

-- a frame of a function of that object
abbrev pub around : Around
around = record { call = script_calls names (bodies_of_rows code) 8; outer = []; self = this_object; class = own; function = codes "k"; result = of_type.Variant }

-- what a statement writes there, and how it ends
abbrev pub text_of : Flowing → List ℕ
text_of (Ok (Next s)) = s.world.printed ++ outcome_line path_of (Ended (20 - s.world.left) (objects_in s.world.cells))
text_of (Ok flow) = []
text_of (Err (Failed kind spot w)) = w.printed ++ outcome_line path_of (Faulted kind spot (20 - w.left))
text_of (Err (Spent spot w)) = w.printed ++ outcome_line path_of (OutOfSteps spot (20 - w.left))

-- `x.emit(7)` at line 9
abbrev pub emits : List ℕ → Runs
emits x = does names (at 9 2) (call names (at 9 2) (member names (at 9 2) (name names (at 9 2) x) (codes "emit")) (num names (at 9 9) (pos 7) ∷ []))

abbrev pub written : List Local → List ℕ → List Connection → List ℕ
written locals x connections = text_of (emits x around (record { locals = locals; world = world connections }))

pub record SignalRows : Type 0 where
  -- the connected methods are called in order of connection; those of other signals are not, and a target that has gone is skipped
  pub row_order : written [] (codes "s") (connects (codes "s") 1 (codes "g") ∷ connects (codes "t") 1 (codes "f") ∷ connects (codes "s") 2 (codes "f") ∷ connects (codes "s") 1 (codes "f") ∷ []) ≡ codes "g7\nf7\ndone steps 5 left 1\n"
  -- a signal of an object that has gone
  pub row_freed : written (opens (codes "x") of_type.Variant (Signal (record { 0 = 2 }) (codes "s"))) (codes "x") [] ≡ codes "fault FreedAccess res://m.gd:9 steps 1\n"

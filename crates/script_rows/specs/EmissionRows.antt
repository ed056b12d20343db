-- Worked runs of emissions. A connection is made by a statement that stands for the call of `connect`.
use Rattle.std.specs.Prelude.{◌≡◌, ℕ, ◌+◌, pos, false, List, [], ◌∷◌, codes, encode_utf8_all, None, Ok}
use Rattle.folder_meaning.specs.declared.script_type.ScriptType.TheVariants.{Variant}
use Rattle.gd_syntax.specs.declared.fault.Place.{Place}
use Rattle.gd_syntax.specs.declared.tree.expr.Literal.TheVariants as literal
use Rattle.gd_syntax.specs.declared.tree.expr.TreeOp.TheVariants as op
use Rattle.gd_syntax.specs.declared.tree.statement.AssignOp.TheVariants as assign
use Rattle.variant_values.specs.declared.classes.ClassTag.{ClassTag}
use Rattle.variant_values.specs.declared.classes.ClassTag.TheVariants as class_of
use Rattle.variant_values.specs.declared.values.Value.{Value}
use Rattle.variant_values.specs.declared.values.Value.TheVariants.{Object}
use Rattle.variant_values.specs.Links.{connected}
use Rattle.script_meaning.specs.State.{World, heap_of, with_heap, ◌>>=◌}
use Rattle.script_meaning.specs.Projects.{Project, Meant, AFunction, ASignal, AClass, Never}
use Rattle.script_meaning.specs.Meanings.{Means}
use Rattle.script_meaning.specs.Statements.{Runs, Next, begun, settled}
use Rattle.script_meaning.specs.Functions.{FunctionMeans}
use Rattle.script_meaning.specs.Tables.{ClassRow, ClassMeans, project_of_rows}
use Rattle.script_rows.specs.Scripts.{at, identifier, lit, num, txt, name, this, member, call, binary, assigns, does, param, func, own, own_row, class_at, writes}

-- the world with one connection more, the last of the object
abbrev pub connected_world : Value → List ℕ → Value → List ℕ → World → World
connected_world (Object from) signal (Object to) method w = with_heap w (connected (heap_of [] w) from.0 (record { signal = encode_utf8_all signal; target = to; method = encode_utf8_all method }))
connected_world of signal target method w = w

-- a signal of `self` is connected to a method of an object
abbrev pub connects : Project → Place → List ℕ → Means → List ℕ → Runs
connects P place signal to method a s = begun P a place.line s λ h m. do
  x ← to.value h m
  Ok (Next (settled a.outer a s.locals (connected_world a.self signal x.0 method x.1.world)))

abbrev pub emits : Project → Place → List Means → Runs
emits P place args = does P place (call P place (member P place (name P place (codes "s")) (codes "emit")) args)

abbrev pub prints : Project → Place → List Means → Runs
prints P place args = does P place (call P place (name P place (codes "print")) args)

abbrev pub of_own : List ℕ → List ℕ × Meant
of_own f = (f, AFunction own false)

-- signal s
-- func a():
--     print("a")
--     s.connect(b)
-- func b():
--     print("b")
-- func _init():
--     s.connect(a)
--     s.emit()
abbrev pub names_snapshot : Project
names_snapshot = project_of_rows (own_row ((codes "s", ASignal) ∷ of_own (codes "a") ∷ of_own (codes "b") ∷ of_own (codes "_init") ∷ []) ∷ [])

abbrev pub code_snapshot : Project → List ClassMeans
code_snapshot P =
    record {
      class = own;
      starts = [];
      functions =
          func P own false (identifier (at 2 6) (codes "a")) [] (prints P (at 3 2) (txt P (at 3 8) (codes "a") ∷ []) ∷ connects P (at 4 2) (codes "s") (this P (at 4 2)) (codes "b") ∷ [])
          ∷ func P own false (identifier (at 5 6) (codes "b")) [] (prints P (at 6 2) (txt P (at 6 8) (codes "b") ∷ []) ∷ [])
          ∷ func P own false (identifier (at 7 6) (codes "_init")) [] (connects P (at 8 2) (codes "s") (this P (at 8 2)) (codes "a") ∷ emits P (at 9 2) [] ∷ [])
          ∷ [];
    }
    ∷ []

-- signal s
-- class L:
--     func f(n):
--         print("f", n)
-- var l
-- func a(n):
--     print("a", n)
--     l = null
-- func b(n):
--     print("b", n)
-- func _init():
--     l = L.new()
--     s.connect(a)
--     s.connect(l.f)
--     s.connect(b)
--     s.emit(7)
abbrev pub listener : ClassTag
listener = class_at 0 1

abbrev pub listener_row : ClassRow
listener_row = record { class = listener; file = 0; text = codes "L"; above = class_of.RefCounted ∷ class_of.Object ∷ []; enclosing = own ∷ []; fields = []; members = (codes "f", AFunction listener false) ∷ [] }

abbrev pub names_gone : Project
names_gone = project_of_rows (
    record (own_row ((codes "s", ASignal) ∷ (codes "L", AClass listener) ∷ of_own (codes "a") ∷ of_own (codes "b") ∷ of_own (codes "_init") ∷ [])) {
      fields = record { name = codes "l"; class = own; line = 5; type = Variant; starts = Never } ∷ [];
    }
    ∷ listener_row
    ∷ []
    )

-- a function of one parameter that prints its name and what it is given, from this line on
abbrev pub says : Project → ClassTag → ℕ → List ℕ → List Runs → List ℕ × FunctionMeans
says P class line f more = func P class false (identifier (at line 6) f) (param P class (identifier (at line 8) (codes "n")) None ∷ [])
    (prints P (at (line + 1) 2) (txt P (at (line + 1) 8) f ∷ name P (at (line + 1) 13) (codes "n") ∷ []) ∷ more)

abbrev pub code_gone : Project → List ClassMeans
code_gone P =
    record {
      class = own;
      starts = [];
      functions =
          says P own 6 (codes "a") (assigns P (at 8 2) (name P (at 8 2) (codes "l")) assign.Set (lit P (at 8 6) literal.Null) ∷ [])
          ∷ says P own 9 (codes "b") []
          ∷ func P own false (identifier (at 11 6) (codes "_init")) []
          (assigns P (at 12 2) (name P (at 12 2) (codes "l")) assign.Set (call P (at 12 6) (member P (at 12 6) (name P (at 12 6) (codes "L")) (codes "new")) [])
          ∷ connects P (at 13 2) (codes "s") (this P (at 13 2)) (codes "a")
          ∷ connects P (at 14 2) (codes "s") (name P (at 14 12) (codes "l")) (codes "f")
          ∷ connects P (at 15 2) (codes "s") (this P (at 15 2)) (codes "b")
          ∷ emits P (at 16 2) (num P (at 16 9) (pos 7) ∷ [])
          ∷ [])
          ∷ [];
    }
    ∷ record { class = listener; starts = []; functions = says P listener 3 (codes "f") [] ∷ [] }
    ∷ []

-- The same without `l = null`: the listener lives at its turn.
abbrev pub code_lives : Project → List ClassMeans
code_lives P =
    record {
      class = own;
      starts = [];
      functions =
          says P own 6 (codes "a") []
          ∷ says P own 9 (codes "b") []
          ∷ func P own false (identifier (at 11 6) (codes "_init")) []
          (assigns P (at 12 2) (name P (at 12 2) (codes "l")) assign.Set (call P (at 12 6) (member P (at 12 6) (name P (at 12 6) (codes "L")) (codes "new")) [])
          ∷ connects P (at 13 2) (codes "s") (this P (at 13 2)) (codes "a")
          ∷ connects P (at 14 2) (codes "s") (name P (at 14 12) (codes "l")) (codes "f")
          ∷ connects P (at 15 2) (codes "s") (this P (at 15 2)) (codes "b")
          ∷ emits P (at 16 2) (num P (at 16 9) (pos 7) ∷ [])
          ∷ [])
          ∷ [];
    }
    ∷ record { class = listener; starts = []; functions = says P listener 3 (codes "f") [] ∷ [] }
    ∷ []

-- signal s
-- func a(n):
--     print("a", n)
--     1 / 0
-- func _init():
--     s.connect(a)
--     s.emit(7)
--     print("after")
abbrev pub names_fault : Project
names_fault = project_of_rows (own_row ((codes "s", ASignal) ∷ of_own (codes "a") ∷ of_own (codes "_init") ∷ []) ∷ [])

abbrev pub code_fault : Project → List ClassMeans
code_fault P =
    record {
      class = own;
      starts = [];
      functions =
          says P own 2 (codes "a") (does P (at 4 2) (binary P (at 4 2) op.Div (num P (at 4 2) (pos 1)) (num P (at 4 6) (pos 0))) ∷ [])
          ∷ func P own false (identifier (at 5 6) (codes "_init")) []
          (connects P (at 6 2) (codes "s") (this P (at 6 2)) (codes "a") ∷ emits P (at 7 2) (num P (at 7 9) (pos 7) ∷ []) ∷ prints P (at 8 2) (txt P (at 8 8) (codes "after") ∷ []) ∷ [])
          ∷ [];
    }
    ∷ []

-- the same with `s.emit()`
abbrev pub code_refused : Project → List ClassMeans
code_refused P =
    record {
      class = own;
      starts = [];
      functions =
          says P own 2 (codes "a") []
          ∷ func P own false (identifier (at 5 6) (codes "_init")) []
          (connects P (at 6 2) (codes "s") (this P (at 6 2)) (codes "a") ∷ emits P (at 7 2) [] ∷ [])
          ∷ [];
    }
    ∷ []

pub record EmissionRows : Type 0 where
  -- what is connected meanwhile is not called: 1 + 1 + 1 + (1 + 1 + 1)
  pub row_snapshot : writes names_snapshot code_snapshot 100 ≡ codes "a\ndone steps 6 left 0\n"
  -- a target that went before its turn is skipped: 1 + 1 + 3 + 1 + (1 + 1 + 1) + (1 + 1)
  pub row_gone : writes names_gone code_gone 100 ≡ codes "a7\nb7\ndone steps 11 left 0\n"
  -- in order of connection, with the arguments: 1 + 1 + 3 + 1 + 2 + 2 + 2
  pub row_lives : writes names_gone code_lives 100 ≡ codes "a7\nf7\nb7\ndone steps 12 left 0\n"
  -- a fault of a called method is its own: 1 + 1 + 1 + (1 + 1 + 1)
  pub row_fault : writes names_fault code_fault 100 ≡ codes "a7\nfault DivisionByZero res://m.gd:4 steps 6\n"
  -- a refusal has the line of the emission: 1 + 1 + 1
  pub row_refused : writes names_fault code_refused 100 ≡ codes "fault BadArgs res://m.gd:7 steps 3\n"

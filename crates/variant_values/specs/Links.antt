-- The connections of objects.
use Rattle.std.specs.Prelude.{ℕ, Bool, not, cond, nat_eq, ◌&&◌, List, [], ◌∷◌, ◌++◌, length, filter, Option, Some, None}
use Rattle.std.specs.List.{sum_by}
use Rattle.variant_values.specs.declared.values.Serial.{Serial}
use Rattle.variant_values.specs.declared.cells.Connection.{Connection}
use Rattle.variant_values.specs.declared.cells.Cell.{Cell}
use Rattle.variant_values.specs.declared.cells.Cell.TheVariants.{Array as ArrayCell, Dict as DictCell, Object as ObjectCell}
use Rattle.variant_values.specs.Heaps.{Heap, cell_at, with_cell}
use Rattle.variant_values.specs.Operators.{same_text}

abbrev pub connections_of : Option Cell → List Connection
connections_of None = []
connections_of (Some (ArrayCell vs of)) = []
connections_of (Some (DictCell es)) = []
connections_of (Some (ObjectCell o)) = o.connections

-- the cell with other connections, where it is an object
abbrev pub connections_put : List Connection → Option Cell → Option Cell
connections_put cs None = None
connections_put cs (Some (ArrayCell vs of)) = Some (ArrayCell vs of)
connections_put cs (Some (DictCell es)) = Some (DictCell es)
connections_put cs (Some (ObjectCell o)) = Some (ObjectCell (record o { connections = cs }))

-- how many connections stand in all cells
abbrev pub connections_in : List (Option Cell) → ℕ
connections_in cells = sum_by (λ s. length (connections_of s)) cells

-- whether a connection is that of the signal to the method of the object
abbrev pub is_connection : List ℕ → Serial → List ℕ → Connection → Bool
is_connection signal to method c = same_text c.signal signal && (nat_eq c.target.0 to.0 && same_text c.method method)

-- the heap with a connection more, the object's last
abbrev pub connected : Heap → ℕ → Connection → Heap
connected h from c = with_cell h from (connections_put (connections_of (cell_at h.cells from) ++ c ∷ []) (cell_at h.cells from))

-- the heap without a connection
abbrev pub disconnected : Heap → ℕ → List ℕ → Serial → List ℕ → Heap
disconnected h from signal to method = with_cell h from (connections_put (filter (λ c. not (is_connection signal to method c)) (connections_of (cell_at h.cells from))) (cell_at h.cells from))

-- the targets of a signal and their methods, in order
abbrev pub targets_of : List ℕ → List Connection → List (Serial × List ℕ)
targets_of signal [] = []
targets_of signal (c ∷ cs) = cond (same_text c.signal signal) ((c.target, c.method) ∷ targets_of signal cs) (targets_of signal cs)

-- how many of the connections are that of the signal to the method of the object
abbrev pub times_linked : List ℕ → Serial → List ℕ → List Connection → ℕ
times_linked signal to method cs = sum_by (λ c. cond (is_connection signal to method c) 1 0) cs

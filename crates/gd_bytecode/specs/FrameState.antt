-- A frame while code runs in it: its registers and the lists beside them.
use Rattle.std.specs.Prelude.{ℕ, ◌-◌, Bool, true, false, nat_lt, List, [], ◌∷◌, ◌++◌, take, drop, length, slice_get, slice_set, unwrap_or, Option, Result, Ok}
use Rattle.std.specs.List.{flat_map}
use Rattle.gd_bytecode.specs.declared.file_code.Code.{Code}
use Rattle.gd_bytecode.specs.declared.instructions.Args.{Args}
use Rattle.gd_bytecode.specs.declared.instructions.Reg.{Reg}
use Rattle.script_meaning.specs.State.{World, Frame, Spot, Stop, ◌>>=◌, sweep, cells_held, joined}
use Rattle.script_meaning.specs.Projects.{Project, Calls}
use Rattle.script_meaning.specs.Meanings.{Site, Moment, At-site, Callee}
use Rattle.variant_values.specs.declared.classes.ClassTag.{ClassTag}
use Rattle.variant_values.specs.declared.values.Value.{Value}
use Rattle.variant_values.specs.declared.values.Value.TheVariants.{Null}

-- A frame while its code runs: its registers, of which the first so many are open; the values that it holds beside these; the
-- parts of literals, and what was found to be called; the parts under a match, the innermost last, and what was bound.
pub record Running : Type 0 where
  pub registers : List Value
  pub opened : ℕ
  pub held : List Value
  pub parts : List Value
  pub callees : List Callee
  pub matched : List Value
  pub bound : List Value
  pub world : World

-- What does not change meanwhile: what calls mean, the frames below, the class in whose code it is, the code of the file, and
-- what is known of the classes of the project.
pub record Setting : Type 0 where
  pub call : Calls
  pub outer : List Frame
  pub class : ClassTag
  pub code : Code
  pub project : Project

-- ---- registers

-- a register behind the last has null
abbrev pub register_at : List Value → ℕ → Value
register_at registers r = unwrap_or (slice_get registers r) Null

abbrev pub read : Running → Reg → Value
read s r = register_at s.registers r.0

-- register 0
abbrev pub self_of : Running → Value
self_of s = register_at s.registers 0

abbrev pub values_in : Running → Args → List Value
values_in s args = take args.count (drop args.first.0 s.registers)

-- ---- the frame as calls and operations see it

-- what the first so many registers hold
abbrev pub placed_in_first : ℕ → List Value → List Value
placed_in_first count registers = flat_map cells_held (take count registers)

abbrev pub spot_at : Setting → ℕ → Spot
spot_at a line = record { file = a.code.file; line = line }

abbrev pub site_at : Setting → ℕ → Running → Site
site_at a line s = record { call = a.call; outer = a.outer; self = self_of s; class = a.class; placed = placed_in_first s.opened s.registers; spot = spot_at a line }

abbrev pub moment_of : Running → Moment
moment_of s = record { held = s.held; world = s.world }

-- ---- what an instruction leaves

-- how many instructions are passed, and the frame then
abbrev pub Effect : Type 0
Effect = Result (ℕ × Running) Stop

-- the next instruction follows
abbrev pub goes_on : Running → Effect
goes_on s = Ok (0, s)

-- a value goes into a register, and those behind it go
abbrev pub put : Reg → Value × Moment → Running → Running
put to x s = record s { registers = take to.0 s.registers ++ x.0 ∷ []; held = x.1.held; world = x.1.world }

-- what an expression gives goes into a register
abbrev pub valued : Reg → At-site Value → Setting → ℕ → Running → Effect
valued to value a line s = do
  x ← value (site_at a line s) (moment_of s)
  goes_on (put to x s)

-- a change of the heap
abbrev pub changing : (Site → Moment → Result World Stop) → Setting → ℕ → Running → Effect
changing change a line s = do
  w ← change (site_at a line s) (moment_of s)
  goes_on (record s { world = w })

-- nothing is under a match
abbrev pub unmatched : Running → Running
unmatched s = record s { matched = []; bound = [] }

-- a call drops what is under a match
abbrev pub called_into : Reg → At-site Value → Setting → ℕ → Running → Effect
called_into to value a line s = valued to value a line (unmatched s)

-- the value of an open register is held too, and that of another is held anyway
abbrev pub kept_by : Bool → Value → Running → Running
kept_by true v s = record s { held = joined v s.held }
kept_by false v s = s

abbrev pub kept : Reg → Running → Running
kept r s = kept_by (nat_lt r.0 s.opened) (read s r) s

-- an open register gets another value, and one that is not open is put
abbrev pub stored_by : Bool → Reg → Value → Running → Running
stored_by true local v s = record s { registers = slice_set s.registers local.0 v }
stored_by false local v s = put local (v, record { held = joined v s.held; world = s.world }) s

abbrev pub stored : Reg → Value → Running → Running
stored local v s = stored_by (nat_lt local.0 s.opened) local v s

-- ---- the end of a unit

-- the frame with these registers open, which holds nothing else
abbrev pub frame_with_open : List Value → Frame
frame_with_open registers = record { self = register_at registers 0; holds = flat_map cells_held registers ++ [] }

-- These registers are open then, the frame holds nothing else, the lists are empty, and the heap is swept.
abbrev pub settled : Setting → List Value → World → Running
settled a registers w = record {
  registers = registers;
  opened = length registers;
  held = [];
  parts = [];
  callees = [];
  matched = [];
  bound = [];
  world = sweep (a.outer ++ frame_with_open registers ∷ []) w;
}

-- ---- the lists beside the registers

abbrev pub last_of : {A : Type 0} → List A → Option A
last_of xs = slice_get xs (length xs - 1)

abbrev pub without_last : {A : Type 0} → List A → List A
without_last xs = take (length xs - 1) xs

abbrev pub last_so_many : ℕ → List Value → List Value
last_so_many count xs = drop (length xs - count) xs

abbrev pub without_so_many : ℕ → List Value → List Value
without_so_many count xs = take (length xs - count) xs

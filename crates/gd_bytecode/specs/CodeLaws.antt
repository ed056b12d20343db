-- Laws of code.
use Rattle.std.specs.Prelude.{◌≡◌, ℕ, ◌<◌, ◌≤◌, max, ◌⊎◌, true, List, [], take, drop, slice_get, Option, Some, Result, Ok, Err}
use Rattle.variant_values.specs.declared.values.Value.{Value}
use Rattle.script_meaning.specs.State.{World, Frame, Spot, Stop}
use Rattle.script_meaning.specs.Projects.{Project, Routine, Argument, Calls}
use Rattle.gd_bytecode.specs.declared.file_code.Code.{Code}
use Rattle.gd_bytecode.specs.declared.file_code.FunctionCode.{FunctionCode}
use Rattle.gd_bytecode.specs.declared.instructions.Op.{Op}
use Rattle.gd_bytecode.specs.Checks.{is_well, register_limit}
use Rattle.gd_bytecode.specs.FrameState.{Running, Setting, Effect}
use Rattle.gd_bytecode.specs.Effects.{effect}
use Rattle.gd_bytecode.specs.CodeRuns.{CodeBodies, back, runs_from, code_calls}

-- a fact of what there is where nothing stopped
abbrev pub Each : {A : Type 0} → (A → Type 0) → Result A Stop → Type 0
Each P (Ok x) = P x
Each P (Err stop) = Unit {0}

-- no call gives steps back
pub record IsFrugal (call : Calls) : Type 0 where
  pub spends : (frames : List Frame) (unit : Option Spot) (r : Routine) (self : Value) (args : List Argument) (w : World) → Each (λ x. x.1.left ≤ w.left) (call frames unit r self args w)

-- With more goings back than steps are left, their number changes nothing.
abbrev pub EnoughGoings : Type 0
EnoughGoings = (a : Setting) → IsFrugal a.call → (ops : List Op) (more fewer place : ℕ) (s : Running) → s.world.left < more → s.world.left < fewer → back a ops more place s ≡ back a ops fewer place s

-- A call by code gives no steps back, however many frames may be active.
abbrev pub CallsAreFrugal : Type 0
CallsAreFrugal = (project : Project) (bodies : CodeBodies) (frames : ℕ) → IsFrugal (code_calls project bodies frames)

-- In checked code all that an instruction names is in range, so each register is below the number of its function.
abbrev pub EachIsWell : Code → Type 0
EachIsWell code = (i at : ℕ) (f : FunctionCode) (op : Op) → slice_get code.functions i ≡ Some f → slice_get f.ops at ≡ Some op → is_well code f at op.instr ≡ true

-- ---- registers that code does not name

-- A frame has register 0, where `self` stands, and no other that its function's number does not reach.
abbrev pub frame_size : FunctionCode → ℕ
frame_size f = max 1 (register_limit f)

-- Two frames that differ in registers from `n` on alone, which are not open.
pub record AreAlike (n : ℕ) (s t : Running) : Type 0 where
  pub below : take n s.registers ≡ take n t.registers
  pub rest : t ≡ record s { registers = t.registers }
  pub reach : s.opened ≤ n

-- the same fault, or as many instructions passed and frames that are alike again
abbrev pub AlikeAfter : ℕ → Effect → Effect → Type 0
AlikeAfter n (Ok x) e = (t : Running) × (e ≡ Ok (x.0, t)) × AreAlike n x.1 t
AlikeAfter n (Err stop) e = e ≡ Err stop

-- Whatever stands in other registers, an instruction of checked code does the same,
abbrev pub InstructionsReadNoOther : Code → Type 0
InstructionsReadNoOther code = (i at line : ℕ) (f : FunctionCode) (op : Op) (a : Setting) (s t : Running) → slice_get code.functions i ≡ Some f → slice_get f.ops at ≡ Some op → AreAlike (frame_size f) s t →
    AlikeAfter (frame_size f) (effect a line op.instr s) (effect a line op.instr t)

-- and so does a run of its functions, from any instruction: the same ending, with the same value and world.
abbrev pub RunsReadNoOther : Code → Type 0
RunsReadNoOther code = (i place : ℕ) (f : FunctionCode) (a : Setting) (s t : Running) → slice_get code.functions i ≡ Some f → AreAlike (frame_size f) s t → runs_from a f.ops place s ≡ runs_from a f.ops place t

-- what stands from the number on is what stood there, or is gone
abbrev pub Stays : ℕ → List Value → List Value → Type 0
Stays n before after = (drop n after ≡ before) ⊎ (drop n after ≡ [])

-- An instruction leaves nothing in other registers, and opens none of them.
abbrev pub LeavesNoOther : Code → Type 0
LeavesNoOther code = (i at line : ℕ) (f : FunctionCode) (op : Op) (a : Setting) (s : Running) → slice_get code.functions i ≡ Some f → slice_get f.ops at ≡ Some op → s.opened ≤ frame_size f →
    Each (λ x. Stays (frame_size f) (drop (frame_size f) s.registers) x.1.registers × (x.1.opened ≤ frame_size f)) (effect a line op.instr s)

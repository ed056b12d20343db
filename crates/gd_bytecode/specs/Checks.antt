-- Which instructions are bad: those that name a register, a constant, a name, a function, a row or a jump out of range.
use Rattle.std.specs.Prelude.{◌≡◌, ℕ, ◌+◌, ◌-◌, min, Bool, true, false, not, ◌&&◌, nat_lt, nat_le, List, [], ◌∷◌, length, slice_get, Option, Some, None, Result, Ok, Err}
use Rattle.std.specs.List.{flat_map, list_all, position_from}
use Rattle.gd_bytecode.specs.declared.file_code.Code.{Code}
use Rattle.gd_bytecode.specs.declared.file_code.FunctionCode.{FunctionCode}
use Rattle.gd_bytecode.specs.declared.forms.Form.{Form}
use Rattle.gd_bytecode.specs.declared.forms.Jump.{Jump}
use Rattle.gd_bytecode.specs.declared.forms.Jump.TheVariants.{Skip, Back}
use Rattle.gd_bytecode.specs.declared.instructions.Instr.{Instr}
use Rattle.gd_bytecode.specs.declared.instructions.Op.{Op}
use Rattle.gd_bytecode.specs.declared.verifier.BadCode.{BadCode}
use Rattle.gd_bytecode.specs.Forms.{form_of, registers_in}

-- the registers of a frame are those below its function's number, and never more than 250
abbrev pub register_limit : FunctionCode → ℕ
register_limit f = min f.registers 250

abbrev pub is_below : ℕ → ℕ → Bool
is_below limit register = nat_lt register limit

-- a number of a list of that length, where there is one
abbrev pub is_in : ℕ → Option ℕ → Bool
is_in len None = true
is_in len (Some number) = nat_lt number len

abbrev pub takes_step : Option Op → Bool
takes_step None = false
takes_step (Some op) = (form_of op.instr).takes_step

abbrev pub step_at : List Op → ℕ → Bool
step_at ops at = takes_step (slice_get ops at)

-- A jump forward leads to an instruction of the function, and a jump back to one that takes a step.
abbrev pub jumps_well : List Op → ℕ → Option Jump → Bool
jumps_well ops at None = true
jumps_well ops at (Some (Skip skip)) = nat_lt (at + 1 + skip) (length ops)
jumps_well ops at (Some (Back back)) = nat_le back at && step_at ops (at - back)

-- all that the instruction at a place of a function names is in range
abbrev pub is_well_formed : Code → FunctionCode → ℕ → Form → Bool
is_well_formed code f at form = list_all (is_below (register_limit f)) (registers_in form.registers) && is_in (length code.constants) form.constant && is_in (length code.names) form.name && is_in (length code.names) form.item && is_in (length code.known_functions) form.function
    && is_in (length code.globals) form.row && jumps_well f.ops at form.jump

abbrev pub is_well : Code → FunctionCode → ℕ → Instr → Bool
is_well code f at instr = is_well_formed code f at (form_of instr)

-- of each instruction of a function, from the place `at` on, whether it is bad
abbrev pub judged : Code → FunctionCode → ℕ → List Op → List Bool
judged code f at [] = []
judged code f at (op ∷ ops) = not (is_well code f at op.instr) ∷ judged code f (at + 1) ops

-- of each instruction of all functions
abbrev pub judged_all : Code → List FunctionCode → List Bool
judged_all code fs = flat_map (λ f. judged code f 0 f.ops) fs

abbrev pub is_truth : Bool → Bool
is_truth b = b

-- the place of the first bad instruction over all functions
abbrev pub first_bad : Code → Option ℕ
first_bad code = position_from is_truth 0 (judged_all code code.functions)

-- Code without a bad instruction is checked, and other code comes back as it was, with the place of its first one.
abbrev pub HasVerified : Code → Result Code BadCode → Type 0
HasVerified code (Ok checked) = (checked ≡ code) × (first_bad code ≡ None)
HasVerified code (Err bad) = (bad.code ≡ code) × (first_bad code ≡ Some bad.place)

-- What a program holds.
use Rattle.std.specs.Prelude.{ℕ, List}
use Rattle.gd_syntax.specs.FirstTree.{Script}
use Rattle.gd_syntax.specs.FirstScript.{script_of}
use Rattle.gd_machine.specs.declared.machine.Program.{Program}
use Rattle.gd_machine.specs.declared.machine.Machine.{Machine}

abbrev pub path_in : Program → List ℕ
path_in program = program.path

abbrev pub script_in : Program → Script
script_in program = script_of program.script

abbrev pub program_in : Machine → Program
program_in machine = machine.program

abbrev pub steps_in : Machine → ℕ
steps_in machine = machine.steps

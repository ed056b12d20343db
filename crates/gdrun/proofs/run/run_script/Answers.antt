use Rattle.std.proofs.Common.{IsTrue, rules, ◌≡◌, ◌∙◌, ap}
use Rattle.std.proofs.lemmas.Result.{err_from_is_err_and}
use Rattle.host_io.proofs.Pieces.{first_nothing, first_more, failed_more}
use Rattle.gd_syntax.specs.FirstScript.{script_of}
use Rattle.gd_machine.specs.Ending.{is_told}
use Rattle.gd_machine.specs.Program.{path_in, script_in, program_in}
use Rattle.gdrun.proofs.Endings.{finished}
use Rattle.gdrun.proofs.run.run_script.Goals as goal

pub returns-in_err-machine : goal.returns-in_err-machine
returns-in_err-machine g c =
    let failed = err_from_is_err_and c.from_residual.result c.from_residual.ensures.1 in
    rw (failed.1, failed.2) (first_nothing _ _)

pub returns-in_default : goal.returns-in_default
returns-in_default g c =
    let told : IsTrue (is_told c.run.result) = search rules in
    let path : path_in (program_in c.in_ok-machine.machine) ≡ c.args.path = ap path_in c.in_ok-machine.ensures.program ∙ c.first.ensures.path in
    let script : script_in (program_in c.in_ok-machine.machine) ≡ script_of c.args.script = ap script_in c.in_ok-machine.ensures.program ∙ c.first.ensures.script in
    let ran = rw (path, script, c.in_ok-machine.ensures.steps) at c.run.ensures in
    finished c.args.path c.args.steps (script_of c.args.script) _ _ _ c.run.result c.finish_run.result told ran c.finish_run.ensures

use Rattle.std.proofs.Common.{rules}
use Rattle.std.proofs.lemmas.Result.{err_from_is_err_and}
use Rattle.gdrun.specs.Words.{texts_of}
use Rattle.gdrun.proofs.Whole.{of_script_run, usage_run, some_run}
use Rattle.gdrun.proofs.top.perform.Goals as goal

pub returns-in_err-read_command-clause-run : goal.returns-in_err-read_command-clause-run
returns-in_err-read_command-clause-run g c =
    let failed = err_from_is_err_and c.from_residual.result c.from_residual.ensures.1 in
    rw (failed.1, failed.2) (some_run (texts_of c.args.words.now) (g.F.Folder.files c.args.folder.now) (g.F.Folder.calls c.args.folder.now) _ _ _)

pub returns-in-None-clause-run : goal.returns-in-None-clause-run
returns-in-None-clause-run g c = usage_run (texts_of c.args.words.now) _ _ _ _ _ _ _ (search rules) c.finish.ensures

pub returns-in-Some-clause-run : goal.returns-in-Some-clause-run
returns-in-Some-clause-run g c = of_script_run (texts_of c.args.words.now) c.in-Some.command.path c.in-Some.command.steps _ _ _ _ _ _ _ (search rules) c.perform_script.ensures.run

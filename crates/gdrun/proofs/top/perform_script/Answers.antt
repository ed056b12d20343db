use Rattle.std.proofs.Common.{◌≡◌, Err, refl, ap, ◌∙◌}
use Rattle.project_run.specs.declared.image.ScriptImageError.TheVariants.{FolderLimit}
use Rattle.folder_meaning.specs.Reading.{folder_limit}
use Rattle.project_run.specs.Found.{read}
use Rattle.gdrun.proofs.Texts.{some_script_run}
use Rattle.gdrun.proofs.top.perform_script.Goals as goal

pub returns-in-Err-FolderLimit-clause-run : goal.returns-in-Err-FolderLimit-clause-run
returns-in-Err-FolderLimit-clause-run g c =
    let is : c.read_script_image.result ≡ Err FolderLimit = c.in-Err-FolderLimit.is ∙ ap Err c.in-Err-FolderLimit.field-0-is in
    record {
      found = read folder_limit;
      finds = rw (is, c.as_str.ensures) at c.read_script_image.ensures.found;
      counted = λ memory. tt;
      outcome = _;
      means = refl;
      wrote = c.finish-in-Err-FolderLimit.ensures;
    }

pub returns-clause-run : goal.returns-clause-run
returns-clause-run g c = some_script_run c.args.command.path c.args.command.steps (g.F.Folder.files c.args.folder.now) (g.F.Folder.calls c.args.folder.now) _ _ _

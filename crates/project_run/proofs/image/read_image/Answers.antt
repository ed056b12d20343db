use Rattle.std.proofs.Common.{ap, ◌∙◌, refl, length, arith}
use Rattle.std.proofs.lemmas.Result.{err_from_is_err_and}
use Rattle.std.specs.declared.option.Option.TheVariants.{None}
use Rattle.host_io.specs.Folder.{texts}
use Rattle.project_run.proofs.Whole.{from_reads, made_reads, list_decides, list_made, passes, one_call, only_call}
use Rattle.project_run.proofs.image.read_image.Goals as goal

pub returns-in_err-paths-clause-reading : goal.returns-in_err-paths-clause-reading
returns-in_err-paths-clause-reading g c =
    let p = err_from_is_err_and c.from_residual.result c.from_residual.ensures.1 in
    rw (p.1, p.2) (list_decides _ _ c.in_err-paths.field-0.0 c.in_err-paths.ensures.told c.in_err-paths.ensures.numbered)

pub returns-in_err-paths-clause-made : goal.returns-in_err-paths-clause-made
returns-in_err-paths-clause-made g c =
    let p = err_from_is_err_and c.from_residual.result c.from_residual.ensures.1 in
    rw (p.1, p.2) (list_made None _ _ _ c.in_err-paths.field-0.0 c.in_err-paths.ensures.told c.in_err-paths.ensures.numbered c.in_err-paths.ensures.number)

pub returns-in_err-paths-clause-calls : goal.returns-in_err-paths-clause-calls
returns-in_err-paths-clause-calls g c = only_call _ _ c.in_err-paths.ensures.number

pub returns-clause-reading : goal.returns-clause-reading
returns-clause-reading g c =
    let same_paths = ap texts c.deref.ensures.value in
    from_reads _ _ (texts c.deref.result.now) _ _ (λ files same. same_paths ∙ c.in_ok-paths.ensures.told files same) (omega (arith, ap length same_paths, c.in_ok-paths.ensures.listed.few)) (passes _ _ (λ failed. cc) c.in_ok-paths.ensures.numbered)
    (λ files same. rw c.list_paths.ensures.number at (c.read_files.ensures.told files (c.list_paths.ensures.files ∙ same)))

pub returns-clause-made : goal.returns-clause-made
returns-clause-made g c =
    let same_paths = ap texts c.deref.ensures.value in
    made_reads None _ _ (texts c.deref.result.now) _ _ (λ files same. same_paths ∙ c.in_ok-paths.ensures.told files same) (omega (arith, ap length same_paths, c.in_ok-paths.ensures.listed.few)) refl (passes _ _ (λ failed. cc) c.in_ok-paths.ensures.numbered)
    (λ files same. rw c.list_paths.ensures.number at (c.read_files.ensures.told files (c.list_paths.ensures.files ∙ same)))

pub returns-clause-calls : goal.returns-clause-calls
returns-clause-calls g c = one_call _ _ _ c.list_paths.ensures.number c.read_files.ensures.calls

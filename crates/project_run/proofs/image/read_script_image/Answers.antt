use Rattle.std.proofs.Common.{◌≡◌, ap, ◌∙◌, length, arith, true, false, rules, Some}
use Rattle.std.proofs.lemmas.Result.{err_from_is_err_and}
use Rattle.host_io.specs.Folder.{texts}
use Rattle.folder_meaning.specs.Reading.{image_read}
use Rattle.project_run.specs.Found.{has_others}
use Rattle.project_run.proofs.Whole.{find_reads, made_reads, list_finds, list_made, others, others_made, passes, one_call, only_call, script_told, script_made}
use Rattle.project_run.proofs.image.read_script_image.Goals as goal

pub returns-in_err-paths-clause-found : goal.returns-in_err-paths-clause-found
returns-in_err-paths-clause-found g c =
    let p = err_from_is_err_and c.from_residual.result c.from_residual.ensures.1 in
    rw (p.1, p.2) (list_finds (Some c.args.path.now) _ _ c.in_err-paths.field-0.0 c.in_err-paths.ensures.told c.in_err-paths.ensures.numbered)

pub returns-in_err-paths-clause-made : goal.returns-in_err-paths-clause-made
returns-in_err-paths-clause-made g c =
    let p = err_from_is_err_and c.from_residual.result c.from_residual.ensures.1 in
    rw (p.1, p.2) (script_made c.in_err-paths.field-0.0 _ (list_made (Some c.args.path.now) _ _ _ c.in_err-paths.field-0.0 c.in_err-paths.ensures.told c.in_err-paths.ensures.numbered c.in_err-paths.ensures.number))

pub returns-in_err-paths-clause-calls : goal.returns-in_err-paths-clause-calls
returns-in_err-paths-clause-calls g c = only_call _ _ c.in_err-paths.ensures.number

pub returns-then-not-is_alone-clause-found : goal.returns-then-not-is_alone-clause-found
returns-then-not-is_alone-clause-found g c =
    let same_paths = ap texts c.deref.ensures.value in
    let apart : has_others (Some c.args.path.now) (texts c.deref.result.now) ≡ true = search rules in
    others (Some c.args.path.now) _ _ (texts c.deref.result.now) (λ files same. same_paths ∙ c.in_ok-paths.ensures.told files same) (omega (arith, ap length same_paths, c.in_ok-paths.ensures.listed.few)) apart (passes _ _ (λ failed. cc) c.in_ok-paths.ensures.numbered)

pub returns-then-not-is_alone-clause-made : goal.returns-then-not-is_alone-clause-made
returns-then-not-is_alone-clause-made g c =
    let same_paths = ap texts c.deref.ensures.value in
    let apart : has_others (Some c.args.path.now) (texts c.deref.result.now) ≡ true = search rules in
    others_made (Some c.args.path.now) _ _ (texts c.deref.result.now) _ (λ files same. same_paths ∙ c.in_ok-paths.ensures.told files same) (omega (arith, ap length same_paths, c.in_ok-paths.ensures.listed.few)) apart (passes _ _ (λ failed. cc) c.in_ok-paths.ensures.numbered) c.list_paths.ensures.number

pub returns-then-not-is_alone-clause-calls : goal.returns-then-not-is_alone-clause-calls
returns-then-not-is_alone-clause-calls g c = only_call _ _ c.list_paths.ensures.number

pub returns-in_err-read_files-clause-found : goal.returns-in_err-read_files-clause-found
returns-in_err-read_files-clause-found g c =
    let p = err_from_is_err_and c.from_residual-in_err-read_files.result c.from_residual-in_err-read_files.ensures.1 in
    let same_paths = ap texts c.deref-2.ensures.value in
    let alone : has_others (Some c.args.path.now) (texts c.deref-2.result.now) ≡ false = search rules in
    rw (p.1, p.2) (script_told c.in_err-read_files.field-0.0 _ (find_reads (Some c.args.path.now) _ _ (texts c.deref-2.result.now) _ _ (λ files same. same_paths ∙ c.in_ok-paths.ensures.told files same) (omega (arith, ap length same_paths, c.in_ok-paths.ensures.listed.few)) alone (passes _ _ (λ failed. cc) c.in_ok-paths.ensures.numbered)
    (λ files same. rw c.list_paths.ensures.number at (c.in_err-read_files.ensures.told files (c.list_paths.ensures.files ∙ same)))))

pub returns-in_err-read_files-clause-made : goal.returns-in_err-read_files-clause-made
returns-in_err-read_files-clause-made g c =
    let p = err_from_is_err_and c.from_residual-in_err-read_files.result c.from_residual-in_err-read_files.ensures.1 in
    let same_paths = ap texts c.deref-2.ensures.value in
    let alone : has_others (Some c.args.path.now) (texts c.deref-2.result.now) ≡ false = search rules in
    rw (p.1, p.2) (script_made c.in_err-read_files.field-0.0 _ (made_reads (Some c.args.path.now) _ _ (texts c.deref-2.result.now) _ _ (λ files same. same_paths ∙ c.in_ok-paths.ensures.told files same) (omega (arith, ap length same_paths, c.in_ok-paths.ensures.listed.few)) alone (passes _ _ (λ failed. cc) c.in_ok-paths.ensures.numbered)
    (λ files same. rw c.list_paths.ensures.number at (c.in_err-read_files.ensures.told files (c.list_paths.ensures.files ∙ same)))))

pub returns-in_err-read_files-clause-calls : goal.returns-in_err-read_files-clause-calls
returns-in_err-read_files-clause-calls g c = one_call _ _ _ c.list_paths.ensures.number c.in_err-read_files.ensures.calls

pub returns-clause-found : goal.returns-clause-found
returns-clause-found g c =
    let same_paths = ap texts c.deref-2.ensures.value in
    let alone : has_others (Some c.args.path.now) (texts c.deref-2.result.now) ≡ false = search rules in
    find_reads (Some c.args.path.now) _ _ (texts c.deref-2.result.now) _ (Some (image_read _)) (λ files same. same_paths ∙ c.in_ok-paths.ensures.told files same) (omega (arith, ap length same_paths, c.in_ok-paths.ensures.listed.few)) alone (passes _ _ (λ failed. cc) c.in_ok-paths.ensures.numbered)
    (λ files same. rw c.list_paths.ensures.number at (c.in_ok-read_files.ensures.told files (c.list_paths.ensures.files ∙ same)))

pub returns-clause-calls : goal.returns-clause-calls
returns-clause-calls g c = one_call _ _ _ c.list_paths.ensures.number c.in_ok-read_files.ensures.calls

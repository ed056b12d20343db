use Rattle.std.proofs.Common.{◌∙◌, ap, Some, None}
use Rattle.folder_meaning.specs.KnownFiles.{facts_of}
use Rattle.folder_meaning.specs.KnownValue.{KnownValue}
use Rattle.folder_meaning.proofs.Adding.{found}
use Rattle.folder_meaning.proofs.known.Known.facts.Goals as goal

-- src/known.rt:55:5
pub returns-in-Some : goal.returns-in-Some
returns-in-Some c =
    ap Some c.deref.ensures
    ∙ found c.self.inside.files.entries c.args.file (Some c.in-Some.facts.now) c.in-Some.ensures.value
    ∙ ap (λ (v : KnownValue). facts_of v.files c.args.file) c.self.view_is

-- src/known.rt:55:5
pub returns-in-None : goal.returns-in-None
returns-in-None c =
    found c.self.inside.files.entries c.args.file None c.in-None.ensures.value
    ∙ ap (λ (v : KnownValue). facts_of v.files c.args.file) c.self.view_is

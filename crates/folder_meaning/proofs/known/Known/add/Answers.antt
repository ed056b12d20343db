use Rattle.std.proofs.Common.{◌∙◌, ap, nat_eq, ◌++◌, ◌∷◌, []}
use Rattle.indexmap.proofs.CallerLemmas.{insert_entry-new}
use Rattle.folder_meaning.specs.KnownFiles.{files_of}
use Rattle.folder_meaning.specs.KnownValue.{KnownValue}
use Rattle.folder_meaning.proofs.Adding.{not_there, put_last}
use Rattle.folder_meaning.proofs.known.Known.add.Goals as goal

-- src/known.rt:65:5
pub returns-clause-ok : goal.returns-clause-ok
returns-clause-ok c =
    let none = not_there c.self.inside.files.entries c.args.file (rw (ap (λ v. v.files) c.self.view_is) c.requires) in
    ap files_of (c.in_ok-insert.ensures.entries ∙ insert_entry-new nat_eq c.self.inside.files c.args.file c.args.facts none)
    ∙ put_last c.self.inside.files.entries c.args.file c.args.facts
    ∙ ap (λ (v : KnownValue). v.files ++ (c.args.file, c.args.facts.value) ∷ []) c.self.view_is

use Rattle.std.proofs.Common.{rules}
use Rattle.std.specs.Prelude.{codes}
use Rattle.gd_exprs.proofs.Fronts.{fronts_alike}
use Rattle.std.proofs.lemmas.Str.Pattern.{starts_text}
use Rattle.gd_exprs.proofs.reader.is_uid.Goals as goal

pub returns : goal.returns
returns c = fronts_alike _ c.as_str.result.now (codes "uid://") c.args.text.now c.as_str.utf8 (search rules) c.as_str.ensures (starts_text _ (codes "uid://") c.as_str.result.now c.starts_with.ensures.cases)

use Rattle.std.proofs.Common.{◌≡◌, subst, refl}
use Rattle.std.specs.Prelude.{IfOk}
use Rattle.gdrun.specs.Words.{Command}
use Rattle.gdrun.specs.ScriptCommand.{command_view}
use Rattle.gdrun.proofs.WordLists.{few, many}
use Rattle.gdrun.proofs.words.read_command.Goals as goal

pub returns-in_default : goal.returns-in_default
returns-in_default c = few c.args.words.now c.in_default.len_below

pub returns-in-len3-up : goal.returns-in-len3-up
returns-in-len3-up c =
    let same = many c.args.words.now _ c.verb-item.result c.path-item.result c.in-len3-up.len_at_least c.verb-item.is c.path-item.is refl in
    subst (λ (asked : Command). IfOk c.command_of_parts.result (λ command. command_view command ≡ asked)) same (rw (c.as_str.ensures.value, c.as_str-in-len3-up.ensures.value) at c.command_of_parts.ensures)

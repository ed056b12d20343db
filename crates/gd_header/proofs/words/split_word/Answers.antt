use Rattle.std.proofs.Common.{rules, ◌≡◌, true}
use Rattle.std.specs.Str.{chars}
use Rattle.unicode_ident.specs.Ident.{is_xid_continue}
use Rattle.gd_header.proofs.Fronts.{pass_one, all_pass}
use Rattle.gd_header.proofs.words.split_word.Goals as goal

pub loop-c-preserved : goal.loop-c-preserved
loop-c-preserved c =
    let passes : is_xid_continue c.in-Some.c ≡ true = search rules in
    (search rules, pass_one is_xid_continue (chars c.args.text.now) (chars c.loop-c.rest.now) (chars c.in-Some.after.now) c.in-Some.c c.in-Some.ensures.value passes c.loop-c.invariant.1)

pub returns-clause-word : goal.returns-clause-word
returns-clause-word c = all_pass is_xid_continue (chars c.args.text.now) (chars c.loop-c.rest.now) c.in_default.ensures.value c.loop-c.invariant.1

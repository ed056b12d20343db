use Rattle.std.proofs.Common.{◌∙◌, arith}
use Rattle.text_scene.specs.LineParts.{line_of}
use Rattle.text_scene.proofs.LineTurns.{read_turn, no_line}
use Rattle.text_scene.proofs.project.read_lines.Goals as goal

pub loop-rest-preserved : goal.loop-rest-preserved
loop-rest-preserved c =
    let on =
    read_turn c.args.bad c.loop-rest.draft c.add.new.self c.loop-rest.number c.number_behind-number.result c.in_ok-found.found.size c.saturating_sub.result c.is_some.result (line_of c.in_ok-found.found.line)
    c.loop-rest.rest.now c.split_at.result.0.now c.split_at.result.1.now c.in-len1-up.len_at_least c.is_some.ensures c.in_ok-found.ensures.line c.in_ok-found.ensures.size c.in_ok-add.ensures
    c.saturating_sub.ensures c.split_at.ensures.front c.split_at.ensures.back c.number_behind-number.ensures.value in
    (on ∙ c.loop-rest.invariant.0, omega (arith, c.number_behind-number.ensures.bound, c.split_at.ensures.front_len, c.split_at.ensures.back_len, c.loop-rest.invariant.1), omega (arith, c.split_at.ensures.back_len, c.loop-rest.invariant.2))

pub returns : goal.returns
returns c = no_line c.args.bad c.loop-rest.draft c.loop-rest.number c.loop-rest.rest.now (omega arith) ∙ c.loop-rest.invariant.0

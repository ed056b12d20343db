use Rattle.std.proofs.Common.{◌≡◌, ◌≤◌, ◌∙◌, sym, arith, length}
use Rattle.std.proofs.lemmas.Grind.{common_steps}
use Rattle.std.specs.Str.{chars}
use Rattle.gd_syntax.specs.Header.{passed, keyword, unended}
use Rattle.gd_header.proofs.Globals.{turn, at_end}
use Rattle.gd_header.proofs.global.global_name.Goals as goal

pub loop-cursor-preserved : goal.loop-cursor-preserved
loop-cursor-preserved c =
    let some : 1 ≤ length (chars c.loop-cursor.cursor.rest.now) = grind (arith, common_steps) in
    rw (c.skip.ensures.place, c.skip.ensures.rest)
    (sym (turn c.loop-cursor.cursor.place (chars c.loop-cursor.cursor.rest.now) (passed c.in-Passed.n) some (sym c.in-Passed.ensures.value) c.in-Passed.ensures.some) ∙ c.loop-cursor.invariant)

pub returns-in-Keyword : goal.returns-in-Keyword
returns-in-Keyword c =
    let some : 1 ≤ length (chars c.loop-cursor.cursor.rest.now) = grind (arith, common_steps) in
    c.name_behind.ensures ∙ (rw (c.skip-in-Keyword.ensures.place, c.skip-in-Keyword.ensures.rest)
    (sym (turn c.loop-cursor.cursor.place (chars c.loop-cursor.cursor.rest.now) keyword some (sym c.in-Keyword.ensures.value) (omega arith)) ∙ c.loop-cursor.invariant))

pub returns-in-Unended : goal.returns-in-Unended
returns-in-Unended c =
    let some : 1 ≤ length (chars c.loop-cursor.cursor.rest.now) = grind (arith, common_steps) in
    sym (turn c.loop-cursor.cursor.place (chars c.loop-cursor.cursor.rest.now) unended some (sym c.in-Unended.ensures.value) (omega arith)) ∙ c.loop-cursor.invariant

pub returns : goal.returns
returns c =
    let none : length (chars c.loop-cursor.cursor.rest.now) ≡ 0 = grind (arith, common_steps) in
    sym (at_end c.loop-cursor.cursor.place (chars c.loop-cursor.cursor.rest.now) none) ∙ c.loop-cursor.invariant

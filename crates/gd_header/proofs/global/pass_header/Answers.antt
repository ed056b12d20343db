use Rattle.std.proofs.Common.{sym, ◌∙◌}
use Rattle.std.specs.Str.{chars}
use Rattle.gd_header.proofs.Globals.{ends, pass_skipped}
use Rattle.gd_header.proofs.global.pass_header.Goals as goal

pub returns-then-ends_header-clause-rest : goal.returns-then-ends_header-clause-rest
returns-then-ends_header-clause-rest c = (ends _ _ c.loop-c.starts c.loop-c.cursor.place (chars c.loop-c.cursor.rest.now) (sym c.if-ends_header.ensures) c.loop-c.invariant).0

pub returns-then-ends_header-clause-place : goal.returns-then-ends_header-clause-place
returns-then-ends_header-clause-place c = (ends _ _ c.loop-c.starts c.loop-c.cursor.place (chars c.loop-c.cursor.rest.now) (sym c.if-ends_header.ensures) c.loop-c.invariant).1

pub loop-c-preserved : goal.loop-c-preserved
loop-c-preserved c =
    pass_skipped _ _ c.loop-c.starts c.loop-c.cursor.place c.skip.new.self.place (chars c.loop-c.cursor.rest.now) (chars c.in-Some.field-0-1.now) (chars c.skip.new.self.rest.now) c.in-Some.c
    c.in-Some.ensures.value (sym c.ends_header.ensures ∙ c.if-ends_header.false) c.skip.ensures.rest c.skip.ensures.place c.loop-c.invariant

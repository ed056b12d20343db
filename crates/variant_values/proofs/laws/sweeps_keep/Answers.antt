use Rattle.std.proofs.Common.{◌≡◌, true}
use Rattle.variant_values.proofs.Lasting.{held_stays, named_stays, value_lasts}
use Rattle.variant_values.proofs.Once.{goes_least, self_held}
use Rattle.variant_values.proofs.laws.sweeps_keep.Goals as goal

pub returns-clause-held : goal.returns-clause-held
returns-clause-held c = λ h x some. held_stays h.cells h.held x some

pub returns-clause-named : goal.returns-clause-named
returns-clause-named c = λ h x y some stays. named_stays h.cells h.held x y some stays

pub returns-clause-itself : goal.returns-clause-itself
returns-clause-itself c = λ h x some. self_held h.cells h.held x some

pub returns-clause-least : goal.returns-clause-least
returns-clause-least c = λ h set closed. goes_least h.cells h.held (λ x. set x ≡ true) closed

pub returns-clause-known : goal.returns-clause-known
returns-clause-known c = λ h new swept v. value_lasts h new swept v

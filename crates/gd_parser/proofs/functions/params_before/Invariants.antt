use Rattle.gd_syntax.specs.Reading.{Look, Loop, Outcome}
use Rattle.gd_syntax.specs.TokenReading.{mark_at}
use Rattle.gd_syntax.specs.declared.tree.member.Param.{Param}
use Rattle.gd_parser.specs.Parameters.{what}
use Rattle.gd_syntax.specs.MemberGrammar.{params_by, has_value}
use Rattle.std.specs.List.{list_any}
use Rattle.std.proofs.Common.{List, [], length, ◌-◌, ◌<◌, ◌≡◌, ◌≤◌}
use Rattle.gd_parser.proofs.functions.params_before.Given as goal

abbrev pub invariant-params : goal.invariant-params
invariant-params l = record { reads : (o : Outcome (List Param)) → Loop (λ sofar. Look (mark_at l.tokens) (params_by l.tokens (what l.tokens l.owner) sofar)) l.all l.at o → Loop (λ sofar. Look (mark_at l.tokens) (params_by l.tokens (what l.tokens l.owner) sofar)) [] l.start o; is_due : l.is_due ≡ list_any (λ p. has_value p.declared) l.all; after : l.start ≤ l.at; within : l.at < length l.tokens }

abbrev pub decreases-params : goal.decreases-params
decreases-params l = length l.tokens - l.at

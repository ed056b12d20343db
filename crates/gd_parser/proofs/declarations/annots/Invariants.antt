use Rattle.gd_syntax.specs.Reading.{Look, Loop, Outcome}
use Rattle.gd_syntax.specs.TokenReading.{mark_at}
use Rattle.gd_syntax.specs.declared.tree.member.Annotation.{Annotation}
use Rattle.gd_syntax.specs.DeclarationGrammar.{annots_by}
use Rattle.gd_parser.specs.Annotations.{may}
use Rattle.std.proofs.Common.{List, [], length, ◌-◌, ◌<◌, ◌≤◌}
use Rattle.gd_parser.proofs.declarations.annots.Given as goal

abbrev pub invariant-annotations : goal.invariant-annotations
invariant-annotations l = record { reads : (o : Outcome (List Annotation)) → Loop (λ sofar. Look (mark_at l.tokens) (annots_by l.tokens (may l.owner) sofar)) l.all l.at o → Loop (λ sofar. Look (mark_at l.tokens) (annots_by l.tokens (may l.owner) sofar)) [] l.start o; after : l.start ≤ l.at; within : l.at < length l.tokens }

abbrev pub decreases-annotations : goal.decreases-annotations
decreases-annotations l = length l.tokens - l.at

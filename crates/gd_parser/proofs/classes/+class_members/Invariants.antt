use Rattle.gd_syntax.specs.Reading.{Outcome}
use Rattle.gd_syntax.specs.declared.tree.member.Member.{Member}
use Rattle.gd_syntax.specs.MemberGrammar.{members, class_block}
use Rattle.std.proofs.Common.{List, length, ℕ, ◌*◌, ◌+◌, ◌-◌, ◌<◌, ◌≤◌}
use Rattle.gd_parser.proofs.classes.+class_members.Given as goal

abbrev pub invariant-member_list-members : goal.invariant-member_list-members
invariant-member_list-members l = record { reads : (o : Outcome (List Member × ℕ)) → members l.tokens (class_block l.tokens l.room) (l.members, l.begun) l.at o → members l.tokens (class_block l.tokens l.room) (l.initial.members, l.initial.begun) l.start o; after : l.start ≤ l.at; within : l.at < length l.tokens }

abbrev pub decreases-member_list-members : goal.decreases-member_list-members
decreases-member_list-members l = length l.tokens - l.at

abbrev pub decreases-class_block : goal.decreases-class_block
decreases-class_block l = 4 * l.room

abbrev pub decreases-inner_class : goal.decreases-inner_class
decreases-inner_class l = 4 * l.room + 1

abbrev pub decreases-member : goal.decreases-member
decreases-member l = 4 * l.room + 2

abbrev pub decreases-member_list : goal.decreases-member_list
decreases-member_list l = 4 * l.room + 3

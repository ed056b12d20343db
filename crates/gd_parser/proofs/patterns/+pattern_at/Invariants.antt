use Rattle.gd_parser.proofs.patterns.+pattern_at.Given as goal

abbrev pub decreases-pattern_at : goal.decreases-pattern_at
decreases-pattern_at l = l.room

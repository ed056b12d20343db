use Rattle.ref_objects.proofs.checks.+is_apart.Given as goal

abbrev pub decreases-is_apart : goal.decreases-is_apart
decreases-is_apart l = l.fuel

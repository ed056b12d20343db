-- All that unfolds when a row is computed.

unfoldable pub everything : Unit {0}
unfolding
    Rattle.folder_rules.specs.Classes.member_classes Rattle.folder_rules.specs.Classes.classes_of Rattle.folder_rules.specs.Classes.preload_of
    Rattle.folder_rules.specs.Uses.expr_uses Rattle.folder_rules.specs.Uses.pattern_uses Rattle.folder_rules.specs.Uses.stmt_uses
    Rattle.folder_rules.specs.Uses.member_uses Rattle.folder_rules.specs.Uses.uses_of
    Rattle.facts.specs.Evaluation.ending Rattle.facts.specs.Evaluation.evaluated
    lib.Utf8.encode denote.Hole.Carrier.out denote.Hole.Carrier.roll denote.Hole.Carrier.shown denote.Hole.Carrier.hidden
everything = tt

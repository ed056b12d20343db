-- All that unfolds when a run is computed.

unfoldable pub everything : Unit {0}
unfolding
    Rattle.script_meaning.specs.Exprs.expr Rattle.script_meaning.specs.Patterns.pattern Rattle.script_meaning.specs.Statements.stmt Rattle.script_meaning.specs.Constants.made
    Rattle.native_calls.specs.Table.rows_of Rattle.variant_values.specs.Trees.without_subtree
    Rattle.variant_values.specs.Sweeps.round Rattle.variant_values.specs.ValueTexts.text_in Rattle.variant_values.specs.ValueTexts.items_in
    Rattle.variant_values.specs.Comparisons.same_at Rattle.variant_values.specs.Comparisons.same_value Rattle.variant_values.specs.Copies.copied
    Rattle.std.specs.Int.int_wrap Rattle.std.specs.Fmt.digits Rattle.std.specs.Str.chars lib.Utf8.encode denote.Hole.Carrier.out denote.Hole.Carrier.roll denote.Hole.Carrier.shown denote.Hole.Carrier.hidden
everything = tt

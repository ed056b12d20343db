-- All that unfolds when a row is computed.

unfoldable pub everything : Unit {0}
unfolding
    Rattle.scene_syntax.specs.Values.value_len Rattle.scene_syntax.specs.Values.string_value Rattle.scene_syntax.specs.Lines.line_at Rattle.scene_syntax.specs.Lines.lines Rattle.scene_syntax.specs.Project.project_of
    Rattle.scene_syntax.specs.SceneValues.items Rattle.scene_syntax.specs.SceneValues.entries Rattle.scene_syntax.specs.SceneValues.value Rattle.scene_syntax.specs.SceneValues.part_len
    Rattle.scene_syntax.specs.Headings.attributes Rattle.scene_syntax.specs.Scenes.lines Rattle.scene_syntax.specs.Scenes.scene_of Rattle.scene_syntax.specs.Scenes.first_uid Rattle.scene_syntax.specs.Scenes.uid_of
    Rattle.gd_syntax.specs.Layout.bad_byte Rattle.gd_syntax.specs.Spellings.contents Rattle.gd_syntax.specs.Spellings.piece_at Rattle.gd_syntax.specs.Spellings.escape_at Rattle.gd_syntax.specs.Spellings.code_escape Rattle.gd_syntax.specs.Spellings.number_value
    Rattle.std.specs.Str.Lossy.utf8_valid_len Rattle.std.specs.Str.is_utf8 Rattle.std.specs.Str.chars lib.Utf8.encode denote.Hole.Carrier.out denote.Hole.Carrier.roll denote.Hole.Carrier.shown denote.Hole.Carrier.hidden
everything = tt

-- What the lines that are read stand for.
use Rattle.std.specs.Prelude.{ℕ, List}
use Rattle.std.specs.List.{fold}
use Rattle.scene_syntax.specs.Lines as spec
use Rattle.text_scene.specs.declared.lines.Line.{Line}
use Rattle.text_scene.specs.declared.lines.Line.TheVariants.{Nothing, Section, Setting, Broken, Unfinished}
use Rattle.text_scene.specs.declared.lines.Reading.{Reading}

abbrev pub line_of : Line → spec.Line
line_of Nothing = spec.nothing
line_of (Section name) = spec.section name
line_of (Setting key value) = spec.setting key value
line_of Broken = spec.broken
line_of Unfinished = spec.unfinished

abbrev pub reading_of : Reading → spec.Reading
reading_of found = record { line = line_of found.line; size = found.size }

-- the number of the line behind a text
abbrev pub numbers : ℕ → List ℕ → ℕ
numbers number text = fold spec.number_after number text

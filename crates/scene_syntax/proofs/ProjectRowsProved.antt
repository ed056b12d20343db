-- Worked rows of settings: by computation.
use Rattle.std.proofs.Common.{refl}
use Rattle.scene_syntax.specs.ProjectRows.{ProjectRows}
use Rattle.scene_syntax.proofs.Compute.{everything}

pub project_rows : ProjectRows
unfolding everything
project_rows = record {
  written = refl;
  empty = refl;
  other_version = refl;
  quoted_version = refl;
  no_version_first = refl;
  version_behind = refl;
  version_in_section = refl;
  last_scene = refl;
  no_string = refl;
  wrong_escape = refl;
  escapes = refl;
  other_section = refl;
  autoloads = refl;
  closes_nothing = refl;
  open_string = refl;
  open_bracket = refl;
  empty_section = refl;
  behind_section = refl;
  blank_before = refl;
  blank_line = refl;
  no_key = refl;
  blank_behind_key = refl;
  bad_byte = refl;
  bad_byte_behind = refl;
  bad_byte_alone = refl;
  cut_version = refl;
  marked = refl;
}

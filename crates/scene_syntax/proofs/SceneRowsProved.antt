-- Worked rows of scenes: by computation.
use Rattle.std.proofs.Common.{refl}
use Rattle.scene_syntax.specs.SceneRows.{SceneRows}
use Rattle.scene_syntax.proofs.Compute.{everything}

pub scene_rows : SceneRows
unfolding everything
scene_rows = record {
  written = refl;
  written_uid = refl;
  empty = refl;
  no_node = refl;
  other_format = refl;
  no_format = refl;
  twice = refl;
  node_first = refl;
  second_scene = refl;
  property_first = refl;
  other_type = refl;
  same_id = refl;
  sub_resource = refl;
  other_node = refl;
  inherited = refl;
  editable_children = refl;
  second_root = refl;
  type_and_instance = refl;
  wrong_kind = refl;
  skipped_attribute = refl;
  option = refl;
  no_method = refl;
  values = refl;
  least = refl;
  too_large = refl;
  last_comma = refl;
  no_blanks = refl;
  blank_behind = refl;
  foreign = refl;
  skipped = refl;
  on_scene = refl;
  open_string = refl;
  wrong_escape = refl;
  bad_byte = refl;
  bad_byte_behind = refl;
  uid_as_written = refl;
  no_uid = refl;
  uid_of_node = refl;
  open_heading = refl;
}

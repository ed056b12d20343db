-- Paths of a project: `res://` and segments parted by `/`, as Godot writes them (Godot manual, "File paths in Godot projects").
use Rattle.std.specs.Prelude.{ℕ, Bool, not, ◌&&◌, ◌||◌, ◌==◌, List, codes, bytes_eq, nat_eq, drop}
use Rattle.std.specs.List.{starts_with, ends_with, list_all, slice_split}

abbrev pub is_slash : ℕ → Bool
is_slash b = b == 47

-- the parts between slashes, of which there is one more than there are slashes
abbrev pub segments_of : List ℕ → List (List ℕ)
segments_of bytes = slice_split is_slash bytes

-- not empty, `.` or `..`
abbrev pub is_segment : List ℕ → Bool
is_segment segment = not (bytes_eq segment (codes "") || bytes_eq segment (codes ".") || bytes_eq segment (codes ".."))

abbrev pub has_front : List ℕ → Bool
has_front text = starts_with nat_eq text (codes "res://")

-- the parts behind the front are segments
abbrev pub has_segments : List ℕ → Bool
has_segments text = list_all is_segment (segments_of (drop 6 text))

-- the text is a path
abbrev pub is_res_path : List ℕ → Bool
is_res_path text = has_front text && has_segments text

-- the settings of a project
abbrev pub project_file : List ℕ
project_file = codes "res://project.godot"

-- no dot hides a file or folder of this name
abbrev pub is_visible : List ℕ → Bool
is_visible segment = not (starts_with nat_eq segment (codes "."))

abbrev pub is_script_name : List ℕ → Bool
is_script_name text = ends_with nat_eq text (codes ".gd")

abbrev pub is_scene_name : List ℕ → Bool
is_scene_name text = ends_with nat_eq text (codes ".tscn")

-- the path of a script or a scene that no dot hides
abbrev pub is_source_path : List ℕ → Bool
is_source_path text = is_res_path text && list_all is_visible (segments_of (drop 6 text)) && (is_script_name text || is_scene_name text)

-- the path of a file that a project is made of
abbrev pub is_project_path : List ℕ → Bool
is_project_path text = bytes_eq text project_file || is_source_path text

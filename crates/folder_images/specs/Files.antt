-- The files of an image, by their numbers and by their paths.
use Rattle.std.specs.Prelude.{ℕ, ◌+◌, ◌<◌, ◌≤◌, ◌^◌, if◌then◌else◌, List, [], ◌∷◌, length, map, All, Vec}
use Rattle.std.specs.declared.alloc.Global.{Global}
use Rattle.std.specs.declared.option.Option.{Option}
use Rattle.std.specs.declared.option.Option.TheVariants.{None, Some}
use Rattle.std.specs.List.{IsDistinct, slice_get}
use Rattle.std.specs.List.Sorted.{IsPermutation, IsSortedByKey, IsStrictlySortedBy}
use Rattle.std.specs.Option.{option_map}
use Rattle.host_io.specs.Folder.{AreProjectPaths}
use Rattle.host_io.specs.Paths.{path_order, same_path}
use Rattle.folder_meaning.specs.Image.{Image, paths_of, size_of}
use Rattle.folder_meaning.specs.ImageFile.{bytes_of}
use Rattle.folder_meaning.specs.Limits.{max_file_bytes}

-- the files that the code holds
abbrev pub files_of : List (List ℕ × Option (Vec ℕ Global)) → Image
files_of files = map (λ file. (file.0, bytes_of file.1)) files

-- what an image can be made of, in any order
pub record AreImageFiles (files : Image) : Type 0 where
  pub once : IsDistinct same_path (paths_of files)
  pub form : AreProjectPaths (paths_of files)
  pub few : length files < 2 ^ 32
  pub short : All (λ file. size_of file.1 ≤ max_file_bytes) files

-- these files, in ascending byte order of paths
pub record IsImageOf (files image : Image) : Type 0 where
  pub same : IsPermutation files image
  pub ascending : IsStrictlySortedBy path_order (paths_of image)

-- the number of a path's file among those from this number on
abbrev pub number_from : ℕ → Image → List ℕ → Option ℕ
number_from at [] path = None
number_from at (file ∷ files) path = if same_path file.0 path then Some at else number_from (at + 1) files path

-- A file's number is its place, from 0.
abbrev pub file_number : Image → List ℕ → Option ℕ
file_number image path = number_from 0 image path

-- the path of the file of a number
abbrev pub path_at : Image → ℕ → Option (List ℕ)
path_at image file = option_map (λ entry. entry.0) (slice_get image file)

-- its bytes, or that it has none, being unreadable
abbrev pub content_at : Image → ℕ → Option (Option (List ℕ))
content_at image file = option_map (λ entry. entry.1) (slice_get image file)

-- what holds of the files that the code holds
pub record IsHeld (files : List (List ℕ × Option (Vec ℕ Global))) : Type 0 where
  pub ascending : IsSortedByKey (λ file. file.0) path_order files
  pub whole : AreImageFiles (files_of files)

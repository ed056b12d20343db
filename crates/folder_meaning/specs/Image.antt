-- The image of a folder.
use Rattle.std.specs.Prelude.{ℕ, ◌+◌, ◌≤◌, if◌then◌else◌, List, [], ◌∷◌, length, map, All, is_none}
use Rattle.std.specs.declared.option.Option.{Option}
use Rattle.std.specs.declared.option.Option.TheVariants.{None, Some}
use Rattle.std.specs.List.{sum_by}
use Rattle.std.specs.List.Sorted.{IsStrictlySortedBy}
use Rattle.host_io.specs.Folder.{AreProjectPaths}
use Rattle.host_io.specs.Paths.{path_order}
use Rattle.folder_meaning.specs.Limits.{max_files, max_file_bytes, max_folder_bytes}

-- the files in ascending byte order of paths, each with its bytes, or with nothing where its read failed
abbrev pub Image : Type 0
Image = List (List ℕ × Option (List ℕ))

abbrev pub paths_of : Image → List (List ℕ)
paths_of image = map (λ file. file.0) image

abbrev pub size_of : Option (List ℕ) → ℕ
size_of None = 0
size_of (Some bytes) = length bytes

abbrev pub unreadable_files : Image → ℕ
unreadable_files [] = 0
unreadable_files (file ∷ files) = (if is_none file.1 then 1 else 0) + unreadable_files files

-- what every image is, whether its folder tells its files or not
pub record IsImage (image : Image) : Type 0 where
  pub ascending : IsStrictlySortedBy path_order (paths_of image)
  pub form : AreProjectPaths (paths_of image)
  pub few : length image ≤ max_files
  pub short : All (λ file. size_of file.1 ≤ max_file_bytes) image
  pub total : sum_by (λ file. size_of file.1) image ≤ max_folder_bytes

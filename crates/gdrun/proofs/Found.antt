-- A scan of an image.
use Rattle.std.proofs.Common.{◌≡◌, ℕ, ◌+◌, ◌<◌, ◌≤◌, All, length, true, false, List, drop, get_or, Some, cond, refl, sym, ap, ◌∙◌, add-one, drop-cons}
use Rattle.std.specs.Prelude.{bytes_eq, string_bytes}
use Rattle.std.specs.declared.option.Option.{Option}
use Rattle.std.specs.FinMap.{find}
use Rattle.std.proofs.lemmas.List.{get_or-map, length-map}
use Rattle.std.proofs.lemmas.Map.Text.{is_eq-slice_cmp}
use Rattle.host_io.specs.Paths.{path_order}
use Rattle.folder_meaning.specs.declared.image.ImageFile.{ImageFile}
use Rattle.folder_meaning.specs.ImageFile.{image_of, bytes_of}
use Rattle.folder_meaning.specs.Image.{size_of}
use Rattle.folder_meaning.specs.Limits.{max_file_bytes}

-- a file of the image as plain data
abbrev view_of : ImageFile → List ℕ × Option (List ℕ)
view_of file = (string_bytes file.path, bytes_of file.content)

module _ (image : List ImageFile) (i : ℕ) (file : ImageFile) (within : i < length image) (is : file ≡ get_or image i file) (path : List ℕ) where
  step : find path_order path (image_of (drop i image)) ≡ cond (bytes_eq path (string_bytes file.path)) (Some (bytes_of file.content)) (find path_order path (image_of (drop (i + 1) image)))
  step = rw (drop-cons image i file, ← is, is_eq-slice_cmp, add-one) refl

  pub found : find path_order path (image_of (drop i image)) ≡ find path_order path (image_of image) → bytes_eq path (string_bytes file.path) ≡ true → Some (bytes_of file.content) ≡ find path_order path (image_of image)
  found same test = sym (sym same ∙ step ∙ rw test refl)

  pub passed : bytes_eq path (string_bytes file.path) ≡ false → find path_order path (image_of (drop (i + 1) image)) ≡ find path_order path (image_of (drop i image))
  passed test = sym (step ∙ rw test refl)

  -- each file of the image is within the limit
  pub within_limit : All (λ f. size_of f.1 ≤ max_file_bytes) (image_of image) → size_of (bytes_of file.content) ≤ max_file_bytes
  within_limit short =
      let one = short i (view_of file) (rw (length-map image view_of) within) in
      let same : get_or (image_of image) i (view_of file) ≡ view_of file = get_or-map view_of image i file (view_of file) within ∙ ap view_of (sym is) in
      rw same at one

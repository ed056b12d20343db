-- The image that the code holds.
use Rattle.std.specs.Prelude.{ℕ, List, map, string_bytes, Vec}
use Rattle.std.specs.declared.alloc.Global.{Global}
use Rattle.std.specs.declared.option.Option.{Option}
use Rattle.std.specs.Option.{option_map}
use Rattle.folder_meaning.specs.declared.image.ImageFile.{ImageFile}
use Rattle.folder_meaning.specs.Image.{Image}

abbrev pub bytes_of : Option (Vec ℕ Global) → Option (List ℕ)
bytes_of content = option_map (λ v. v.items) content

abbrev pub image_of : List ImageFile → Image
image_of files = map (λ file. (string_bytes file.path, bytes_of file.content)) files

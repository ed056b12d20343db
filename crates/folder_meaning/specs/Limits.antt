-- The limits of a folder.
use Rattle.std.specs.Prelude.{ℕ}

-- the most files
abbrev pub max_files : ℕ
max_files = 4096

-- the most bytes of a file
abbrev pub max_file_bytes : ℕ
max_file_bytes = 1048576

-- the most bytes of all files
abbrev pub max_folder_bytes : ℕ
max_folder_bytes = 67108864

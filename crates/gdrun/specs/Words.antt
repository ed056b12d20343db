-- The words of the command line.
use Rattle.std.specs.Prelude.{ℕ, ◌+◌, ◌-◌, ◌*◌, ◌&&◌, if◌then◌else◌, nat_le, Bool, true, false, List, [], ◌∷◌, length, map, fold, codes, bytes_eq, String, string_bytes}
use Rattle.std.specs.List.{list_all}
use Rattle.std.specs.Char.{is_ascii_digit}
use Rattle.std.specs.declared.alloc.Global.{Global}
use Rattle.std.specs.declared.option.Option.{Option}
use Rattle.std.specs.declared.option.Option.TheVariants.{None, Some}
use Rattle.std.specs.Option.{option_and}
use Rattle.res_paths.specs.Paths.{is_res_path, is_script_name}

-- the most digits of a number
abbrev pub max_digits : ℕ
max_digits = 13

abbrev pub max_workers : ℕ
max_workers = 64

abbrev pub max_steps : ℕ
max_steps = 1000000000000

-- the steps of a run whose words name none
abbrev pub default_steps : ℕ
default_steps = 10000000

-- what is asked of a folder
pub data FolderCommand : Type 0 where
  -- load a script, make one instance and end: the script's path, and the steps that are allowed
  script : List ℕ → ℕ → FolderCommand

-- what is asked for: a command reads the folder, or does not
pub data Command : Type 0 where
  no_command : Command
  of_folder : FolderCommand → Command

-- the bytes of each word
abbrev pub texts_of : List (String Global) → List (List ℕ)
texts_of words = map string_bytes words

-- the value of decimal digits
abbrev pub digits_value : List ℕ → ℕ
digits_value digits = fold (λ value digit. value * 10 + (digit - 48)) 0 digits

-- the value of 1 to 13 decimal digits
abbrev pub number_of : List ℕ → Option ℕ
number_of text = if nat_le 1 (length text) && nat_le (length text) max_digits && list_all is_ascii_digit text then Some (digits_value text) else None

-- a number from 1 to a limit
abbrev pub within : ℕ → Option ℕ → Option ℕ
within limit None = None
within limit (Some n) = if nat_le 1 n && nat_le n limit then Some n else None

-- the steps that the words after PATH allow: WORKERS and STEPS may be left out
abbrev pub steps_of_words : List (List ℕ) → Option ℕ
steps_of_words [] = Some default_steps
steps_of_words (workers ∷ []) = option_and (within max_workers (number_of workers)) (Some default_steps)
steps_of_words (workers ∷ steps ∷ []) = option_and (within max_workers (number_of workers)) (within max_steps (number_of steps))
steps_of_words (workers ∷ steps ∷ more ∷ words) = None

-- the path of a script
abbrev pub is_script_path : List ℕ → Bool
is_script_path path = is_res_path path && is_script_name path

abbrev pub script_of_words : List ℕ → Option ℕ → Command
script_of_words path None = no_command
script_of_words path (Some steps) = if is_script_path path then of_folder (script path steps) else no_command

-- the words but DIR: `script PATH [WORKERS [STEPS]]`
abbrev pub command_of_parts : List ℕ → List ℕ → List (List ℕ) → Command
command_of_parts verb path words = if bytes_eq verb (codes "script") then script_of_words path (steps_of_words words) else no_command

-- `script DIR PATH [WORKERS [STEPS]]`
abbrev pub command_of : List (List ℕ) → Command
command_of (verb ∷ dir ∷ path ∷ words) = command_of_parts verb path words
command_of words = no_command

-- whether the folder is read for it
abbrev pub reads_folder : Command → Bool
reads_folder no_command = false
reads_folder (of_folder asked) = true

-- the one path that the folder must list, and no other
abbrev pub wanted_of : FolderCommand → Option (List ℕ)
wanted_of (script path steps) = Some path

abbrev pub wanted_by : Command → Option (List ℕ)
wanted_by no_command = None
wanted_by (of_folder asked) = wanted_of asked

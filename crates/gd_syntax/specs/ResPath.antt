-- What a text is read as a path, by itself and from the folder of a file.
use Rattle.std.specs.Prelude.{◌≡◌, ℕ, ◌-◌, false, if◌then◌else◌, List, [], ◌∷◌, ◌++◌, length, take, drop, codes, bytes_eq, IsTrue, Result, MatchBool}
use Rattle.std.specs.List.{join_with_byte}
use Rattle.std.specs.declared.option.Option.{Option}
use Rattle.std.specs.declared.option.Option.TheVariants.{None, Some}
use Rattle.std.specs.declared.result.Result.TheVariants.{Ok, Err}
use Rattle.res_paths.specs.Paths.{segments_of, has_front, has_segments, is_res_path}
use Rattle.gd_syntax.specs.declared.path.PathError.{PathError}
use Rattle.gd_syntax.specs.declared.path.PathError.TheVariants.{NotRes, BadSegment, NoMemory}

-- what `new` answers: the path is the text itself, and each fault has its cause
abbrev pub IsPathOf : List ℕ → Result (List ℕ) PathError → Type 0
IsPathOf text (Ok path) = (path ≡ text) × IsTrue (is_res_path text)
IsPathOf text (Err NotRes) = has_front text ≡ false
IsPathOf text (Err BadSegment) = IsTrue (has_front text) × (has_segments text ≡ false)
IsPathOf text (Err NoMemory) = Unit {0}

-- one folder up, where that is not above the root
abbrev pub parent_of : List (List ℕ) → Option (List (List ℕ))
parent_of [] = None
parent_of (first ∷ folders) = Some (take (length folders) (first ∷ folders))

-- One segment from a folder, which is told by its segments from the root: `.` stays, `..` goes up, and any other goes
-- down. No segment is empty.
abbrev pub entered : List (List ℕ) → List ℕ → Option (List (List ℕ))
entered folders segment = if bytes_eq segment (codes "") then None else if bytes_eq segment (codes ".") then Some folders
    else if bytes_eq segment (codes "..") then parent_of folders else Some (folders ++ segment ∷ [])

-- one segment after the other
abbrev pub resolved : Option (List (List ℕ)) → List (List ℕ) → Option (List (List ℕ))
resolved folders [] = folders
resolved None (segment ∷ segments) = None
resolved (Some folders) (segment ∷ segments) = resolved (entered folders segment) segments

-- the folder of a file
abbrev pub folder_of : List ℕ → List (List ℕ)
folder_of file = take (length (segments_of (drop 6 file)) - 1) (segments_of (drop 6 file))

-- the path with these segments, where there is one at least
abbrev pub path_of : Option (List (List ℕ)) → Option (List ℕ)
path_of None = None
path_of (Some []) = None
path_of (Some (first ∷ segments)) = Some (codes "res://" ++ join_with_byte 47 (first ∷ segments))

-- the path that a text names from a file's folder
abbrev pub path_from : List ℕ → List ℕ → Option (List ℕ)
path_from file text = path_of (resolved (Some (folder_of file)) (segments_of text))

-- the path, or that there is none
abbrev pub IsPathOr : Option (List ℕ) → Result (List ℕ) PathError → Type 0
IsPathOr wanted (Ok path) = wanted ≡ Some path
IsPathOr wanted (Err NotRes) = ⊥
IsPathOr wanted (Err BadSegment) = wanted ≡ None
IsPathOr wanted (Err NoMemory) = Unit {0}

-- what `join` answers: a text that begins with `res://` is read by itself, and another from the file's folder
abbrev pub IsJoined : List ℕ → List ℕ → Result (List ℕ) PathError → Type 0
IsJoined file text result = MatchBool (has_front text) (IsPathOf text result) (IsPathOr (path_from file text) result)

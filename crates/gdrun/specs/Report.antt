-- The report of a load: a line for each request in order, and then a line for each file with a fault, by path.
use Rattle.std.specs.Prelude.{ℕ, List, [], ◌∷◌, ◌++◌, codes, map}
use Rattle.std.specs.List.{flat_map}
use Rattle.std.specs.Fmt.{decimal}
use Rattle.std.specs.FinMap.Entries.{put}
use Rattle.host_io.specs.Paths.{path_order}
use Rattle.gd_syntax.specs.declared.fault.LoadFault.{LoadFault}
use Rattle.gd_syntax.specs.Faults.{kind_text}

-- what became of a request
pub data Verdict : Type 0 where
  -- no file has the path
  missing : Verdict
  ok : Verdict
  -- the files of the load that have a fault, by path, each with its fault
  refused : List (List ℕ × LoadFault) → Verdict

-- the line of a path whose load has these faulty files
abbrev pub refused_line : List ℕ → List (List ℕ) → List ℕ
refused_line path files = codes "refused " ++ path ++ codes ":" ++ flat_map (λ file. codes " " ++ file) files ++ codes "\n"

abbrev pub verdict_line : List ℕ → Verdict → List ℕ
verdict_line path missing = codes "missing " ++ path ++ codes "\n"
verdict_line path ok = codes "ok " ++ path ++ codes "\n"
verdict_line path (refused faults) = refused_line path (map (λ fault. fault.0) faults)

abbrev pub faults_in : Verdict → List (List ℕ × LoadFault)
faults_in missing = []
faults_in ok = []
faults_in (refused faults) = faults

-- each file once, in ascending byte order of paths
abbrev pub by_path : List (List ℕ × LoadFault) → List (List ℕ × LoadFault)
by_path [] = []
by_path (fault ∷ faults) = put path_order fault.0 fault.1 (by_path faults)

-- the line of a file with a fault
abbrev pub fault_line : List ℕ → LoadFault → List ℕ
fault_line path fault = path ++ codes ":" ++ decimal fault.place.line ++ codes ":" ++ decimal fault.place.column ++ codes " " ++ kind_text fault.kind ++ codes "\n"

-- the lines of the report of these requests, each with its verdict
abbrev pub report : List (List ℕ × Verdict) → List (List ℕ)
report requests = map (λ request. verdict_line request.0 request.1) requests
    ++ map (λ fault. fault_line fault.0 fault.1) (by_path (flat_map (λ request. faults_in request.1) requests))

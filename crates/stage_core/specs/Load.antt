-- The load of a file: the results of its closure, or the faults there.
use Rattle.std.specs.Prelude.{◌≡◌, ℕ, ◌≤◌, ◌↔◌, List, map, Contains, Option, Some, None, slice_get, option_map}
use Rattle.std.specs.List.Sorted.{IsStrictlySortedBy}
use Rattle.gd_syntax.specs.declared.fault.LoadFault.{LoadFault}
use Rattle.std.specs.declared.sync.Arc.{Arc}
use Rattle.stage_core.specs.declared.work.StageOut.{Ghosts}
use Rattle.stage_core.specs.declared.work.StageValue.TheVariants as stage_value
use Rattle.stage_core.specs.declared.answer.Answer.{Answer}
use Rattle.stage_core.specs.declared.answer.Answer.TheVariants as answer
use Rattle.stage_core.specs.Log.{Entry, OutcomeValue, Value, Fault, Block}
use Rattle.stage_core.specs.Machine.{outcomes, HoldsValue}
use Rattle.stage_core.specs.Paths.{path_order}
use Rattle.stage_core.specs.Stages.{Reaches, value_edges}
use Rattle.stage_core.specs.Status.{status_of, status_fault}

module _ {O P : Type 0} (g : Ghosts O P) (project : P) where
  -- the least set that has the file and, with each file, its links
  abbrev pub InClosure : ℕ → ℕ → Type 0
  InClosure file other = Reaches (value_edges (g.value project) (g.file_links project)) file other

  -- the fault of a file: that of the stage that refuses it
  pub record HasFault (file : ℕ) (fault : LoadFault) : Type 0 where
    pub stage : ℕ
    pub from_one : 1 ≤ stage
    pub to_five : stage ≤ 5
    pub refused : g.value project file stage ≡ stage_value.Refused fault

  -- the files' paths ascend
  abbrev pub AreByPath : List ℕ → Type 0
  AreByPath files = IsStrictlySortedBy (λ f h. path_order (g.path project f) (g.path project h)) files

  -- no file of the closure has a fault, and these are their results
  pub record AreResults (file : ℕ) (results : List (ℕ × O)) : Type 0 where
    pub no_fault : (other : ℕ) (fault : LoadFault) → InClosure file other → HasFault other fault → ⊥
    pub each : (other : ℕ) → Contains (map (λ r. r.0) results) other ↔ InClosure file other
    pub by_path : AreByPath (map (λ r. r.0) results)
    pub hold : (other : ℕ) (x : O) → Contains results (other, x) → HoldsValue g project other 5 (Value x)

  -- some file of the closure has a fault, and these are the faults there
  pub record AreFaults (file : ℕ) (faults : List (ℕ × LoadFault)) : Type 0 where
    pub some : (other : ℕ) × (fault : LoadFault) × InClosure file other × HasFault other fault
    pub each : (other : ℕ) (fault : LoadFault) → Contains faults (other, fault) ↔ (InClosure file other × HasFault other fault)
    pub by_path : AreByPath (map (λ f. f.0) faults)

-- a result, wherever it lies
abbrev pub result_value : {O A : Type 0} → ℕ × Arc O A → ℕ × O
result_value r = (r.0, r.1.value)

-- the answer is the load of the file
abbrev pub IsAnswer : {O P : Type 0} → Ghosts O P → P → ℕ → Answer O → Type 0
IsAnswer g project file (answer.Ok results) = AreResults g project file (map result_value results.items)
IsAnswer g project file (answer.Refused faults) = AreFaults g project file faults.items

-- by the log, the file with its fault
unfoldable pub fault_entry : {O : Type 0} → List (Entry O) → ℕ → Option (ℕ × LoadFault)
fault_entry log file = option_map (λ fault. (file, fault)) (status_fault (status_of (outcomes log file)))

-- the result that an outcome has
abbrev pub done_value : {O : Type 0} → Option (OutcomeValue O) → Option O
done_value None = None
done_value (Some (Value x)) = Some x
done_value (Some (Fault fault)) = None
done_value (Some Block) = None

-- by the log, the file with its result of stage 5
unfoldable pub result_entry : {O : Type 0} → List (Entry O) → ℕ → Option (ℕ × O)
result_entry log file = option_map (λ x. (file, x)) (done_value (slice_get (outcomes log file) 4))

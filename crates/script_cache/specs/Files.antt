-- The files that paths name, and what a log says of them.
use Rattle.std.specs.Prelude.{◌≡◌, ℕ, ◌<◌, List, true, false}
use Rattle.stage_core.specs.declared.work.StageOut.{Ghosts}
use Rattle.stage_core.specs.declared.status.RefStatus.{RefStatus}
use Rattle.stage_core.specs.declared.answer.Answer.{Answer}
use Rattle.stage_core.specs.Load.{IsAnswer, InClosure}
use Rattle.stage_core.specs.declared.log.Entry.{Entry}
use Rattle.stage_core.specs.Machine.{outcomes, is_done_at}
use Rattle.stage_core.specs.Status.{status_of}

module _ {O P : Type 0} (g : Ghosts O P) (project : P) (path : List ℕ) where
  -- the project's file of this path
  pub record IsFileAt (file : ℕ) : Type 0 where
    pub in_range : file < g.files project
    pub path_is : g.path project file ≡ path

  -- the path is none of the project's
  abbrev pub HasNoFile : Type 0
  HasNoFile = (file : ℕ) → IsFileAt file → ⊥

  -- the status of the path's file by the log
  pub record IsStatusAt (log : List (Entry O)) (status : RefStatus) : Type 0 where
    pub file : ℕ
    pub at : IsFileAt file
    pub is : status ≡ status_of (outcomes log file)

  -- the load of the path's file, each file of whose closure is finished in the log
  pub record IsAnswerAt (log : List (Entry O)) (answer : Answer O) : Type 0 where
    pub file : ℕ
    pub at : IsFileAt file
    pub load : IsAnswer g project file answer
    pub finished : (other : ℕ) → InClosure g project file other → is_done_at (outcomes log other) 5 ≡ true

  -- a file of the closure of the path's file is not finished in the log
  pub record IsUnfinishedAt (log : List (Entry O)) : Type 0 where
    pub file : ℕ
    pub at : IsFileAt file
    pub other : ℕ
    pub needed : InClosure g project file other
    pub unfinished : is_done_at (outcomes log other) 5 ≡ false

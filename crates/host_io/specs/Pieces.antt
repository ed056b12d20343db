-- The pieces of a text, each taken by one write, one after the other.
use Rattle.std.specs.Prelude.{◌≡◌, ℕ, Bool, true, not, ◌&&◌, if◌then◌else◌, List, [], ◌∷◌, ◌++◌, IsTrue, IfSome, Result}
use Rattle.std.specs.declared.option.Option.TheVariants.{Some}
use Rattle.std.specs.declared.result.Result.TheVariants.{Ok, Err}
use Rattle.std.specs.Option.{option_map}
use Rattle.std.specs.List.{flat_map}
use Rattle.std.specs.Io.KnownBytes.{append_known}
use Rattle.host_io.specs.Causes.{RoseBy}
use Rattle.host_io.specs.Sink.{TookFront, Writes, SinkState, is_failing_write, after_write}

-- the text that the pieces make
abbrev pub joined : List (List ℕ) → List ℕ
joined pieces = flat_map (λ piece. piece) pieces

-- none of the writes of these pieces fails
abbrev pub all_fit : List (List ℕ) → Writes → Bool
all_fit [] writes = true
all_fit (piece ∷ pieces) writes = not (is_failing_write piece writes) && all_fit pieces (after_write piece writes)

-- the writes by number after those of these pieces
abbrev pub after_pieces : List (List ℕ) → Writes → Writes
after_pieces [] writes = writes
after_pieces (piece ∷ pieces) writes = after_pieces pieces (after_write piece writes)

-- each of these pieces was taken by one write, and none failed
pub record WroteAll (old new : SinkState) (pieces : List (List ℕ)) : Type 0 where
  pub took : new.taken ≡ append_known old.taken (joined pieces)
  pub number : new.writes ≡ option_map (after_pieces pieces) old.writes
  pub numbered : IfSome old.writes (λ writes. IsTrue (all_fit pieces writes))
  pub faults : new.faults ≡ old.faults

-- the first of these pieces were written, and nothing more
pub record WroteFirst (old new : SinkState) (pieces : List (List ℕ)) : Type 0 where
  pub front : List (List ℕ)
  pub rest : List (List ℕ)
  pub is : pieces ≡ front ++ rest
  pub wrote : WroteAll old new front

-- the write of this piece failed: a part of its front was taken, and nothing of it where the sink numbers its writes
pub record FailedAt (old new : SinkState) (piece : List ℕ) : Type 0 where
  pub took : TookFront old.taken new.taken piece
  pub number : new.writes ≡ option_map (after_write piece) old.writes
  pub numbered : IfSome old.writes (λ writes. IsTrue (is_failing_write piece writes) × (new.taken ≡ old.taken))
  pub faults : RoseBy 1 old.faults new.faults

-- one write of this piece
abbrev pub IsWrite : {T E : Type 0} → SinkState → SinkState → List ℕ → Result T E → Type 0
IsWrite old new piece (Ok _) = WroteAll old new (piece ∷ [])
IsWrite old new piece (Err _) = FailedAt old new piece

-- the first of these pieces were written, and the write of the next one failed
pub record FailedWrite (old new : SinkState) (pieces : List (List ℕ)) : Type 0 where
  pub front : List (List ℕ)
  pub piece : List ℕ
  pub rest : List (List ℕ)
  pub is : pieces ≡ front ++ piece ∷ rest
  pub before : SinkState
  pub wrote : WroteAll old before front
  pub failed : FailedAt before new piece

-- ---- where the writes are told by number

-- the pieces before the first whose write fails
abbrev pub written_of : List (List ℕ) → Writes → List (List ℕ)
written_of [] writes = []
written_of (piece ∷ pieces) writes = if is_failing_write piece writes then [] else piece ∷ written_of pieces (after_write piece writes)

-- the writes by number after them and after the one that fails
abbrev pub writes_after : List (List ℕ) → Writes → Writes
writes_after [] writes = writes
writes_after (piece ∷ pieces) writes = if is_failing_write piece writes then after_write piece writes else writes_after pieces (after_write piece writes)

-- what a sink tells after the writes of these pieces, all of them or up to the first that fails
pub record IsWrittenOut (writes : Writes) (pieces : List (List ℕ)) (old new : SinkState) : Type 0 where
  pub taken : new.taken ≡ append_known old.taken (joined (written_of pieces writes))
  pub number : new.writes ≡ Some (writes_after pieces writes)

-- Pieces that are written one after the other.
use Rattle.std.proofs.Common.{◌≡◌, ◌↔◌, ℕ, ◌&&◌, Bool, true, false, not, List, [], ◌∷◌, ◌++◌, refl, sym, ap, ◌∙◌, append_assoc, append-nil, None, Some, IfSome, IsSome, IsTrue, IsErrOf, Ok, Err, Result}
use Rattle.std.specs.Prelude.{OnErr, if◌then◌else◌}
use Rattle.std.specs.declared.option.Option.{Option}
use Rattle.std.specs.Option.{option_map}
use Rattle.std.specs.Io.KnownBytes.{append_known}
use Rattle.std.proofs.lemmas.List.Concat.{flat_map-append}
use Rattle.host_io.specs.Causes.{HasCause}
use Rattle.host_io.specs.Sink.{Takes, Writes, SinkState, is_failing_write, after_write}
use Rattle.host_io.specs.Pieces.{joined, all_fit, after_pieces, WroteAll, WroteFirst, FailedAt, IsWrite, FailedWrite, written_of, writes_after, IsWrittenOut}
use Rattle.host_io.specs.declared.sink.WriteError.{WriteError}
use Rattle.host_io.specs.declared.sink.WriteError.TheVariants.{IoFail}
use Rattle.host_io.proofs.Written.{append_twice, append_nothing}

after-append : (a b : List (List ℕ)) (w : Writes) → after_pieces (a ++ b) w ≡ after_pieces b (after_pieces a w)
after-append [] b w = refl
after-append (p ∷ a) b w = after-append a b (after_write p w)

and_first : (a b : Bool) → IsTrue (a && b) → IsTrue a
and_first true b h = refl
and_first false b h = h

and_second : (a b : Bool) → IsTrue (a && b) → IsTrue b
and_second true b h = h
and_second false b h = cc

both : (a b : Bool) → IsTrue a → IsTrue b → IsTrue (a && b)
both true b x y = y
both false b x y = x

fit-append : (a b : List (List ℕ)) (w : Writes) → IsTrue (all_fit a w) → IsTrue (all_fit b (after_pieces a w)) → IsTrue (all_fit (a ++ b) w)
fit-append [] b w one two = two
fit-append (p ∷ a) b w one two =
    both _ _ (and_first _ _ one) (fit-append a b (after_write p w) (and_second _ _ one) two)

joined-append : (a b : List (List ℕ)) → joined (a ++ b) ≡ joined a ++ joined b
joined-append a b = flat_map-append (λ piece. piece) a b

-- nothing was written
pub wrote_nothing : (s : SinkState) → WroteAll s s []
wrote_nothing s = record {
  took = append_nothing s.taken;
  number = elim s.writes as (λ w. w ≡ option_map (after_pieces []) w) [ None ↦ refl | Some w ↦ refl ];
  numbered = elim s.writes as (λ w. IfSome w (λ writes. IsTrue (all_fit [] writes))) [ None ↦ tt | Some w ↦ refl ];
  faults = refl;
}

next_number : (a b : List (List ℕ)) (old mid new : Option Writes) → mid ≡ option_map (after_pieces a) old → new ≡ option_map (after_pieces b) mid → new ≡ option_map (after_pieces (a ++ b)) old
next_number a b None mid new one two = two ∙ ap (option_map (after_pieces b)) one
next_number a b (Some w) mid new one two = two ∙ ap (option_map (after_pieces b)) one ∙ ap Some (sym (after-append a b w))

next_numbered : (a b : List (List ℕ)) (old mid : Option Writes) → mid ≡ option_map (after_pieces a) old → IfSome old (λ w. IsTrue (all_fit a w)) → IfSome mid (λ w. IsTrue (all_fit b w)) → IfSome old (λ w. IsTrue (all_fit (a ++ b) w))
next_numbered a b None mid one x y = tt
next_numbered a b (Some w) mid one x y = let z : IsTrue (all_fit b (after_pieces a w)) = rw one at y in fit-append a b w x z

-- pieces, and then more of them
pub wrote_then : (old mid new : SinkState) (a b : List (List ℕ)) → WroteAll old mid a → WroteAll mid new b → WroteAll old new (a ++ b)
wrote_then old mid new a b one two = record {
  took = two.took ∙ ap (λ o. append_known o (joined b)) one.took ∙ append_twice old.taken (joined a) (joined b) ∙ ap (append_known old.taken) (sym (joined-append a b));
  number = next_number a b old.writes mid.writes new.writes one.number two.number;
  numbered = next_numbered a b old.writes mid.writes one.number one.numbered two.numbered;
  faults = two.faults ∙ one.faults;
}

-- none of these pieces was written
pub first_nothing : (s : SinkState) (pieces : List (List ℕ)) → WroteFirst s s pieces
first_nothing s pieces = record { front = []; rest = pieces; is = refl; wrote = wrote_nothing s }

-- the first pieces were written, and no more
pub wrote_first : (old new : SinkState) (a b : List (List ℕ)) → WroteAll old new a → WroteFirst old new (a ++ b)
wrote_first old new a b wrote = record { front = a; rest = b; is = refl; wrote = wrote }

-- a whole was written
pub first_all : (old new : SinkState) (pieces : List (List ℕ)) → WroteAll old new pieces → WroteFirst old new pieces
first_all old new pieces wrote = record { front = pieces; rest = []; is = sym (append-nil pieces); wrote = wrote }

pub first_then : (old mid new : SinkState) (a b : List (List ℕ)) → WroteAll old mid a → WroteFirst mid new b → WroteFirst old new (a ++ b)
first_then old mid new a b one two = record {
  front = a ++ two.front;
  rest = two.rest;
  is = ap (λ xs. a ++ xs) two.is ∙ sym (append_assoc a two.front two.rest);
  wrote = wrote_then old mid new a two.front one two.wrote;
}

pub first_more : (old new : SinkState) (a b : List (List ℕ)) → WroteFirst old new a → WroteFirst old new (a ++ b)
first_more old new a b w = record {
  front = w.front;
  rest = w.rest ++ b;
  is = ap (λ xs. xs ++ b) w.is ∙ append_assoc w.front w.rest b;
  wrote = w.wrote;
}

pub failed_then : (old mid new : SinkState) (a b : List (List ℕ)) → WroteAll old mid a → FailedWrite mid new b → FailedWrite old new (a ++ b)
failed_then old mid new a b one two = record {
  front = a ++ two.front;
  piece = two.piece;
  rest = two.rest;
  is = ap (λ xs. a ++ xs) two.is ∙ sym (append_assoc a two.front (two.piece ∷ two.rest));
  before = two.before;
  wrote = wrote_then old mid two.before a two.front one two.wrote;
  failed = two.failed;
}

pub failed_more : (old new : SinkState) (a b : List (List ℕ)) → FailedWrite old new a → FailedWrite old new (a ++ b)
failed_more old new a b w = record {
  front = w.front;
  piece = w.piece;
  rest = w.rest ++ b;
  is = ap (λ xs. xs ++ b) w.is ∙ append_assoc w.front (w.piece ∷ w.rest) b;
  before = w.before;
  wrote = w.wrote;
  failed = w.failed;
}

-- the write of a first piece failed
pub failed_at : (old new : SinkState) (piece : List ℕ) (rest : List (List ℕ)) → FailedAt old new piece → FailedWrite old new (piece ∷ rest)
failed_at old new piece rest failed = record { front = []; piece = piece; rest = rest; is = refl; before = old; wrote = wrote_nothing old; failed = failed }

-- ---- one write, from the clauses of a sink

not_failing : (b : Bool) (P : Type 0) → (P ↔ IsTrue b) → (P → ⊥) → IsTrue (not b && true)
not_failing true P iff other = absurd (other (iff.1 refl))
not_failing false P iff other = refl

number_one : (piece : List ℕ) (old new : Option Writes) → new ≡ option_map (after_write piece) old → new ≡ option_map (after_pieces (piece ∷ [])) old
number_one piece None new is = is
number_one piece (Some w) new is = is

fits : {T : Type 0} (piece : List ℕ) (x : T) (old : Option Writes) → IfSome old (λ w. IsErrOf {T = T} (Ok x) IoFail ↔ IsTrue (is_failing_write piece w)) → IfSome old (λ w. IsTrue (all_fit (piece ∷ []) w))
fits piece x None numbered = tt
fits piece x (Some w) numbered = not_failing (is_failing_write piece w) _ numbered (λ same. cc)

fails : (T : Type 0) (piece : List ℕ) (same : Type 0) (old : Option Writes) → IfSome old (λ w. IsErrOf {T = T} (Err IoFail) IoFail ↔ IsTrue (is_failing_write piece w)) → (IsSome old → same) → IfSome old (λ w. IsTrue (is_failing_write piece w) × same)
fails T piece same None numbered kept = tt
fails T piece same (Some w) numbered kept = (numbered.0 refl, kept refl)

pub is_write : {T : Type 0} (old new : SinkState) (piece : List ℕ) (r : Result T WriteError) → Takes old.taken new.taken piece r → HasCause IoFail old.faults new.faults r → new.writes ≡ option_map (after_write piece) old.writes → IfSome old.writes (λ w. IsErrOf r IoFail ↔ IsTrue (is_failing_write piece w)) → OnErr r (IsSome old.writes → new.taken ≡ old.taken) → IsWrite old new piece r
is_write old new piece (Ok x) takes cause number numbered untouched = record {
  took = takes ∙ ap (append_known old.taken) (sym (append-nil piece));
  number = number_one piece old.writes new.writes number;
  numbered = fits piece x old.writes numbered;
  faults = cause.kept;
}
is_write {T} old new piece (Err IoFail) takes cause number numbered untouched = record {
  took = takes;
  number = number;
  numbered = fails T piece (new.taken ≡ old.taken) old.writes numbered untouched;
  faults = cause.failed refl;
}

-- ---- where the writes are told

-- where no write fails, all is written
pub written_all : (pieces : List (List ℕ)) (w : Writes) → IsTrue (all_fit pieces w) → written_of pieces w ≡ pieces
written_all [] w fit = refl
written_all (p ∷ pieces) w fit =
    elim (is_failing_write p w) as (λ b. IsTrue (not b && all_fit pieces (after_write p w)) → (if b then [] else p ∷ written_of pieces (after_write p w)) ≡ p ∷ pieces) [
      | true ↦ λ h. cc
      | false ↦ λ h. ap (λ ps. p ∷ ps) (written_all pieces (after_write p w) h)
    ] fit

pub after_all : (pieces : List (List ℕ)) (w : Writes) → IsTrue (all_fit pieces w) → writes_after pieces w ≡ after_pieces pieces w
after_all [] w fit = refl
after_all (p ∷ pieces) w fit =
    elim (is_failing_write p w) as (λ b. IsTrue (not b && all_fit pieces (after_write p w)) → (if b then after_write p w else writes_after pieces (after_write p w)) ≡ after_pieces pieces (after_write p w)) [
      | true ↦ λ h. cc
      | false ↦ λ h. after_all pieces (after_write p w) h
    ] fit

-- up to the first write that fails
module _ (piece : List ℕ) (rest : List (List ℕ)) where
  pub written_up_to : (front : List (List ℕ)) (w : Writes) → IsTrue (all_fit front w) → IsTrue (is_failing_write piece (after_pieces front w)) → written_of (front ++ piece ∷ rest) w ≡ front
  written_up_to [] w fit fail = rw fail refl
  written_up_to (p ∷ front) w fit fail =
      elim (is_failing_write p w) as (λ b. IsTrue (not b && all_fit front (after_write p w)) → (if b then [] else p ∷ written_of (front ++ piece ∷ rest) (after_write p w)) ≡ p ∷ front) [
        | true ↦ λ h. cc
        | false ↦ λ h. ap (λ ps. p ∷ ps) (written_up_to front (after_write p w) h fail)
      ] fit

  pub after_up_to : (front : List (List ℕ)) (w : Writes) → IsTrue (all_fit front w) → IsTrue (is_failing_write piece (after_pieces front w)) → writes_after (front ++ piece ∷ rest) w ≡ after_write piece (after_pieces front w)
  after_up_to [] w fit fail = rw fail refl
  after_up_to (p ∷ front) w fit fail =
      elim (is_failing_write p w) as (λ b. IsTrue (not b && all_fit front (after_write p w)) → (if b then after_write p w else writes_after (front ++ piece ∷ rest) (after_write p w)) ≡ after_write piece (after_pieces front (after_write p w))) [
        | true ↦ λ h. cc
        | false ↦ λ h. after_up_to front (after_write p w) h fail
      ] fit

  pub not_all : (front : List (List ℕ)) (w : Writes) → IsTrue (is_failing_write piece (after_pieces front w)) → all_fit (front ++ piece ∷ rest) w ≡ false
  not_all [] w fail = rw fail refl
  not_all (p ∷ front) w fail = elim (is_failing_write p w) as (λ b. (not b && all_fit (front ++ piece ∷ rest) (after_write p w)) ≡ false) [ true ↦ refl | false ↦ not_all front (after_write p w) fail ]

module _ (old new : SinkState) (pieces : List (List ℕ)) (w : Writes) (told : old.writes ≡ Some w) where
  pub told_all : WroteAll old new pieces → IsTrue (all_fit pieces w) × IsWrittenOut w pieces old new
  told_all wrote =
      let fit : IsTrue (all_fit pieces w) = rw told at wrote.numbered in (
        fit,
        record {
          taken = wrote.took ∙ ap (λ ps. append_known old.taken (joined ps)) (sym (written_all pieces w fit));
          number = wrote.number ∙ ap (option_map (after_pieces pieces)) told ∙ ap Some (sym (after_all pieces w fit));
        },
      )

  pub told_failed : FailedWrite old new pieces → (all_fit pieces w ≡ false) × IsWrittenOut w pieces old new
  told_failed failed =
      let fit : IsTrue (all_fit failed.front w) = rw told at failed.wrote.numbered in
      let at : failed.before.writes ≡ Some (after_pieces failed.front w) = failed.wrote.number ∙ ap (option_map (after_pieces failed.front)) told in
      let fail : IsTrue (is_failing_write failed.piece (after_pieces failed.front w)) × (new.taken ≡ failed.before.taken) = rw at at failed.failed.numbered in (
        rw failed.is (not_all failed.piece failed.rest failed.front w fail.0),
        record {
          taken = fail.1 ∙ failed.wrote.took ∙ ap (λ ps. append_known old.taken (joined ps)) (sym (ap (λ ps. written_of ps w) failed.is ∙ written_up_to failed.piece failed.rest failed.front w fit fail.0));
          number = failed.failed.number ∙ ap (option_map (after_write failed.piece)) at ∙ ap Some (sym (ap (λ ps. writes_after ps w) failed.is ∙ after_up_to failed.piece failed.rest failed.front w fit fail.0));
        },
      )

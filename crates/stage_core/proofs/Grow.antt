-- What a later log still says.
use Rattle.std.proofs.Common.{◌≡◌, ℕ, ◌-◌, ◌≤◌, true, false, ◌||◌, cond, eqb, List, [], ◌∷◌, ◌++◌, Contains, Some, None, option_to_list, refl, sym, ap, ◌∙◌, subst, arith, length-append, append-nil, append_assoc}
use Rattle.std.proofs.lemmas.List.{take-append-le}
use Rattle.std.specs.List.{cons_option}
use Rattle.stage_core.specs.Begins.{Begins}
use Rattle.std.proofs.lemmas.Bool.Decides.{nat_tests}
use Rattle.std.proofs.lemmas.List.Elements.{filter_map-append}
use Rattle.std.proofs.lemmas.List.Folds.{list_any-append}
use Rattle.stage_core.specs.declared.work.StageOut.{Ghosts}
use Rattle.stage_core.specs.Log.{OutcomeValue, Value, Fault, Block, Entry}
use Rattle.stage_core.specs.Machine.{outcome_in, outcomes, is_request_of, is_requested, has_final, is_done_at, first_files, edges, IsKnown, direct_needs, AreNeedsDone, IsOpen}
use Rattle.stage_core.specs.Stages.{Reaches, here, on, stage_needed}

nothing_done : (O : Type 0) (k : ℕ) → 1 ≤ k → is_done_at {O = O} [] k ≡ true → ⊥
unfolding is_done_at has_final
nothing_done O k h d = grind (arith, nat_tests)

module _ {O : Type 0} where
  -- the outcomes of the file that the entry adds
  abbrev pub added : ℕ → Entry O → List (OutcomeValue O)
  added file e = option_to_list (outcome_in file e)

  pub outcomes-push : (log : List (Entry O)) (e : Entry O) (file : ℕ) → outcomes (log ++ e ∷ []) file ≡ outcomes log file ++ added file e
  unfolding outcomes
  outcomes-push log e file =
      let o = outcome_in file e in
      filter_map-append (outcome_in file) log (e ∷ []) ∙ ap (λ (t : List (OutcomeValue O)). outcomes log file ++ t) (elim o as (λ w. cons_option w [] ≡ option_to_list w) [ None ↦ refl | Some x ↦ refl ])

  pub has_final-append : (os more : List (OutcomeValue O)) → has_final (os ++ more) ≡ (has_final os || has_final more)
  unfolding has_final
  has_final-append os more = list_any-append _ os more

  pub done_stays : (os more : List (OutcomeValue O)) (k : ℕ) → is_done_at os k ≡ true → is_done_at (os ++ more) k ≡ true
  unfolding is_done_at
  done_stays os more k h = grind (arith, nat_tests, has_final-append os more, length-append os more)

  first_stays : (files_of : O → List ℕ) (os more : List (OutcomeValue O)) (b : ℕ) → Contains (first_files files_of os) b → Contains (first_files files_of (os ++ more)) b
  first_stays files_of [] more b c = absurd (omega arith)
  first_stays files_of (Value x ∷ os) more b c = c
  first_stays files_of (Fault fault ∷ os) more b c = c
  first_stays files_of (Block ∷ os) more b c = c

  first_same : (files_of : O → List ℕ) (os more : List (OutcomeValue O)) (k : ℕ) → 1 ≤ k → is_done_at os k ≡ true → first_files files_of (os ++ more) ≡ first_files files_of os
  unfolding is_done_at has_final
  first_same files_of [] more k h d = absurd (nothing_done O k h d)
  first_same files_of (Value x ∷ os) more k h d = refl
  first_same files_of (Fault fault ∷ os) more k h d = refl
  first_same files_of (Block ∷ os) more k h d = refl

module _ {O : Type 0} (files_of : O → List ℕ) (log : List (Entry O)) (e : Entry O) where
  pub edges_stay : (a b : ℕ) → Contains (edges files_of log a) b → Contains (edges files_of (log ++ e ∷ []) a) b
  unfolding edges
  edges_stay a b c = subst (λ os. Contains (first_files files_of os) b) (sym (outcomes-push log e a)) (first_stays files_of (outcomes log a) (added a e) b c)

  -- the file is done at some stage, so that its stage 1 is in the log
  pub edges_same : (a k : ℕ) → 1 ≤ k → is_done_at (outcomes log a) k ≡ true → edges files_of (log ++ e ∷ []) a ≡ edges files_of log a
  unfolding edges
  edges_same a k h d = ap (first_files files_of) (outcomes-push log e a) ∙ first_same files_of (outcomes log a) (added a e) k h d

pub Reaches-weaker : (next more : ℕ → List ℕ) → ((a b : ℕ) → Contains (next a) b → Contains (more a) b) → (a b : ℕ) → Reaches next a b → Reaches more a b
Reaches-weaker next more k a b here = here
Reaches-weaker next more k a b (on r h) = on (Reaches-weaker next more k a _ r) (k _ _ h)

-- where each file reached leads where it led before
pub Reaches-back : (next more : ℕ → List ℕ) (a : ℕ) → ((b : ℕ) → Reaches next a b → more b ≡ next b) → (b : ℕ) → Reaches more a b → Reaches next a b
Reaches-back next more a same b here = here
Reaches-back next more a same b (on r h) =
    let r' = Reaches-back next more a same _ r in
    on r' (subst (λ xs. Contains xs b) (same _ r') h)

module _ {O P : Type 0} (g : Ghosts O P) (log : List (Entry O)) (e : Entry O) where
  abbrev later : List (Entry O)
  later = log ++ e ∷ []

  pub requested_stays : (file : ℕ) → is_requested log file ≡ true → is_requested later file ≡ true
  unfolding is_requested
  requested_stays file h = grind (arith, list_any-append (is_request_of file) log (e ∷ []))

  pub known_stays : (file : ℕ) → IsKnown g log file → IsKnown g later file
  known_stays file k = record { from = k.from; requested = requested_stays k.from k.requested; reached = Reaches-weaker (edges g.links log) (edges g.links later) (edges_stay g.links log e) k.from file k.reached }

  pub stage_needed-pos : (file stage other : ℕ) → 2 ≤ stage → 1 ≤ stage_needed file stage other
  stage_needed-pos file stage other h = grind (arith, nat_tests)

  direct_needs_same : (stage a k : ℕ) → 1 ≤ k → is_done_at (outcomes log a) k ≡ true → direct_needs g later stage a ≡ direct_needs g log stage a
  direct_needs_same stage a k h d =
      elim (eqb stage 2) as (λ t. edges (cond t g.walk g.links) later a ≡ edges (cond t g.walk g.links) log a)
      [ true ↦ edges_same g.walk log e a k h d | false ↦ edges_same g.links log e a k h d ]

  pub needs_stay : (file stage : ℕ) → AreNeedsDone g log file stage → AreNeedsDone g later file stage
  needs_stay file stage needs other need =
      let reached : Reaches (direct_needs g log stage) file other =
      Reaches-back (direct_needs g log stage) (direct_needs g later stage) file (λ b r. direct_needs_same stage b (stage_needed file stage b) (stage_needed-pos file stage b need.above) (needs b (record { above = need.above; reached = r }))) other need.reached in
      subst (λ os. is_done_at os (stage_needed file stage other) ≡ true) (sym (outcomes-push log e other))
      (done_stays (outcomes log other) (added other e) _ (needs other (record { above = need.above; reached = reached })))

  pub open_stays : (file stage : ℕ) → IsOpen g log file stage → IsOpen g later file stage
  open_stays file stage o =
      let same = outcomes-push log e file in
      record {
        known = known_stays file o.known;
        from_one = o.from_one;
        to_five = o.to_five;
        begun = rw same (omega (arith, o.begun, length-append (outcomes log file) (added file e)));
        earlier_done = rw (same, take-append-le (stage - 1) (outcomes log file) (added file e) (omega (arith, o.begun))) o.earlier_done;
        needs = needs_stay file stage o.needs;
      }

-- an open task is open in each log that goes on from this one
pub open_after : {O P : Type 0} (g : Ghosts O P) (log rest : List (Entry O)) (file stage : ℕ) → IsOpen g log file stage → IsOpen g (log ++ rest) file stage
open_after g log [] file stage o = rw append-nil o
open_after g log (e ∷ rest) file stage o =
    rw append_assoc at (open_after g (log ++ e ∷ []) rest file stage (open_stays g log e file stage o))

pub open_later : {O P : Type 0} (g : Ghosts O P) (log later : List (Entry O)) (file stage : ℕ) → Begins log later → IsOpen g log file stage → IsOpen g later file stage
open_later g log _ file stage p o = subst (λ l. IsOpen g l file stage) p.joins (open_after g log p.rest file stage o)

-- what a log says of a file, each log that begins with it says too
pub outcomes_begin : {O : Type 0} (log later : List (Entry O)) (file : ℕ) → Begins log later → Begins (outcomes log file) (outcomes later file)
unfolding outcomes
outcomes_begin log later file b = record { rest = outcomes b.rest file; joins = sym (filter_map-append (outcome_in file) log b.rest) ∙ ap (λ l. outcomes l file) b.joins }

pub done_later : {O : Type 0} (log later : List (Entry O)) (file stage : ℕ) → Begins log later → is_done_at (outcomes log file) stage ≡ true → is_done_at (outcomes later file) stage ≡ true
done_later log later file stage b h =
    let os = outcomes_begin log later file b in
    subst (λ xs. is_done_at xs stage ≡ true) os.joins (done_stays (outcomes log file) os.rest stage h)

known_after : {O P : Type 0} (g : Ghosts O P) (log rest : List (Entry O)) (file : ℕ) → IsKnown g log file → IsKnown g (log ++ rest) file
known_after g log [] file k = rw append-nil k
known_after g log (e ∷ rest) file k = rw append_assoc at (known_after g (log ++ e ∷ []) rest file (known_stays g log e file k))

pub known_later : {O P : Type 0} (g : Ghosts O P) (log later : List (Entry O)) (file : ℕ) → Begins log later → IsKnown g log file → IsKnown g later file
known_later g log _ file b k = subst (λ l. IsKnown g l file) b.joins (known_after g log b.rest file k)

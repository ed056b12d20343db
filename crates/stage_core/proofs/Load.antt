-- The load of a file, by the log.
use Rattle.std.proofs.Common.{◌≡◌, ◌≢◌, ◌⊎◌, inl, inr, ℕ, zero, suc, ◌+◌, ◌<◌, ◌≤◌, ◌↔◌, true, false, true≢false, cond, eqb, List, [], ◌∷◌, length, filter, filter_map, map, Contains, Some, slice_get, refl, sym, ap, ◌∙◌, subst, arith}
use Rattle.std.specs.declared.cmp.Ordering.TheVariants.{Less}
use Rattle.std.specs.Option.{is_some}
use Rattle.std.proofs.lemmas.Bool.Decides.{nat_tests, eqb_tells}
use Rattle.std.proofs.lemmas.List.Kept.{IsStrictlySortedBy-filter}
use Rattle.gd_syntax.specs.declared.fault.LoadFault.{LoadFault}
use Rattle.stage_core.specs.declared.work.StageOut.{Ghosts}
use Rattle.stage_core.specs.declared.work.StageValue.TheVariants as stage_value
use Rattle.stage_core.specs.declared.status.RefStatus.{RefStatus}
use Rattle.stage_core.specs.declared.status.RefStatus.TheVariants as status
use Rattle.stage_core.specs.FileSets.{is_in, files_below}
use Rattle.stage_core.specs.Load.{InClosure, HasFault, AreByPath, AreResults, AreFaults, fault_entry, result_entry, done_value}
use Rattle.stage_core.specs.Log.{OutcomeValue, Value, Fault, Block, Entry}
use Rattle.stage_core.specs.Machine.{outcomes, is_final, has_final, is_done_at, first_files, edges, HoldsValue, IsLegal}
use Rattle.stage_core.specs.Paths.{path_order}
use Rattle.stage_core.specs.Stages.{Reaches, here, on, if_done, is_stop, value_edges, IsBlockedBy}
use Rattle.stage_core.specs.Status.{stage_status, final_or, status_of, status_fault}
use Rattle.stage_core.proofs.Collect.{ordered, ordered_from, ordered_to, given_from, given_to, firsts_filter, filter_all, own_pair, files_sorted, pair_ap, at_head}
use Rattle.stage_core.proofs.Grow.{Reaches-weaker, Reaches-back}
use Rattle.stage_core.proofs.Legal.{Laws, AreValues, values_hold, five_at_most}
use Rattle.stage_core.proofs.NeedOutcomes.{some_outcome}
use Rattle.stage_core.proofs.NeedValues.{item_at, value_at, ended_at, value_edges_same}
use Rattle.stage_core.proofs.Progress.{fails_or}
use Rattle.stage_core.proofs.Reach.{Reaches-joins}

-- the laws of the trait on refusals and paths
pub record LoadLaws {O P : Type 0} (g : Ghosts O P) : Type 0 where
  pub absent_after : (p : P) (f j k : ℕ) → f < g.files p → 1 ≤ j → j < k → k ≤ 5 → g.value p f j ≢ stage_value.Done → g.value p f k ≡ stage_value.Absent
  pub blocked_by : (p : P) (f k : ℕ) → f < g.files p → 1 ≤ k → k ≤ 5 → g.value p f k ≡ stage_value.Blocked → IsBlockedBy (g.value p) (g.file_links p) (g.file_walk p) f k
  pub paths_ascend : (p : P) (f h : ℕ) → f < h → h < g.files p → path_order (g.path p f) (g.path p h) ≡ Less

stage_not_refused : (n : ℕ) (fault : LoadFault) → stage_status n ≡ status.Refused fault → ⊥
stage_not_refused zero fault e = cc
stage_not_refused (suc zero) fault e = cc
stage_not_refused (suc (suc zero)) fault e = cc
stage_not_refused (suc (suc (suc zero))) fault e = cc
stage_not_refused (suc (suc (suc (suc zero)))) fault e = cc
stage_not_refused (suc (suc (suc (suc (suc n))))) fault e = cc

fault_is : (s : RefStatus) (fault : LoadFault) → status_fault s ≡ Some fault → s ≡ status.Refused fault
fault_is status.Empty fault e = cc
fault_is status.Parsed fault e = cc
fault_is status.InheritanceSolved fault e = cc
fault_is status.InterfaceSolved fault e = cc
fault_is status.FullySolved fault e = cc
fault_is status.Compiled fault e = cc
fault_is (status.Refused x) fault e = let same : x ≡ fault = cc in ap status.Refused same
fault_is status.Blocked fault e = cc

-- a finished file has five outcomes, or one that is final
done_cases : {O : Type 0} (os : List (OutcomeValue O)) → is_done_at os 5 ≡ true → (5 ≤ length os) ⊎ (has_final os ≡ true)
unfolding is_done_at
done_cases os h =
    elim (has_final os) as (λ b. has_final os ≡ b → (5 ≤ length os) ⊎ (has_final os ≡ true)) [ true ↦ λ e. inr e | false ↦ λ e. inl (grind (arith, nat_tests)) ] refl

-- a file that leads on has an outcome
some_edges : {O : Type 0} (files_of : O → List ℕ) (os : List (OutcomeValue O)) (b : ℕ) → Contains (first_files files_of os) b → 1 ≤ length os
some_edges files_of [] b c = absurd (omega arith)
some_edges files_of (o ∷ os) b c = omega arith

fault_own : {O : Type 0} (log : List (Entry O)) (b : ℕ) (r : ℕ × LoadFault) → fault_entry log b ≡ Some r → r.0 ≡ b
unfolding fault_entry
fault_own log b r e = (own_pair b (status_fault (status_of (outcomes log b))) r e).0

result_own : {O : Type 0} (log : List (Entry O)) (b : ℕ) (r : ℕ × O) → result_entry log b ≡ Some r → (r.0 ≡ b) × (done_value (slice_get (outcomes log b) 4) ≡ Some r.1)
unfolding result_entry
result_own log b r e = own_pair b (done_value (slice_get (outcomes log b) 4)) r e

module _ {O P : Type 0} (g : Ghosts O P) (laws : Laws g) (more : LoadLaws g) (project : P) where
  -- what the file's first refusal is, by its outcomes from the stage after k
  module _ (file : ℕ) (in_range : file < g.files project) where
    status_refused : (k : ℕ) (os : List (OutcomeValue O)) (n j : ℕ) (fault : LoadFault) → AreValues g project file k os → k < j → j ≤ 5 → g.value project file j ≡ stage_value.Refused fault → (5 ≤ k + length os) ⊎ (has_final os ≡ true) → final_or (filter is_final os) n ≡ status.Refused fault
    unfolding has_final
    status_refused k [] n j fault v above five refused (inl h) = absurd (omega arith)
    status_refused k [] n j fault v above five refused (inr e) = cc
    status_refused k (Value x ∷ os) n j fault v above five refused done =
        elim (eqb_tells j (suc k)) [
          | inl w ↦ let e : g.value project file (suc k) ≡ stage_value.Refused fault = subst (λ z. g.value project file z ≡ stage_value.Refused fault) w.1 refused in let d = v.0.0 in cc
          | inr w ↦ status_refused (suc k) os n j fault v.1 (omega (arith, w.1)) five refused (elim done [ inl h ↦ inl (omega arith) | inr e ↦ inr e ])
        ]
    status_refused k (Fault f ∷ os) n j fault v above five refused done =
        elim (eqb_tells j (suc k)) [
          | inl w ↦ let e : g.value project file (suc k) ≡ stage_value.Refused fault = subst (λ z. g.value project file z ≡ stage_value.Refused fault) w.1 refused in let d : stage_value.Refused f ≡ stage_value.Refused fault = sym v.0 ∙ e in let same : f ≡ fault = cc in ap status.Refused same
          | inr w ↦ let d = v.0 in let a = more.absent_after project file (suc k) j in_range (omega arith) (omega (arith, w.1)) five (λ bad. cc) in cc
        ]
    status_refused k (Block ∷ os) n j fault v above five refused done =
        elim (eqb_tells j (suc k)) [
          | inl w ↦ let e : g.value project file (suc k) ≡ stage_value.Refused fault = subst (λ z. g.value project file z ≡ stage_value.Refused fault) w.1 refused in let d = v.0 in cc
          | inr w ↦ let d = v.0 in let a = more.absent_after project file (suc k) j in_range (omega arith) (omega (arith, w.1)) five (λ bad. cc) in cc
        ]

    -- the stage that a status of refusal tells
    refused_at : (k : ℕ) (os : List (OutcomeValue O)) (n : ℕ) (fault : LoadFault) → AreValues g project file k os → final_or (filter is_final os) n ≡ status.Refused fault → (j : ℕ) × (k < j) × (j ≤ k + length os) × (g.value project file j ≡ stage_value.Refused fault)
    refused_at k [] n fault v e = absurd (stage_not_refused n fault e)
    refused_at k (Value x ∷ os) n fault v e = let r = refused_at (suc k) os n fault v.1 e in (r.0, omega (arith, r.1), omega (arith, r.2), r.3)
    refused_at k (Fault f ∷ os) n fault v e = let same : f ≡ fault = cc in (suc k, omega arith, omega arith, v.0 ∙ ap stage_value.Refused same)
    refused_at k (Block ∷ os) n fault v e = cc

    -- a final outcome refuses the file or blocks it
    final_cases : (k : ℕ) (os : List (OutcomeValue O)) → AreValues g project file k os → has_final os ≡ true → (j : ℕ) × (k < j) × (j ≤ k + length os) × (is_stop (g.value project file j) ≡ true)
    unfolding has_final
    final_cases k [] v e = cc
    final_cases k (Value x ∷ os) v e = let r = final_cases (suc k) os v.1 e in (r.0, omega (arith, r.1), omega (arith, r.2), r.3)
    final_cases k (Fault f ∷ os) v e = (suc k, omega arith, omega arith, rw v.0 refl)
    final_cases k (Block ∷ os) v e = (suc k, omega arith, omega arith, rw v.0 refl)

  -- an outcome of stage 5 that is not final
  of_last : (b : ℕ) (os : List (OutcomeValue O)) (o : OutcomeValue O) → slice_get os 4 ≡ Some o → is_final o ≡ false → HoldsValue g project b 5 o → (x : O) × (done_value (slice_get os 4) ≡ Some x) × HoldsValue g project b 5 (Value x)
  of_last b os (Value x) e f h = (x, ap done_value e, h)
  of_last b os (Fault fault) e f h = cc
  of_last b os Block e f h = cc

  -- what the walk reaches is in the closure
  walk_edge : (a b : ℕ) → Contains (value_edges (g.value project) (g.file_walk project) a) b → (b ≡ a) ⊎ Contains (value_edges (g.value project) (g.file_links project) a) b
  unfolding value_edges
  walk_edge a b =
      elim (g.value project a 1) as (λ v. Contains (if_done v (g.file_walk project a)) b → (b ≡ a) ⊎ Contains (if_done v (g.file_links project a)) b) [
        | stage_value.Done ↦ laws.walk_within_links project a b
        | stage_value.Refused fault ↦ λ c. absurd (omega arith)
        | stage_value.Blocked ↦ λ c. absurd (omega arith)
        | stage_value.Absent ↦ λ c. absurd (omega arith)
      ]

  walk_in_closure : (a b : ℕ) → Reaches (value_edges (g.value project) (g.file_walk project)) a b → InClosure g project a b
  walk_in_closure a b here = here
  walk_in_closure a b (on r h) =
      let r' = walk_in_closure a _ r in
      elim (walk_edge _ b h) [ inl e ↦ subst (λ z. InClosure g project a z) (sym e) r' | inr d ↦ on r' d ]

  needs_in_closure : (stage a b : ℕ) → Reaches (value_edges (g.value project) (cond (eqb stage 2) (g.file_walk project) (g.file_links project))) a b → InClosure g project a b
  needs_in_closure stage a b =
      elim (eqb stage 2) as (λ t. Reaches (value_edges (g.value project) (cond t (g.file_walk project) (g.file_links project))) a b → InClosure g project a b)
      [ true ↦ walk_in_closure a b | false ↦ λ r. r ]

  edge_in_range : (a b : ℕ) → Contains (value_edges (g.value project) (g.file_links project) a) b → b < g.files project
  unfolding value_edges
  edge_in_range a b =
      elim (g.value project a 1) as (λ v. Contains (if_done v (g.file_links project a)) b → b < g.files project) [
        | stage_value.Done ↦ laws.links_in_range project a b
        | stage_value.Refused fault ↦ λ c. absurd (omega arith)
        | stage_value.Blocked ↦ λ c. absurd (omega arith)
        | stage_value.Absent ↦ λ c. absurd (omega arith)
      ]

  module _ (file : ℕ) (in_range : file < g.files project) where
    closure_in_range : (b : ℕ) → InClosure g project file b → b < g.files project
    closure_in_range b here = in_range
    closure_in_range b (on r h) = edge_in_range _ b h

    -- where no file of the closure has a fault, none is blocked
    module _ (no_fault : (other : ℕ) (fault : LoadFault) → InClosure g project file other → HasFault g project other fault → ⊥) where
      no_stop : (fuel b k : ℕ) → k < fuel → InClosure g project file b → 1 ≤ k → k ≤ 5 → is_stop (g.value project b k) ≡ true → ⊥
      no_stop zero b k l c one five = absurd (omega arith)
      no_stop (suc fuel) b k l c one five =
          elim (g.value project b k) as (λ v. g.value project b k ≡ v → is_stop v ≡ true → ⊥) [
            | stage_value.Done ↦ λ e s. cc
            | stage_value.Refused fault ↦ λ e s. no_fault b fault c (record { stage = k; from_one = one; to_five = five; refused = e })
            | stage_value.Blocked ↦ λ e s.
                let by = more.blocked_by project b k (closure_in_range b c) one five e in
                let c' = Reaches-joins (value_edges (g.value project) (g.file_links project)) file b by.other c (needs_in_closure k b by.other by.needed.reached) in
                no_stop fuel by.other by.at (omega (arith, by.earlier)) c' by.from_one (omega (arith, by.earlier)) by.stopped
            | stage_value.Absent ↦ λ e s. cc
          ] refl

      -- a finished file of the closure has a result of stage 5
      compiled_at : (b : ℕ) (os : List (OutcomeValue O)) → InClosure g project file b → AreValues g project b 0 os → length os ≤ 5 → is_done_at os 5 ≡ true → (x : O) × (done_value (slice_get os 4) ≡ Some x) × HoldsValue g project b 5 (Value x)
      compiled_at b os c v five done =
          let open_ended : has_final os ≡ false =
          elim (has_final os) as (λ t. has_final os ≡ t → t ≡ false) [
            | true ↦ λ e. absurd (let r = final_cases b (closure_in_range b c) 0 os v e in no_stop (r.0 + 1) b r.0 (omega arith) c (omega (arith, r.1)) (omega (arith, r.2)) r.3)
            | false ↦ λ e. refl
          ] refl in
          let long : 5 ≤ length os = elim (done_cases os done) [ inl l ↦ l | inr e ↦ absurd (true≢false (sym e ∙ open_ended)) ] in
          let last = item_at os 4 (omega arith) in
          of_last b os last.0 last.1 (ended_at g project os open_ended 4 last.0 last.1) (value_at g project b 0 os v 4 last.0 last.1)

  module _ (log : List (Entry O)) (legal : IsLegal g project log) where
    edge_is_value : (a b : ℕ) → Contains (edges g.links log a) b → Contains (value_edges (g.value project) (g.file_links project) a) b
    unfolding edges
    edge_is_value a b c = subst (λ xs. Contains xs b) (sym (value_edges_same g project laws log legal 3 a (some_edges g.links (outcomes log a) b c))) c

    -- what the log has of the closure is in the closure
    log_in_closure : (a b : ℕ) → Reaches (edges g.links log) a b → InClosure g project a b
    log_in_closure a b r = Reaches-weaker (edges g.links log) (value_edges (g.value project) (g.file_links project)) edge_is_value a b r

    pub unfinished : (file : ℕ) (closure : List ℕ) → ((b : ℕ) → Contains closure b → Reaches (edges g.links log) file b) → (((b : ℕ) → Contains closure b → is_done_at (outcomes log b) 5 ≡ true) → ⊥) → (b : ℕ) × InClosure g project file b × (is_done_at (outcomes log b) 5 ≡ false)
    unfinished file closure reached undone =
        elim (fails_or (λ b. is_done_at (outcomes log b) 5) closure) [ inl u ↦ (u.at, log_in_closure file u.at (reached u.at u.among), u.fails) | inr d ↦ absurd (undone d) ]

    -- the closure, once each file is finished
    module _ (file : ℕ) (in_range : file < g.files project) (closure : List ℕ) (reached : (b : ℕ) → Contains closure b ↔ Reaches (edges g.links log) file b) (done : (b : ℕ) → Contains closure b → is_done_at (outcomes log b) 5 ≡ true) where
      same : (b : ℕ) → Reaches (edges g.links log) file b → value_edges (g.value project) (g.file_links project) b ≡ edges g.links log b
      same b r = value_edges_same g project laws log legal 3 b (some_outcome (outcomes log b) 5 (omega arith) (done b ((reached b).1 r)))

      closure_from : (b : ℕ) → Contains closure b → InClosure g project file b
      closure_from b c = log_in_closure file b ((reached b).0 c)

      closure_to : (b : ℕ) → InClosure g project file b → Contains closure b
      closure_to b c = (reached b).1 (Reaches-back (edges g.links log) (value_edges (g.value project) (g.file_links project)) file same b c)

      pub finished : (other : ℕ) → InClosure g project file other → is_done_at (outcomes log other) 5 ≡ true
      finished other c = done other (closure_to other c)

      fault_to : (b : ℕ) (fault : LoadFault) → InClosure g project file b → HasFault g project b fault → fault_entry log b ≡ Some (b, fault)
      unfolding fault_entry status_of
      fault_to b fault c h =
          let os = outcomes log b in
          let s : status_of os ≡ status.Refused fault = status_refused b (closure_in_range file in_range b c) 0 os (length os) h.stage fault (values_hold g project log legal b) (omega (arith, h.from_one)) h.to_five h.refused (elim (done_cases os (finished b c)) [ inl l ↦ inl (omega arith) | inr e ↦ inr e ]) in
          pair_ap b _ _ (ap status_fault s)

      fault_from : (b : ℕ) (r : ℕ × LoadFault) → InClosure g project file b → fault_entry log b ≡ Some r → (r.0 ≡ b) × HasFault g project b r.1
      unfolding fault_entry status_of
      fault_from b r c e =
          let os = outcomes log b in
          let own = own_pair b (status_fault (status_of os)) r e in
          let at = refused_at b (closure_in_range file in_range b c) 0 os (length os) r.1 (values_hold g project log legal b) (fault_is (status_of os) r.1 own.1) in
          (own.0, record { stage = at.0; from_one = omega (arith, at.1); to_five = omega (arith, at.2, five_at_most g project log legal b); refused = at.3 })

      abbrev members : List ℕ
      members = ordered closure (g.files project)

      member_from : (b : ℕ) → Contains members b → InClosure g project file b
      member_from b c = closure_from b (ordered_from closure (g.files project) b c)

      member_to : (b : ℕ) → InClosure g project file b → Contains members b
      member_to b c = ordered_to closure (g.files project) b (closure_in_range file in_range b c) (closure_to b c)

      members_by_path : AreByPath g project members
      members_by_path = IsStrictlySortedBy-filter (λ f h. path_order (g.path project f) (g.path project h)) (λ f. is_in f closure) (files_below (g.files project)) (files_sorted (λ f h. path_order (g.path project f) (g.path project h)) (g.files project) (g.files project) (omega arith) (more.paths_ascend project))

      abbrev faults : List (ℕ × LoadFault)
      faults = filter_map (fault_entry log) members

      some_member : (xs : List (ℕ × LoadFault)) → xs ≢ [] → (r : ℕ × LoadFault) × Contains xs r
      some_member [] h = absurd (h refl)
      some_member (x ∷ xs) h = (x, at_head x xs)

      pub are_faults : faults ≢ [] → AreFaults g project file faults
      are_faults some =
          let first = some_member faults some in
          let given = given_from (fault_entry log) members first.0 first.1 in
          let in_closure = member_from given.0 given.1 in
          record {
            some = (given.0, first.0.1, in_closure, (fault_from given.0 first.0 in_closure given.2).1);
            each = λ other fault. (
              λ c. let w = given_from (fault_entry log) members (other, fault) c in
                  let w_in = member_from w.0 w.1 in
                  let own = fault_from w.0 (other, fault) w_in w.2 in
                  (subst (λ z. InClosure g project file z) (sym own.0) w_in, subst (λ z. HasFault g project z fault) (sym own.0) own.1),
              λ h. given_to (fault_entry log) members (other, fault) other (member_to other h.0) (fault_to other fault h.0 h.1),
            );
            by_path = subst (AreByPath g project) (sym (firsts_filter (fault_entry log) members (fault_own log)))
                (IsStrictlySortedBy-filter (λ f h. path_order (g.path project f) (g.path project h)) (λ b. is_some (fault_entry log b)) members members_by_path);
          }

      module _ (none : faults ≡ []) where
        no_fault : (other : ℕ) (fault : LoadFault) → InClosure g project file other → HasFault g project other fault → ⊥
        no_fault other fault c h = let there = subst (λ xs. Contains xs (other, fault)) none (given_to (fault_entry log) members (other, fault) other (member_to other c) (fault_to other fault c h)) in omega arith

        abbrev results : List (ℕ × O)
        results = filter_map (result_entry log) members

        result_of : (b : ℕ) → InClosure g project file b → (x : O) × (done_value (slice_get (outcomes log b) 4) ≡ Some x) × HoldsValue g project b 5 (Value x)
        result_of b c = compiled_at file in_range no_fault b (outcomes log b) c (values_hold g project log legal b) (five_at_most g project log legal b) (finished b c)

        entry_of_result : (b : ℕ) → InClosure g project file b → (x : O) × (result_entry log b ≡ Some (b, x))
        unfolding result_entry
        entry_of_result b c = let r = result_of b c in (r.0, pair_ap b _ _ r.1)

        firsts : map (λ r. r.0) results ≡ members
        firsts = firsts_filter (result_entry log) members (λ b r e. (result_own log b r e).0)
            ∙ filter_all (λ b. is_some (result_entry log b)) members (λ b c. let r = entry_of_result b (member_from b c) in ap is_some r.1)

        holds : (other : ℕ) (x : O) → Contains results (other, x) → HoldsValue g project other 5 (Value x)
        holds other x c =
            let w = given_from (result_entry log) members (other, x) c in
            let own = result_own log w.0 (other, x) w.2 in
            let r = result_of w.0 (member_from w.0 w.1) in
            let same_value : r.0 ≡ x = let e = r.1 in let e' = own.1 in cc in
            subst (λ z. HoldsValue g project z 5 (Value x)) (sym own.0) (subst (λ y. HoldsValue g project w.0 5 (Value y)) same_value r.2)

        pub are_results : AreResults g project file results
        are_results = record {
          no_fault = no_fault;
          each = λ other. (λ c. member_from other (subst (λ xs. Contains xs other) firsts c), λ c. subst (λ xs. Contains xs other) (sym firsts) (member_to other c));
          by_path = subst (AreByPath g project) (sym firsts) members_by_path;
          hold = holds;
        }

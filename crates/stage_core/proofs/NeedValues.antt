-- What a task gets by the log are the values that its project gives.
use Rattle.std.proofs.Common.{◌≡◌, ℕ, zero, suc, ◌+◌, ◌-◌, ◌<◌, ◌≤◌, inl, inr, true, false, cond, eqb, min, List, [], ◌∷◌, ◌++◌, length, take, map, Contains, Some, slice_get, refl, sym, subst, subst₂, arith, append-nil, length-append, get_or, take_all}
use Rattle.std.proofs.lemmas.Bool.Decides.{nat_tests, eqb_tells}
use Rattle.std.proofs.lemmas.List.Elements.{Contains-append_right}
use Rattle.stage_core.specs.declared.work.StageOut.{Ghosts}
use Rattle.stage_core.specs.declared.work.StageValue.TheVariants as stage_value
use Rattle.stage_core.specs.declared.work.Need.{Need}
use Rattle.stage_core.specs.Log.{OutcomeValue, Value, Fault, Block, Entry, Request, Claim, Publish, value_of}
use Rattle.stage_core.specs.Machine.{IsOpen, outcomes, has_final, is_final, is_done_at, first_files, edges, direct_needs, AreNeedsDone, HoldsValue, MayFollow, IsLegal, empty, grows}
use Rattle.stage_core.specs.Stages.{Reaches, here, on, stage_needed, if_done, value_edges}
use Rattle.stage_core.specs.Needs.{outcome_for, AreNeeds}
use Rattle.stage_core.specs.Value.{IsTaskOf, HoldsUpTo, AreNeedsOf}
use Rattle.stage_core.proofs.Grow.{added, outcomes-push, Reaches-back}
use Rattle.stage_core.proofs.Legal.{Laws, AreValues, values_hold, known_in}
use Rattle.stage_core.proofs.NeedOutcomes.{in_place, needed_pos, some_outcome}
use Rattle.stage_core.proofs.Reach.{none_twice}

in_map : {X : Type 0} (f : X → ℕ) (xs : List X) (k : ℕ) (d : X) → k < length xs → Contains (map f xs) (f (get_or xs k d))
in_map f [] k d l = absurd (omega arith)
in_map f (x ∷ xs) zero d l = (0, omega arith, refl)
in_map f (x ∷ xs) (suc k) d l = Contains-append_right (f x ∷ []) (map f xs) _ (in_map f xs k d (omega arith))

pub item_at : {X : Type 0} (xs : List X) (i : ℕ) → i < length xs → (x : X) × (slice_get xs i ≡ Some x)
item_at [] i l = absurd (omega arith)
item_at (x ∷ xs) zero l = (x, refl)
item_at (x ∷ xs) (suc i) l = item_at xs i (omega arith)

get_take : {X : Type 0} (xs : List X) (n i : ℕ) (x : X) → i < n → slice_get xs i ≡ Some x → slice_get (take n xs) i ≡ Some x
get_take xs zero i x l e = absurd (omega arith)
get_take [] (suc n) i x l e = e
get_take (y ∷ xs) (suc n) zero x l e = e
get_take (y ∷ xs) (suc n) (suc i) x l e = get_take xs n i x (omega arith) e

ended_if : {O : Type 0} (os : List (OutcomeValue O)) (stage : ℕ) → is_done_at os stage ≡ true → length os < stage → has_final os ≡ true
unfolding is_done_at
ended_if os stage h l = grind (arith, nat_tests)

-- where each file reached leads where it leads by the other
pub Reaches-on : (next more : ℕ → List ℕ) (a : ℕ) → ((b : ℕ) → Reaches next a b → more b ≡ next b) → (b : ℕ) → Reaches next a b → Reaches more a b
Reaches-on next more a same b here = here
Reaches-on next more a same b (on r h) = on (Reaches-on next more a same _ r) (subst (λ xs. Contains xs b) (sym (same _ r)) h)

module _ {O P : Type 0} (g : Ghosts O P) (project : P) where
  -- the outcome at a place holds the value of that stage
  pub value_at : (file k : ℕ) (os : List (OutcomeValue O)) → AreValues g project file k os → (i : ℕ) (o : OutcomeValue O) → slice_get os i ≡ Some o → HoldsValue g project file (k + i + 1) o
  value_at file k [] v i o e = cc
  value_at file k (x ∷ os) v zero o e = subst₂ (λ n w. HoldsValue g project file n w) (let n : suc k ≡ k + 0 + 1 = omega arith in n) (let s : x ≡ o = cc in s) v.0
  value_at file k (x ∷ os) v (suc i) o e = subst (λ n. HoldsValue g project file n o) (let n : suc k + i + 1 ≡ k + suc i + 1 = omega arith in n) (value_at file (suc k) os v.1 i o e)

  -- only the last outcome is final
  pub front : List (OutcomeValue O) → Type 0
  front os = (i : ℕ) (o : OutcomeValue O) → slice_get os i ≡ Some o → i + 1 < length os → is_final o ≡ false

  pub ended_at : (os : List (OutcomeValue O)) → has_final os ≡ false → (i : ℕ) (o : OutcomeValue O) → slice_get os i ≡ Some o → is_final o ≡ false
  unfolding has_final
  ended_at [] h i o e = cc
  ended_at (x ∷ os) h zero o e = subst (λ w. is_final w ≡ false) (let s : x ≡ o = cc in s) (grind arith)
  ended_at (x ∷ os) h (suc i) o e = ended_at os (grind arith) i o e

  get_push : (os : List (OutcomeValue O)) (w : OutcomeValue O) (i : ℕ) (o : OutcomeValue O) → slice_get (os ++ w ∷ []) i ≡ Some o → i < length os → slice_get os i ≡ Some o
  get_push [] w i o e l = absurd (omega arith)
  get_push (x ∷ os) w zero o e l = e
  get_push (x ∷ os) w (suc i) o e l = get_push os w i o e (omega arith)

  fronts-grow : (log : List (Entry O)) (e : Entry O) → MayFollow g project log e → (file : ℕ) → front (outcomes log file) → front (outcomes log file ++ added file e)
  unfolding front
  fronts-grow log (Request f) m file h = subst front (sym (append-nil (outcomes log file))) h
  fronts-grow log (Claim f k) m file h = subst front (sym (append-nil (outcomes log file))) h
  fronts-grow log (Publish f k o) m file h =
      elim (eqb_tells f file) [
        | inl w ↦ rw w.0 (λ i x e l.
            let os = outcomes log file in
            let short : i < length os = omega (arith, length-append os (o ∷ [])) in
            let stage : k ≡ length os + 1 = subst (λ z. k ≡ length (outcomes log z) + 1) w.1 m.1 in
            let earlier_done : has_final os ≡ false = rw (take_all (k - 1) os (omega arith)) at (subst (λ z. has_final (take (k - 1) (outcomes log z)) ≡ false) w.1 m.0.earlier_done) in
            ended_at os earlier_done i x (get_push os o i x e short))
        | inr w ↦ rw w.0 (subst front (sym (append-nil (outcomes log file))) h)
      ]

  pub fronts : (log : List (Entry O)) → IsLegal g project log → (file : ℕ) → front (outcomes log file)
  unfolding outcomes front
  fronts log empty file = λ i o e l. cc
  fronts log (grows old e l m) file = subst front (sym (outcomes-push old e file)) (fronts-grow old e m file (fronts old l file))

  -- an outcome of a list that has ended, at its last place, is final
  last_ends : (os : List (OutcomeValue O)) → front os → has_final os ≡ true → (i : ℕ) (o : OutcomeValue O) → slice_get os i ≡ Some o → i + 1 ≡ length os → is_final o ≡ true
  unfolding has_final front
  last_ends [] f h i o e l = cc
  last_ends (x ∷ []) f h zero o e l = subst (λ w. is_final w ≡ true) (let s : x ≡ o = cc in s) (grind arith)
  last_ends (x ∷ []) f h (suc i) o e l = cc
  last_ends (x ∷ y ∷ os) f h zero o e l = absurd (omega arith)
  last_ends (x ∷ y ∷ os) f h (suc i) o e l =
      let not_first : is_final x ≡ false = f 0 x refl (omega arith) in
      last_ends (y ∷ os) (λ j w e' l'. f (suc j) w e' (omega arith)) (grind arith) i o e (omega arith)

  gives : (file k : ℕ) (o : OutcomeValue O) → is_final o ≡ false → HoldsValue g project file k o → g.value project file k ≡ stage_value.Done
  gives file k (Value x) e h = h.0
  gives file k (Fault fault) e h = cc
  gives file k Block e h = cc

  earlier_gives : (file stage k : ℕ) (os : List (OutcomeValue O)) → AreValues g project file 0 os → 1 ≤ k → k < stage → stage ≤ length os + 1 → has_final (take (stage - 1) os) ≡ false → g.value project file k ≡ stage_value.Done
  earlier_gives file stage k os v one less begun earlier_done =
      let w = item_at os (k - 1) (omega arith) in
      let there : slice_get (take (stage - 1) os) (k - 1) ≡ Some w.0 = get_take os (stage - 1) (k - 1) w.0 (omega arith) w.1 in
      gives file k w.0 (ended_at (take (stage - 1) os) earlier_done (k - 1) w.0 there)
      (subst (λ n. HoldsValue g project file n w.0) (let n : 0 + (k - 1) + 1 ≡ k = omega arith in n) (value_at file 0 os v (k - 1) w.0 w.1))

  module _ (laws : Laws g) (log : List (Entry O)) (legal : IsLegal g project log) where
    first_links : (file : ℕ) (os : List (OutcomeValue O)) → AreValues g project file 0 os → 1 ≤ length os → if_done (g.value project file 1) (g.file_links project file) ≡ first_files g.links os
    first_links file [] v l = absurd (omega arith)
    first_links file (Value x ∷ os) v l = rw v.0.0 (sym (laws.links_of_value project file x v.0.1))
    first_links file (Fault fault ∷ os) v l = rw v.0 refl
    first_links file (Block ∷ os) v l = rw v.0 refl

    first_walk : (file : ℕ) (os : List (OutcomeValue O)) → AreValues g project file 0 os → 1 ≤ length os → if_done (g.value project file 1) (g.file_walk project file) ≡ first_files g.walk os
    first_walk file [] v l = absurd (omega arith)
    first_walk file (Value x ∷ os) v l = rw v.0.0 (sym (laws.walk_of_value project file x v.0.1))
    first_walk file (Fault fault ∷ os) v l = rw v.0 refl
    first_walk file (Block ∷ os) v l = rw v.0 refl

    -- a file whose stage 1 is in the log leads where its value says
    pub value_edges_same : (stage file : ℕ) → 1 ≤ length (outcomes log file) → value_edges (g.value project) (cond (eqb stage 2) (g.file_walk project) (g.file_links project)) file ≡ direct_needs g log stage file
    unfolding edges value_edges
    value_edges_same stage file l =
        let v = values_hold g project log legal file in
        elim (eqb stage 2) as (λ t. if_done (g.value project file 1) (cond t (g.file_walk project) (g.file_links project) file) ≡ first_files (cond t g.walk g.links) (outcomes log file))
        [ true ↦ first_walk file (outcomes log file) v l | false ↦ first_links file (outcomes log file) v l ]

    holds_up_to : (file stage : ℕ) (o : OutcomeValue O) → 1 ≤ stage → is_done_at (outcomes log file) stage ≡ true → outcome_for (outcomes log file) stage ≡ Some o → HoldsUpTo g project file stage o
    unfolding outcome_for
    holds_up_to file stage o one done is =
        let os = outcomes log file in
        let at = in_place os (length os) stage refl one done in
        record {
          at = min (length os) stage - 1 + 1;
          from_one = omega arith;
          by = omega (arith, at.0);
          holds = subst (λ n. HoldsValue g project file n o) (let m : 0 + (min (length os) stage - 1) + 1 ≡ min (length os) stage - 1 + 1 = omega arith in m) (value_at file 0 os (values_hold g project log legal file) (min (length os) stage - 1) o is);
          earlier = λ less. last_ends os (fronts log legal file) (ended_if os stage done (omega (arith, at.0))) (min (length os) stage - 1) o is (omega (arith, at.0));
        }

    -- a task that is open is one of the project, whose earlier stages are Done
    pub open_is_task : (file stage : ℕ) → IsOpen g log file stage → IsTaskOf g project file stage
    open_is_task file stage o = record {
      in_range = known_in g project laws log legal file o.known;
      from_one = o.from_one;
      to_five = o.to_five;
      earlier = λ k one less. earlier_gives file stage k (outcomes log file) (values_hold g project log legal file) one less o.begun o.earlier_done;
    }

    pub needs_have_values : (files file stage : ℕ) (needs : List (Need O)) → AreNeedsDone g log file stage → AreNeeds g files log file stage needs → AreNeedsOf g project file stage needs
    needs_have_values files file stage needs done n =
        let next = value_edges (g.value project) (cond (eqb stage 2) (g.file_walk project) (g.file_links project)) in
        let same : 2 ≤ stage → (b : ℕ) → Reaches (direct_needs g log stage) file b → next b ≡ direct_needs g log stage b =
        λ above b r. value_edges_same stage b (some_outcome (outcomes log b) (stage_needed file stage b) (needed_pos file stage b above) (done b (record { above = above; reached = r }))) in
        record {
          each = λ other. (
            λ c. let need = (n.each other).0 c in record { above = need.above; reached = Reaches-on (direct_needs g log stage) next file (same need.above) other need.reached },
            λ need. (n.each other).1 (record { above = need.above; reached = Reaches-back (direct_needs g log stage) next file (same need.above) other need.reached }),
          );
          once = n.once.once;
          hold = λ k d l.
              let need = get_or needs k d in
              let is_need = (n.each need.file).0 (in_map (λ m. m.file) needs k d l) in
              holds_up_to need.file (stage_needed file stage need.file) (value_of need.outcome) (needed_pos file stage need.file is_need.above) (done need.file is_need) (n.handed k d l);
        }

pub no_needs_of : {O P : Type 0} (g : Ghosts O P) (project : P) (file stage : ℕ) → stage < 2 → AreNeedsOf g project file stage []
no_needs_of g project file stage l = record { each = λ other. (λ c. absurd (omega arith), λ n. absurd (let above = n.above in omega arith)); once = none_twice; hold = λ k d h. absurd (omega arith) }

-- What holds of each log that the events can make.
use Rattle.std.proofs.Common.{◌≡◌, ℕ, suc, ◌+◌, ◌<◌, ◌≤◌, ◌⊎◌, inl, inr, true, false, ◌||◌, cond, eqb, List, [], ◌∷◌, ◌++◌, length, Contains, sym, ◌∙◌, subst, arith, length-append, append-nil}
use Rattle.std.proofs.lemmas.Bool.Decides.{eqb_tells}
use Rattle.std.proofs.lemmas.List.Folds.{list_any-append}
use Rattle.stage_core.specs.declared.work.StageOut.{Ghosts}
use Rattle.stage_core.specs.Log.{OutcomeValue, Value, Fault, Block, Entry, Request, Claim, Publish}
use Rattle.stage_core.specs.Machine.{outcomes, is_request_of, is_requested, first_files, edges, IsKnown, direct_needs, HoldsValue, MayFollow, IsLegal, empty, grows}
use Rattle.stage_core.specs.Stages.{Reaches, here, on}
use Rattle.stage_core.proofs.Grow.{added, outcomes-push}

-- the laws of the trait
pub record Laws {O P : Type 0} (g : Ghosts O P) : Type 0 where
  pub links_of_value : (p : P) (f : ℕ) (x : O) → g.holds p f 1 x → g.links x ≡ g.file_links p f
  pub walk_of_value : (p : P) (f : ℕ) (x : O) → g.holds p f 1 x → g.walk x ≡ g.file_walk p f
  pub links_in_range : (p : P) (f h : ℕ) → Contains (g.file_links p f) h → h < g.files p
  pub walk_in_range : (p : P) (f h : ℕ) → Contains (g.file_walk p f) h → h < g.files p
  pub walk_within_links : (p : P) (f h : ℕ) → Contains (g.file_walk p f) h → (h ≡ f) ⊎ Contains (g.file_links p f) h

module _ {O P : Type 0} (g : Ghosts O P) (project : P) where
  -- each outcome holds the value of its stage
  abbrev pub AreValues : ℕ → ℕ → List (OutcomeValue O) → Type 0
  AreValues file k [] = Unit {0}
  AreValues file k (o ∷ os) = HoldsValue g project file (suc k) o × AreValues file (suc k) os

  AreValues-push : (file k : ℕ) (os : List (OutcomeValue O)) (o : OutcomeValue O) → AreValues file k os → HoldsValue g project file (k + length os + 1) o → AreValues file k (os ++ o ∷ [])
  AreValues-push file k [] o v h = (subst (λ n. HoldsValue g project file n o) (omega arith) h, tt)
  AreValues-push file k (x ∷ os) o v h = (v.0, AreValues-push file (suc k) os o v.1 (subst (λ n. HoldsValue g project file n o) (omega arith) h))

  values-grow : (log : List (Entry O)) (e : Entry O) → MayFollow g project log e → (file : ℕ) → AreValues file 0 (outcomes log file) → AreValues file 0 (outcomes log file ++ added file e)
  values-grow log (Request f) m file v = subst (AreValues file 0) (sym (append-nil (outcomes log file))) v
  values-grow log (Claim f k) m file v = subst (AreValues file 0) (sym (append-nil (outcomes log file))) v
  values-grow log (Publish f k o) m file v =
      elim (eqb_tells f file) [
        | inl w ↦ rw w.0 (AreValues-push file 0 (outcomes log file) o v (
            let stage : k ≡ 0 + length (outcomes log file) + 1 = subst (λ z. k ≡ 0 + length (outcomes log z) + 1) w.1 (omega (arith, m.1)) in
            subst (λ z. HoldsValue g project z (0 + length (outcomes log file) + 1) o) w.1 (subst (λ z. HoldsValue g project f z o) stage m.2)
            ))
        | inr w ↦ rw w.0 (subst (AreValues file 0) (sym (append-nil (outcomes log file))) v)
      ]

  pub values_hold : (log : List (Entry O)) → IsLegal g project log → (file : ℕ) → AreValues file 0 (outcomes log file)
  unfolding outcomes
  values_hold log empty file = tt
  values_hold log (grows old e l m) file = subst (AreValues file 0) (sym (outcomes-push old e file)) (values-grow old e m file (values_hold old l file))

  requested-grow : (log : List (Entry O)) (e : Entry O) → MayFollow g project log e → (file : ℕ) → ((is_requested log file || is_request_of file e) ≡ true) → (is_requested log file ≡ true) ⊎ (file < g.files project)
  requested-grow log (Request f) m file h = elim (eqb_tells f file) [ inl w ↦ inr (subst (λ z. z < g.files project) w.1 m.0) | inr w ↦ inl (grind arith) ]
  requested-grow log (Claim f k) m file h = inl (grind arith)
  requested-grow log (Publish f k o) m file h = inl (grind arith)

  pub requested-push : (log : List (Entry O)) (e : Entry O) (file : ℕ) → is_requested (log ++ e ∷ []) file ≡ (is_requested log file || is_request_of file e)
  unfolding is_requested
  requested-push log e file = grind (arith, list_any-append (is_request_of file) log (e ∷ []))

  pub requested_in : (log : List (Entry O)) → IsLegal g project log → (file : ℕ) → is_requested log file ≡ true → file < g.files project
  unfolding is_requested
  requested_in log empty file h = cc
  requested_in log (grows old e l m) file h =
      elim (requested-grow old e m file (sym (requested-push old e file) ∙ h)) [ inl w ↦ requested_in old l file w | inr w ↦ w ]

  -- at most five outcomes of a file
  five-grow : (log : List (Entry O)) (e : Entry O) → MayFollow g project log e → (file : ℕ) → length (outcomes log file) ≤ 5 → length (outcomes log file ++ added file e) ≤ 5
  five-grow log (Request f) m file v = rw append-nil v
  five-grow log (Claim f k) m file v = rw append-nil v
  five-grow log (Publish f k o) m file v =
      elim (eqb_tells f file) [
        | inl w ↦ rw w.0 (
            let stage : k ≡ length (outcomes log file) + 1 = subst (λ z. k ≡ length (outcomes log z) + 1) w.1 m.1 in
            omega (arith, length-append (outcomes log file) (o ∷ []), m.0.to_five)
            )
        | inr w ↦ rw (w.0, append-nil) v
      ]

  pub five_at_most : (log : List (Entry O)) → IsLegal g project log → (file : ℕ) → length (outcomes log file) ≤ 5
  unfolding outcomes
  five_at_most log empty file = omega arith
  five_at_most log (grows old e l m) file = subst (λ os. length os ≤ 5) (sym (outcomes-push old e file)) (five-grow old e m file (five_at_most old l file))

  module _ (laws : Laws g) where
    first_links : (file : ℕ) (os : List (OutcomeValue O)) → AreValues file 0 os → (h : ℕ) → Contains (first_files g.links os) h → Contains (g.file_links project file) h
    first_links file [] v h c = absurd (omega arith)
    first_links file (Value x ∷ os) v h c = subst (λ xs. Contains xs h) (laws.links_of_value project file x v.0.1) c
    first_links file (Fault fault ∷ os) v h c = absurd (omega arith)
    first_links file (Block ∷ os) v h c = absurd (omega arith)

    first_walks : (file : ℕ) (os : List (OutcomeValue O)) → AreValues file 0 os → (h : ℕ) → Contains (first_files g.walk os) h → Contains (g.file_walk project file) h
    first_walks file [] v h c = absurd (omega arith)
    first_walks file (Value x ∷ os) v h c = subst (λ xs. Contains xs h) (laws.walk_of_value project file x v.0.1) c
    first_walks file (Fault fault ∷ os) v h c = absurd (omega arith)
    first_walks file (Block ∷ os) v h c = absurd (omega arith)

    first_walk : (file : ℕ) (os : List (OutcomeValue O)) → AreValues file 0 os → (h : ℕ) → Contains (first_files g.walk os) h → (h ≡ file) ⊎ Contains (first_files g.links os) h
    first_walk file [] v h c = absurd (omega arith)
    first_walk file (Value x ∷ os) v h c =
        elim (laws.walk_within_links project file h (subst (λ xs. Contains xs h) (laws.walk_of_value project file x v.0.1) c)) [
          | inl e ↦ inl e
          | inr d ↦ inr (subst (λ xs. Contains xs h) (sym (laws.links_of_value project file x v.0.1)) d)
        ]
    first_walk file (Fault fault ∷ os) v h c = absurd (omega arith)
    first_walk file (Block ∷ os) v h c = absurd (omega arith)

    module _ (log : List (Entry O)) (legal : IsLegal g project log) where
      pub edges_in : (a b : ℕ) → Contains (edges g.links log a) b → b < g.files project
      unfolding edges
      edges_in a b c = laws.links_in_range project a b (first_links a (outcomes log a) (values_hold log legal a) b c)

      pub walks_in : (a b : ℕ) → Contains (edges g.walk log a) b → b < g.files project
      unfolding edges
      walks_in a b c = laws.walk_in_range project a b (first_walks a (outcomes log a) (values_hold log legal a) b c)

      walk_is : (a b : ℕ) → Contains (edges g.walk log a) b → (b ≡ a) ⊎ Contains (edges g.links log a) b
      unfolding edges
      walk_is a b c = first_walk a (outcomes log a) (values_hold log legal a) b c

      -- what is reached by the walk is reached by the links
      walk_reaches : (a b : ℕ) → Reaches (edges g.walk log) a b → Reaches (edges g.links log) a b
      walk_reaches a b here = here
      walk_reaches a b (on r h) =
          let r' = walk_reaches a _ r in
          elim (walk_is _ b h) [ inl e ↦ subst (λ z. Reaches (edges g.links log) a z) (sym e) r' | inr d ↦ on r' d ]

      pub direct_needs_reach : (stage a b : ℕ) → Reaches (direct_needs g log stage) a b → Reaches (edges g.links log) a b
      direct_needs_reach stage a b =
          elim (eqb stage 2) as (λ t. Reaches (edges (cond t g.walk g.links) log) a b → Reaches (edges g.links log) a b)
          [ true ↦ walk_reaches a b | false ↦ λ r. r ]

      pub direct_needs_in : (stage a b : ℕ) → Contains (direct_needs g log stage a) b → b < g.files project
      direct_needs_in stage a b =
          elim (eqb stage 2) as (λ t. Contains (edges (cond t g.walk g.links) log a) b → b < g.files project)
          [ true ↦ walks_in a b | false ↦ edges_in a b ]

      reached_in : (a b : ℕ) → a < g.files project → Reaches (edges g.links log) a b → b < g.files project
      reached_in a b l here = l
      reached_in a b l (on r h) = edges_in _ b h

      pub known_in : (file : ℕ) → IsKnown g log file → file < g.files project
      known_in file k = reached_in k.from file (requested_in log legal k.from k.requested) k.reached

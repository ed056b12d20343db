-- While a known path is unfinished, a task is ready or under way.
use Rattle.std.proofs.Common.{◌≡◌, ℕ, zero, suc, ◌+◌, ◌<◌, ◌≤◌, ◌⊎◌, inl, inr, Bool, true, false, nat_le, List, [], ◌∷◌, length, Contains, slice_index, refl, subst, arith}
use Rattle.std.proofs.lemmas.Bool.Decides.{nat_tests, eqb_tells}
use Rattle.std.proofs.lemmas.List.Elements.{Contains-push_cases, Contains-append_right, Contains-append_cases}
use Rattle.stage_core.specs.declared.work.StageOut.{Ghosts}
use Rattle.stage_core.specs.Log.{State}
use Rattle.stage_core.specs.Machine.{outcomes, is_done_at, edges, IsKnown, direct_needs, IsNeed, AreNeedsDone, IsLegal, HasWork}
use Rattle.stage_core.specs.Stages.{stage_needed}
use Rattle.stage_core.proofs.Reach.{Cover, cover, Reaches-joins}
use Rattle.stage_core.proofs.Legal.{Laws, direct_needs_reach, direct_needs_in}

pub record Fails (test : ℕ → Bool) (xs : List ℕ) : Type 0 where
  pub at : ℕ
  pub among : Contains xs at
  pub fails : test at ≡ false

pub fails_or : (test : ℕ → Bool) (xs : List ℕ) → Fails test xs ⊎ ((x : ℕ) → Contains xs x → test x ≡ true)
fails_or test [] = inr (λ x c. absurd (omega arith))
fails_or test (y ∷ xs) =
    let here : (b : Bool) → test y ≡ b → Fails test (y ∷ xs) ⊎ ((x : ℕ) → Contains (y ∷ xs) x → test x ≡ true) =
    elim [
      | true ↦ λ e. elim (fails_or test xs) [
        | inl f ↦ inl (record { at = f.at; among = Contains-append_right (y ∷ []) xs _ f.among; fails = f.fails })
        | inr k ↦ inr (λ x c. elim (Contains-append_cases (y ∷ []) xs x c) [
          | inl h ↦ elim (Contains-push_cases [] y x h) [ inl n ↦ absurd (omega arith) | inr s ↦ subst (λ z. test z ≡ true) s e ]
          | inr h ↦ k x h
        ])
      ]
      | false ↦ λ e. inl (record { at = y; among = (0, omega arith, refl); fails = e })
    ] in
    here (test y) refl

module _ {O P : Type 0} (g : Ghosts O P) (laws : Laws g) (s : State P O) (legal : IsLegal g s.project s.log) where
  record Lacks (file stage : ℕ) : Type 0 where
    other : ℕ
    need : IsNeed g s.log file stage other
    undone : is_done_at (outcomes s.log other) (stage_needed file stage other) ≡ false

  lacks_or : (file stage : ℕ) → Lacks file stage ⊎ AreNeedsDone g s.log file stage
  lacks_or file stage =
      let all : Cover (direct_needs g s.log stage) file = cover (direct_needs g s.log stage) (g.files s.project) (direct_needs_in g s.project laws s.log legal stage) file in
      let found : (b : Bool) → nat_le 2 stage ≡ b → Lacks file stage ⊎ AreNeedsDone g s.log file stage =
      elim [
        | true ↦ λ e. elim (fails_or (λ other. is_done_at (outcomes s.log other) (stage_needed file stage other)) all.files) [
          | inl f ↦ inl (record { other = f.at; need = record { above = grind (arith, nat_tests); reached = all.sound f.at f.among }; undone = f.fails })
          | inr k ↦ inr (λ other need. k other (all.complete other need.reached))
        ]
        | false ↦ λ e. inr (λ other need. absurd (let above = need.above in grind (arith, nat_tests)))
      ] in
      found (nat_le 2 stage) refl

  less_done : (os : List _) (file stage other : ℕ) → is_done_at {O = O} os (stage_needed file stage other) ≡ false → 2 ≤ stage → stage ≤ 5 → (length os + 1 < stage) × (is_done_at os 5 ≡ false)
  unfolding is_done_at
  less_done os file stage other h above below = (grind (arith, nat_tests), grind (arith, nat_tests))

  unfinished_below : (os : List _) → is_done_at {O = O} os 5 ≡ false → length os < 5
  unfolding is_done_at
  unfinished_below os h = grind (arith, nat_tests)

  pub progress : (fuel file : ℕ) → length (outcomes s.log file) < fuel → IsKnown g s.log file → is_done_at (outcomes s.log file) 5 ≡ false → HasWork g s
  progress zero file few known undone = absurd (omega arith)
  progress (suc fuel) file few known undone =
      let stage = length (outcomes s.log file) + 1 in
      let below = unfinished_below (outcomes s.log file) undone in
      elim (lacks_or file stage) [
        | inl l ↦ let less = less_done (outcomes s.log l.other) file stage l.other l.undone l.need.above (omega arith) in
            progress fuel l.other (omega (arith, less.0)) (record {
              from = known.from;
              requested = known.requested;
              reached = Reaches-joins (edges g.links s.log) known.from file l.other known.reached (direct_needs_reach g s.project laws s.log legal stage file l.other l.need.reached);
            }) less.1
        | inr needs ↦ elim (eqb_tells (slice_index s.in_progress file) 0) [
          | inl e ↦ inl (file, stage, record { known = known; next = refl; unfinished = undone; free = e.1; needs = needs })
          | inr e ↦ inr (file, slice_index s.in_progress file, record { some = grind arith; held = refl })
        ]
      ]

-- Two projects of the tests: the first file of a star links to two others; in a tangle two files lead to each other, and one of them to a refused file.
use Rattle.std.proofs.Common.{◌≡◌, ◌≢◌, ℕ, zero, suc, ◌+◌, ◌<◌, ◌≤◌, ◌⊎◌, inl, inr, Bool, true, false, cond, eqb, nat_le, List, [], ◌∷◌, Contains, refl, sym, subst, arith}
use Rattle.std.specs.Prelude.{codes}
use Rattle.std.specs.declared.cmp.Ordering.TheVariants.{Less}
use Rattle.std.proofs.lemmas.Bool.Decides.{nat_tests, eqb_tells}
use Rattle.std.proofs.lemmas.List.Elements.{Contains-append_cases, Contains-push_cases}
use Rattle.gd_syntax.specs.declared.fault.LoadFault.{LoadFault}
use Rattle.gd_syntax.specs.declared.fault.FaultKind.TheVariants.{Unreadable}
use Rattle.stage_core.specs.declared.work.StageValue.{StageValue}
use Rattle.stage_core.specs.declared.work.StageValue.TheVariants.{Done, Refused, Blocked, Absent}
use Rattle.stage_core.specs.Paths.{path_order}
use Rattle.stage_core.specs.Stages.{Reaches, here, on, is_stop, value_edges, IsBlockedBy, IsStoppedBefore}

abbrev pub sample_files : Bool → ℕ
sample_files tangled = cond tangled 4 3

abbrev pub sample_links : Bool → ℕ → List ℕ
sample_links tangled file = cond tangled (cond (eqb file 0) (1 ∷ []) (cond (eqb file 1) (0 ∷ 2 ∷ []) [])) (cond (eqb file 0) (1 ∷ 2 ∷ []) [])

abbrev pub sample_path : ℕ → List ℕ
sample_path file = cond (eqb file 0) (codes "res://a.gd") (cond (eqb file 1) (codes "res://b.gd") (cond (eqb file 2) (codes "res://c.gd") (codes "res://d.gd")))

abbrev pub sample_fault : LoadFault
sample_fault = record { kind = Unreadable; place = record { line = 3; column = 1 } }

-- the stages of the file that have results, in a tangle
abbrev pub done_stages : ℕ → ℕ
done_stages file = cond (eqb file 2) 2 (cond (nat_le file 1) 3 5)

abbrev pub tangled_value : ℕ → ℕ → StageValue
tangled_value file stage = cond (nat_le stage (done_stages file)) Done (cond (eqb stage (done_stages file + 1)) (cond (eqb file 2) (Refused sample_fault) Blocked) Absent)

abbrev pub sample_value : Bool → ℕ → ℕ → StageValue
sample_value tangled file stage = cond tangled (tangled_value file stage) Done

none_there : (x : ℕ) {A : Type 0} → Contains [] x → A
none_there x c = absurd (omega arith)

one_below : (n x g : ℕ) → x < n → Contains (x ∷ []) g → g < n
one_below n x g l c = elim (Contains-push_cases [] x g c) [ inl h ↦ none_there g h | inr e ↦ omega arith ]

two_below : (n x y g : ℕ) → x < n → y < n → Contains (x ∷ y ∷ []) g → g < n
two_below n x y g l m c = elim (Contains-append_cases (x ∷ []) (y ∷ []) g c) [ inl h ↦ one_below n x g l h | inr h ↦ one_below n y g m h ]

pub links_below : (t : Bool) (f g : ℕ) → Contains (sample_links t f) g → g < sample_files t
links_below true f g =
    elim (eqb f 0) as (λ a. Contains (cond a (1 ∷ []) (cond (eqb f 1) (0 ∷ 2 ∷ []) [])) g → g < 4) [
      | true ↦ one_below 4 1 g (omega arith)
      | false ↦ elim (eqb f 1) as (λ a. Contains (cond a (0 ∷ 2 ∷ []) []) g → g < 4) [ true ↦ two_below 4 0 2 g (omega arith) (omega arith) | false ↦ none_there g ]
    ]
links_below false f g =
    elim (eqb f 0) as (λ a. Contains (cond a (1 ∷ 2 ∷ []) []) g → g < 3) [ true ↦ two_below 3 1 2 g (omega arith) (omega arith) | false ↦ none_there g ]

pub none_below : (n g : ℕ) → Contains [] g → g < n
none_below n g c = none_there g c

pub none_linked : (f g : ℕ) (xs : List ℕ) → Contains [] g → (g ≡ f) ⊎ Contains xs g
none_linked f g xs c = none_there g c

pub absent_later : (t : Bool) (f j k : ℕ) → j < k → sample_value t f j ≢ Done → sample_value t f k ≡ Absent
absent_later false f j k l bad = absurd (bad refl)
absent_later true f j k l bad =
    let d = done_stages f in
    elim (nat_le j d) as (λ a. nat_le j d ≡ a → tangled_value f k ≡ Absent) [
      | true ↦ λ e. absurd (bad (rw e refl))
      | false ↦ λ e.
          let over : nat_le k d ≡ false = grind (arith, nat_tests) in
          let past : eqb k (d + 1) ≡ false = grind (arith, nat_tests) in
          rw (over, past) refl
    ] refl

stop_next : (f : ℕ) → is_stop (tangled_value f (done_stages f + 1)) ≡ true
stop_next f =
    let over : nat_le (done_stages f + 1) (done_stages f) ≡ false = grind (arith, nat_tests) in
    let same : eqb (done_stages f + 1) (done_stages f + 1) ≡ true = grind (arith, nat_tests) in
    rw (over, same) (elim (eqb f 2) as (λ a. is_stop (cond a (Refused sample_fault) Blocked) ≡ true) [ true ↦ refl | false ↦ refl ])

pub stopped_before : (t : Bool) (f k : ℕ) → f < sample_files t → sample_value t f k ≡ Absent → IsStoppedBefore (sample_value t) f k
stopped_before false f k l e = cc
stopped_before true f k l e =
    let d = done_stages f in
    elim (nat_le k (d + 1)) as (λ a. nat_le k (d + 1) ≡ a → IsStoppedBefore (sample_value true) f k) [
      | true ↦ λ le. absurd (elim (nat_le k d) as (λ a. nat_le k d ≡ a → ⊥) [
        | true ↦ λ w. let bad : Done ≡ Absent = subst (λ b. cond b Done (cond (eqb k (d + 1)) (cond (eqb f 2) (Refused sample_fault) Blocked) Absent) ≡ Absent) w e in cc
        | false ↦ λ w.
            let is : k ≡ d + 1 = grind (arith, nat_tests) in
            let stop : is_stop Absent ≡ true = subst (λ v. is_stop v ≡ true) e (subst (λ z. is_stop (tangled_value f z) ≡ true) (sym is) (stop_next f)) in
            cc
      ] refl)
      | false ↦ λ le. record { at = d + 1; from_one = omega arith; earlier = grind (arith, nat_tests); stopped = stop_next f }
    ] refl

-- each of the two files that lead to each other leads to the refused one
from_one : Reaches (value_edges (sample_value true) (sample_links true)) 1 2
unfolding value_edges
from_one = on {b = 1} here (1, omega arith, refl)

from_zero : Reaches (value_edges (sample_value true) (sample_links true)) 0 2
unfolding value_edges
from_zero = on {b = 1} (on {b = 0} here (0, omega arith, refl)) (1, omega arith, refl)

by_refused : (f : ℕ) → 2 ≢ f → Reaches (value_edges (sample_value true) (sample_links true)) f 2 → IsBlockedBy (sample_value true) (sample_links true) (λ _. []) f 4
by_refused f differs r = record { other = 2; differs = differs; needed = record { above = omega arith; reached = r }; at = 3; from_one = omega arith; earlier = omega arith; stopped = refl }

stage_four : (k : ℕ) → cond (nat_le k 3) Done (cond (eqb k 4) Blocked Absent) ≡ Blocked → k ≡ 4
stage_four k =
    elim (nat_le k 3) as (λ a. cond a Done (cond (eqb k 4) Blocked Absent) ≡ Blocked → k ≡ 4) [
      | true ↦ λ e. cc
      | false ↦ λ e. elim (eqb_tells k 4) [ inl w ↦ w.1 | inr w ↦ absurd (let bad : Absent ≡ Blocked = subst (λ b. cond b Blocked Absent ≡ Blocked) w.0 e in cc) ]
    ]

never_blocked : (k : ℕ) {A : Type 0} → cond (nat_le k 2) Done (cond (eqb k 3) (Refused sample_fault) Absent) ≡ Blocked → A
never_blocked k {A} =
    elim (nat_le k 2) as (λ a. cond a Done (cond (eqb k 3) (Refused sample_fault) Absent) ≡ Blocked → A) [
      | true ↦ λ e. cc
      | false ↦ elim (eqb k 3) as (λ b. cond b (Refused sample_fault) Absent ≡ Blocked → A) [ true ↦ λ e. cc | false ↦ λ e. cc ]
    ]

pub blocked_at : (t : Bool) (f k : ℕ) → f < sample_files t → 1 ≤ k → k ≤ 5 → sample_value t f k ≡ Blocked → IsBlockedBy (sample_value t) (sample_links t) (λ _. []) f k
blocked_at false f k l one five e = cc
blocked_at true zero k l one five e = subst (λ z. IsBlockedBy (sample_value true) (sample_links true) (λ _. []) 0 z) (sym (stage_four k e)) (by_refused 0 (λ s. omega arith) from_zero)
blocked_at true (suc zero) k l one five e = subst (λ z. IsBlockedBy (sample_value true) (sample_links true) (λ _. []) 1 z) (sym (stage_four k e)) (by_refused 1 (λ s. omega arith) from_one)
blocked_at true (suc (suc zero)) k l one five e = never_blocked k e
blocked_at true (suc (suc (suc zero))) k l one five e =
    absurd (let all : nat_le k 5 ≡ true = grind (arith, nat_tests) in let bad : Done ≡ Blocked = subst (λ b. cond b Done (cond (eqb k 6) Blocked Absent) ≡ Blocked) all e in cc)
blocked_at true (suc (suc (suc (suc f)))) k l one five e = absurd (omega arith)

pub ascending : (f h : ℕ) → f < h → h < 4 → path_order (sample_path f) (sample_path h) ≡ Less
ascending zero zero l m = absurd (omega arith)
ascending zero (suc zero) l m = refl
ascending zero (suc (suc zero)) l m = refl
ascending zero (suc (suc (suc zero))) l m = refl
ascending zero (suc (suc (suc (suc h)))) l m = absurd (omega arith)
ascending (suc zero) (suc (suc zero)) l m = refl
ascending (suc zero) (suc (suc (suc zero))) l m = refl
ascending (suc zero) (suc (suc (suc (suc h)))) l m = absurd (omega arith)
ascending (suc (suc zero)) (suc (suc (suc zero))) l m = refl
ascending (suc (suc zero)) (suc (suc (suc (suc h)))) l m = absurd (omega arith)
ascending (suc f) zero l m = absurd (omega arith)
ascending (suc zero) (suc zero) l m = absurd (omega arith)
ascending (suc (suc zero)) (suc zero) l m = absurd (omega arith)
ascending (suc (suc zero)) (suc (suc zero)) l m = absurd (omega arith)
ascending (suc (suc (suc f))) (suc h) l m = absurd (omega arith)

pub paths_up : (t : Bool) (f h : ℕ) → f < h → h < sample_files t → path_order (sample_path f) (sample_path h) ≡ Less
paths_up true f h l m = ascending f h l m
paths_up false f h l m = ascending f h l (omega arith)

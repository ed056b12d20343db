-- Each step of the table keeps the rule.
use Rattle.std.proofs.lemmas.Bool.Decides.{nat_tests}
use Rattle.std.proofs.Common.{slice_index, nat_lt, if◌then◌else◌, ◌≡◌, ◌≢◌, ℕ, ◌+◌, ◌≤◌, ◌<◌, Bool, true, false, eqb, List, [], ◌∷◌, ◌++◌, length, get_or, set, append_assoc, append-nil, rules, sym, refl, ap, ◌∙◌, subst, ⊎_elim, arith, Option, Some, None, eq-eqb, ne_eqb}
use mathlib.Core.Logic.{dite}
use mathlib.Core.Option.{none, some, some-injective, some-ne-none}
use mathlib.Core.Option as maybe
use mathlib.Core.List.{IsPrefix}
use native.Mathlib.Decide.{ℕ_discrete}
use lib.ListN.{get_elem?}
use lib.Seq.{set-get_or}
use prog.Atomic.{either}
use Rattle.atomic_table.specs.Table.{State, step, keeps, takes as taking, gives, stepped, rest, opening, Final, Allows, Splits, Joins}
use Rattle.atomic_table.proofs.Lists.{at_set, set_else, at_longer, at_snoc}
use Rattle.turn_lock.proofs.Logs.{prefix_refl, prefix_trans, prefix_shorter}
use Rattle.turn_lock.specs.declared.view.View.{View}
use Rattle.turn_lock.specs.declared.view.Hold.{Hold}
use Rattle.turn_lock.specs.declared.view.Hold.TheVariants.{Free, Taken, Raised}
use Rattle.turn_lock.specs.Rule.{holds_turn, taken_log, MayHold, IsPassView, MeetsRule, PassSeat, first_view, longer, shorter, after_split, split_off, after_take, after_join, spent_view, Compares, Takes, Raises, Releases}

pub some_is : {A : Type 0} (a b : A) → Some a ≡ Some b → a ≡ b
some_is a b e = cc

none_some : {A : Type 0} (a : A) → None ≡ Some a → ⊥
none_some a e = cc

module _ {A : Type 0} where
  pub set_at : (l : List A) (i : ℕ) (a b : A) → get_elem? l i ≡ some a → get_elem? (set l i b) i ≡ some b
  set_at [] i a b e = absurd (some-ne-none a (sym e))
  set_at (x ∷ xs) Rattle.std.proofs.Common.zero a b e = refl
  set_at (x ∷ xs) (Rattle.std.proofs.Common.suc i) a b e = set_at xs i a b e

  -- what holds of one place, and of the others, holds of each after a write there
  pub each_set : (K : ℕ → A → Type 0) (l : List A) (i : ℕ) (a : A) → K i a → ((j : ℕ) (b : A) → j ≢ i → get_elem? l j ≡ some b → K j b) → (j : ℕ) (b : A) → get_elem? (set l i a) j ≡ some b → K j b
  each_set K l i a here others j b e = ⊎_elim (λ (t : (j ≡ i) × (a ≡ b)). subst (λ (z : ℕ × A). K z.0 z.1) (λ k. (sym t.0 k, t.1 k)) here)
      (λ (t : (j ≢ i) × (get_elem? l j ≡ some b)). others j b t.0 t.1) (at_set l i j a b e)

  -- a list of one has that one
  pub only : (a b : A) (j : ℕ) → get_elem? (a ∷ []) j ≡ some b → a ≡ b
  only a b Rattle.std.proofs.Common.zero e = some-injective a b e
  only a b (Rattle.std.proofs.Common.suc j) e = absurd (some-ne-none b (sym e))

  abbrev held_or : A → List (ℕ × Option A) → A
  held_or d [] = d
  held_or d ((k, Some x) ∷ c) = x
  held_or d ((k, None) ∷ c) = d

  -- a slot has one value
  pub in_slot : (x y : A) (c : List (ℕ × Option A)) → c ≡ (0, Some x) ∷ [] → c ≡ (0, Some y) ∷ [] → x ≡ y
  in_slot x y c a b = ap (held_or x) (sym a ∙ b)

-- of two lists the shorter is no longer than the longer
pub short_long : {E : Type 0} (xs ys : List E) → length (shorter xs ys) ≤ length (longer xs ys)
short_long xs ys = grind (arith, nat_tests)

one_of : {A : Type 0} (K : A → Type 0) (b : Bool) (x y : A) → K x → K y → K (if b then y else x)
one_of K true x y h k = k
one_of K false x y h k = h

module _ {E : Type 0} where
  -- a pass that holds no turn may be anywhere
  pub holds_none : (log log' : List E) (turn turn' holder holder' seat : ℕ) (seen : List E) (h : Hold E) → (turn ≡ 1 → seat ≡ holder → ⊥) → MayHold log turn holder seat seen h → MayHold log' turn' holder' seat seen h
  holds_none log log' turn turn' holder holder' seat seen Free never may = tt
  holds_none log log' turn turn' holder holder' seat seen (Taken taken) never may = absurd (never may.0 may.1)
  holds_none log log' turn turn' holder holder' seat seen (Raised taken) never may = absurd (never may.0 may.1)

abbrev St : Type 0 → Type 0 → Type 0 → Type 0 → Type 0
St T P E S = State (Option T) (View P E S)

module _ {P E S : Type 0} (p : P) where
  -- a pass that holds no turn, over a step of another
  beside : (log log' : List E) (turn turn' holder holder' seat : ℕ) (v : View P E S) → IsPrefix log log' → (turn ≡ 1 → seat ≡ holder → ⊥) → IsPassView p log turn holder seat v → IsPassView p log' turn' holder' seat v
  beside log log' turn turn' holder holder' seat v grows never is = record {
    project = is.project;
    seen = prefix_trans v.seen log log' is.seen grows;
    shorter_seen = prefix_trans v.shorter_seen log log' is.shorter_seen grows;
    hold = holds_none log log' turn turn' holder holder' seat v.seen v.hold never is.hold;
  }

module _ {T P E S : Type 0} (log_of : T → List E) (state : T → S) where
  -- the last moves of a turn: the value into the slot, the length raised, and the release
  pub left : (x : T) (me filled long out : PassSeat T P E S) → me.1 ≡ (0, None) ∷ [] → filled ≡ (me.0, (0, Some x) ∷ rest me.1) → Raises log_of (step 1 1 0 0 none) filled 0 long
      → Releases state (step 1 0 0 0 none) long 0 out → out ≡ (record me.0 { seen = log_of x; hold = Free; left = Some (state x) }, [])
  left x me filled long out empty fills raises releases =
      let has : filled.1 ≡ (0, Some x) ∷ [] = ap (λ m. m.1) fills ∙ ap (λ c. (0, Some x) ∷ rest c) empty in
      let up = raises x has in
      let done = releases x (ap (λ m. m.1) up ∙ has) in
      done ∙ ap (λ (v : View P E S). let m : PassSeat T P E S = (record v { hold = Free; left = Some (state x) }, []) in m) (ap (λ m. m.0) up)
      ∙ ap (λ (v : View P E S). let m : PassSeat T P E S = (record v { seen = log_of x; hold = Free; left = Some (state x) }, []) in m) (ap (λ m. m.0) fills)

module _ {T P E S : Type 0} (project : T → P) (log_of : T → List E) (first : T) where
  -- a pass comes to another view, with the same hold
  pub turns_view : (s : St T P E S) (r : MeetsRule project log_of first s) (id : ℕ) (v w : View P E S) → get_elem? s.views id ≡ some v → w.hold ≡ v.hold → IsPassView (project first) r.log r.turn r.holder id w
      → MeetsRule project log_of first record { words = s.words; homes = s.homes; views = set s.views id w }
  turns_view s r id v w at same is = record {
    log = r.log;
    began = r.began;
    turn = r.turn;
    holder = r.holder;
    home = r.home;
    words = r.words;
    homes = r.homes;
    bit = r.bit;
    at_home = r.at_home;
    away = λ e. let out = r.away e in dite (ℕ_discrete r.holder id)
        (λ here. let old : out.view ≡ v = some-injective out.view v (sym out.at ∙ (ap (λ (k : ℕ). get_elem? s.views k) here ∙ at)) in record {
          home_is = out.home_is;
          view = w;
          at = ap (λ (k : ℕ). get_elem? (set s.views id w) k) here ∙ set_at s.views id v w at;
          turn = ap holds_turn (same ∙ ap (λ (z : View P E S). z.hold) (sym old)) ∙ out.turn;
        })
        (λ other. record { home_is = out.home_is; view = out.view; at = set_else s.views id r.holder w other ∙ out.at; turn = out.turn });
    each = each_set (IsPassView (project first) r.log r.turn r.holder) s.views id w is (λ j u _ e. r.each j u e);
  }

  -- a take, won or lost
  pub took : (state_of : T → S) (slots id : ℕ) (me : PassSeat T P E S) → me.0.hold ≡ Free → Allows (MeetsRule project log_of first) slots id me 0 (λ n. either (eqb n 0) 1 n) (Takes project log_of state_of (step slots 0 0 1 none) me)
  took state_of slots id me is s r deep at _ =
      let found : get_or s.words 0 0 ≡ r.turn = ap (λ (ws : List ℕ). get_or ws 0 0) r.words in
      let bit = r.bit in
      let mine = r.each id me.0 at in
      dite (ℕ_discrete (get_or s.words 0 0) 0)
      (λ free. let home = r.at_home (sym found ∙ free) in
      let w : View P E S = after_take (log_of home.value) (state_of home.value) me.0 in (
        w,
        taking 0 (Some home.value),
        ap (λ (hs : List (maybe.Option (Option T))). get_elem? hs 0) r.homes ∙ ap some home.home_is,
        subst (λ b. MeetsRule project log_of first (stepped s 0 (either b 1 (get_or s.words 0 0)) id me.1 w (taking 0 (Some home.value)))) (sym (eq-eqb (get_or s.words 0 0) 0 free))
            record {
              log = r.log;
              began = r.began;
              turn = 1;
              holder = id;
              home = none;
              words = ap (λ (ws : List ℕ). set ws 0 1) r.words;
              homes = ap (λ (hs : List (maybe.Option (Option T))). set hs 0 none) r.homes;
              bit = omega arith;
              at_home = λ e. absurd (omega arith);
              away = λ _. record { home_is = refl; view = w; at = set_at s.views id me.0 w at; turn = refl };
              each = each_set (IsPassView (project first) r.log 1 id) s.views id w (record { project = mine.project; seen = mine.seen; shorter_seen = mine.shorter_seen; hold = (refl, refl, home.log_is) })
                  (λ j u other e. beside (project first) r.log r.log r.turn 1 r.holder id j u (prefix_refl r.log) (λ z _. omega arith) (r.each j u e));
            },
        ((λ _. (home.value, refl, (λ q e. home.project_is ∙ sym (mine.project q e)), subst (IsPrefix me.0.seen) (sym home.log_is) mine.seen)), λ ne. absurd (ne free)),
      ))
      (λ busy. let w : View P E S = record me.0 { lost = me.0.lost + 1 } in (
        w,
        keeps,
        tt,
        subst (λ b. MeetsRule project log_of first (stepped s 0 (either b 1 (get_or s.words 0 0)) id me.1 w keeps)) (sym (ne_eqb (get_or s.words 0 0) 0 busy))
            (subst (λ (ws : List ℕ). MeetsRule project log_of first record { words = ws; homes = s.homes; views = set s.views id w }) (sym (set-get_or s.words 0 0))
            (turns_view s r id me.0 w at refl (record { project = mine.project; seen = mine.seen; shorter_seen = mine.shorter_seen; hold = mine.hold }))),
        ((λ free. absurd (busy free)), λ _. (omega arith, (is, refl))),
      ))

  -- the length raised, by the pass that holds the turn and has the value in the slot
  pub raised : (slots id : ℕ) (me : PassSeat T P E S) (taken : List E) (x : T) (n : ℕ) → me.0.hold ≡ Taken taken → me.1 ≡ (0, Some x) ∷ [] → project x ≡ project first → IsPrefix taken (log_of x) → n ≡ length (log_of x)
      → Allows (MeetsRule project log_of first) slots id me 1 (λ _. n) (λ _. Raises log_of (step slots 1 n 0 none) me n)
  raised slots id me taken x n is has same grows long s r deep at _ =
      let mine = r.each id me.0 at in
      let may : MayHold r.log r.turn r.holder id me.0.seen (Taken taken) = subst (MayHold r.log r.turn r.holder id me.0.seen) is mine.hold in
      let log : List E = log_of x in
      let more : IsPrefix r.log log = subst (λ l. IsPrefix l log) may.2 grows in
      let out = r.away may.0 in
      let w : View P E S = record me.0 { seen = log; hold = Raised (taken_log me.0.hold) } in (
        w,
        keeps,
        tt,
        record {
          log = log;
          began = prefix_trans (log_of first) r.log log r.began more;
          turn = 1;
          holder = id;
          home = r.home;
          words = ap (λ (ws : List ℕ). set ws 1 n) r.words ∙ (λ i. may.0 i ∷ long i ∷ []);
          homes = r.homes;
          bit = omega arith;
          at_home = λ e. absurd (omega arith);
          away = λ _. record { home_is = out.home_is; view = w; at = set_at s.views id me.0 w at; turn = refl };
          each = each_set (IsPassView (project first) log 1 id) s.views id w (record { project = mine.project; seen = prefix_refl log; shorter_seen = prefix_trans me.0.shorter_seen r.log log mine.shorter_seen more; hold = (refl, refl, refl) })
              (λ j u other e. beside (project first) r.log log r.turn 1 r.holder id j u more (λ _ z. other (z ∙ sym may.1)) (r.each j u e));
        },
        λ y e. let u : x ≡ y = in_slot x y me.1 has e in ap (λ (z : T). let m : PassSeat T P E S = (record me.0 { seen = log_of z; hold = Raised (taken_log me.0.hold) }, me.1) in m) u,
      )

  -- the release, by the pass that has raised the length
  pub released : (state : T → S) (slots id : ℕ) (me : PassSeat T P E S) (taken : List E) (x : T) → me.0.hold ≡ Raised taken → me.1 ≡ (0, Some x) ∷ [] → project x ≡ project first → me.0.seen ≡ log_of x
      → Allows (MeetsRule project log_of first) slots id me 0 (λ _. 0) (λ _. Releases state (step slots 0 0 0 none) me 0)
  released state slots id me taken x is has same whole s r deep at _ =
      let mine = r.each id me.0 at in
      let may : MayHold r.log r.turn r.holder id me.0.seen (Raised taken) = subst (MayHold r.log r.turn r.holder id me.0.seen) is mine.hold in
      let w : View P E S = record me.0 { hold = Free; left = Some (state x) } in (
        w,
        gives,
        tt,
        subst (λ (c : List (ℕ × Option T)). MeetsRule project log_of first (stepped s 0 0 id c w gives)) (sym has)
            record {
              log = r.log;
              began = r.began;
              turn = 0;
              holder = id;
              home = some (Some x);
              words = ap (λ (ws : List ℕ). set ws 0 0) r.words;
              homes = ap (λ (hs : List (maybe.Option (Option T))). set hs 0 (some (Some x))) r.homes;
              bit = omega arith;
              at_home = λ _. record { value = x; home_is = refl; project_is = same; log_is = sym whole ∙ may.2 };
              away = λ e. absurd (omega arith);
              each = each_set (IsPassView (project first) r.log 0 id) s.views id w (record { project = mine.project; seen = mine.seen; shorter_seen = mine.shorter_seen; hold = tt })
                  (λ j u other e. beside (project first) r.log r.log r.turn 0 r.holder id j u (prefix_refl r.log) (λ _ z. other (z ∙ sym may.1)) (r.each j u e));
            },
        λ y e. let u : x ≡ y = in_slot x y me.1 has e in
            (λ i. (record me.0 { hold = Free; left = Some (state (u i)) }, ap rest has i)),
      )

  -- the table at the start
  pub opens : (q : S) (n : ℕ) (slots : List (Option T)) → n ≡ length (log_of first) → slots ≡ Some first ∷ [] → MeetsRule project log_of first (opening (0 ∷ n ∷ []) slots (first_view (project first) (log_of first) q))
  opens q n slots long only_one = record {
    log = log_of first;
    began = prefix_refl (log_of first);
    turn = 0;
    holder = 0;
    home = some (Some first);
    words = ap (λ (k : ℕ). 0 ∷ k ∷ []) long;
    homes = ap (Rattle.std.proofs.Common.map (λ (x : Option T). some x)) only_one;
    bit = omega arith;
    at_home = λ _. record { value = first; home_is = refl; project_is = refl; log_is = refl };
    away = λ e. absurd (omega arith);
    each = λ j v e. subst (IsPassView (project first) (log_of first) 0 0 j) (only (first_view (project first) (log_of first) q) v j e) (record { project = λ z f. sym (some_is (project first) z f); seen = prefix_refl (log_of first); shorter_seen = (log_of first, refl); hold = tt });
  }

  -- a new pass that holds no turn
  adds_view : (s : St T P E S) (r : MeetsRule project log_of first s) (w : View P E S) → w.hold ≡ Free → ((q : P) → w.project ≡ Some q → q ≡ project first) → IsPrefix w.seen r.log → IsPrefix w.shorter_seen r.log
      → MeetsRule project log_of first record { words = s.words; homes = s.homes; views = s.views ++ w ∷ [] }
  adds_view s r w out its_project seen short = record {
    log = r.log;
    began = r.began;
    turn = r.turn;
    holder = r.holder;
    home = r.home;
    words = r.words;
    homes = r.homes;
    bit = r.bit;
    at_home = r.at_home;
    away = λ e. let now = r.away e in record { home_is = now.home_is; view = now.view; at = at_longer s.views (w ∷ []) r.holder now.view now.at; turn = now.turn };
    each = λ j v e. ⊎_elim (r.each j v)
        (λ (t : w ≡ v). subst (IsPassView (project first) r.log r.turn r.holder j) t (record { project = its_project; seen = seen; shorter_seen = short; hold = subst (MayHold r.log r.turn r.holder j w.seen) (sym out) tt }))
        (at_snoc s.views w v j e);
  }

  -- a split and a join of passes, and the load after a join
  pub splits : (id : ℕ) (v : View P E S) → Splits (MeetsRule project log_of first) id v (after_split v) (split_off v)
  unfolding turns_view
  splits id v s r at =
      let mine = r.each id v at in
      let r' = turns_view s r id v (after_split v) at refl (record { project = mine.project; seen = mine.seen; shorter_seen = mine.shorter_seen; hold = mine.hold }) in
      adds_view record { words = s.words; homes = s.homes; views = set s.views id (after_split v) } r' (split_off v) refl mine.project mine.seen (r.log, refl)

  pub joins : (id : ℕ) (v : View P E S) (other : ℕ) (w : View P E S) → v.hold ≡ Free → w.hold ≡ Free → Joins (MeetsRule project log_of first) id v other w (after_join v w) spent_view
  unfolding turns_view
  joins id v other w out away s r at apart there =
      let mine = r.each id v at in
      let theirs = r.each other w (sym (set_else s.views id other (after_join v w) apart) ∙ there) in
      let b : Bool = nat_lt (length v.seen) (length w.seen) in
      let seen = one_of (λ l. IsPrefix l r.log) b v.seen w.seen mine.seen theirs.seen in
      let short = one_of (λ l. IsPrefix l r.log) b w.seen v.seen theirs.seen mine.seen in
      let r' = turns_view s r id v (after_join v w) at refl (record { project = mine.project; seen = seen; shorter_seen = short; hold = subst (MayHold r.log r.turn r.holder id (longer v.seen w.seen)) (sym out) tt }) in
      turns_view record { words = s.words; homes = s.homes; views = set s.views id (after_join v w) } r' other w spent_view there (sym away)
      (record { project = λ q e. absurd (none_some q e); seen = (r.log, refl); shorter_seen = (r.log, refl); hold = tt })

  pub compared : (slots id : ℕ) (me : PassSeat T P E S) → length me.0.shorter_seen ≤ length me.0.seen → Allows (MeetsRule project log_of first) slots id me 0 (λ n. n) (Compares (step slots 0 0 0 none) me)
  compared slots id me short s r deep at _ =
      let mine = r.each id me.0 at in (
        me.0,
        keeps,
        tt,
        subst (λ (ws : List ℕ). MeetsRule project log_of first record { words = ws; homes = s.homes; views = set s.views id me.0 }) (sym (set-get_or s.words 0 0))
            (turns_view s r id me.0 me.0 at refl mine),
        (refl, prefix_shorter me.0.shorter_seen me.0.seen r.log mine.shorter_seen mine.seen short),
      )

  -- the table at its end
  pub closes : (ws : List ℕ) (xs : List (Option T)) (f : Final (MeetsRule {S = S} project log_of first) ws xs) (turn : ℕ) → get_elem? ws 0 ≡ some turn → (slot : Option T) → get_elem? xs 0 ≡ some slot → turn ≡ 0
      → (x : T) × (slot ≡ Some x) × (f.0.homes ≡ some (Some x) ∷ []) × (project x ≡ project first) × (slice_index f.0.words 1 ≡ length (log_of x)) × (slice_index f.0.words 0 ≡ 0) × IsPrefix (log_of first) (log_of x)
  closes ws xs f turn is_turn slot is_slot free =
      let s = f.0 in
      let r : MeetsRule project log_of first s = f.1 in
      let found : r.turn ≡ turn = some-injective r.turn turn (ap (λ (l : List ℕ). get_elem? l 0) (sym r.words ∙ f.2) ∙ is_turn) in
      let home = r.at_home (found ∙ free) in
      let homes : s.homes ≡ some (Some home.value) ∷ [] = r.homes ∙ ap (λ h. h ∷ []) home.home_is in
      let back : get_elem? xs 0 ≡ some (Some home.value) = f.4 0 (Some home.value) (ap (λ (hs : List (maybe.Option (Option T))). get_elem? hs 0) homes) in (
        home.value,
        some-injective slot (Some home.value) (sym is_slot ∙ back),
        homes,
        home.project_is,
        ap (λ (ws : List ℕ). get_or ws 1 0) r.words ∙ ap length (sym home.log_is),
        ap (λ (ws : List ℕ). get_or ws 0 0) r.words ∙ (found ∙ free),
        subst (IsPrefix (log_of first)) (sym home.log_is) r.began,
      )

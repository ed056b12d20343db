-- A climb over the levels reads what the levels say.
use Rattle.std.proofs.Common.{◌≡◌, ◌≢◌, ◌⊎◌, inl, inr, ℕ, zero, suc, ◌-◌, ◌≤◌, ◌<◌, false, List, Option, Some, None, refl, sym, subst, arith}
use Rattle.std.proofs.lemmas.Bool.Decides.{leb_tells, eqb_tells}
use Rattle.gd_syntax.specs.declared.tree.expr.Expr.{Expr}
use Rattle.gd_syntax.specs.declared.fault.Place.{Place}
use Rattle.gd_syntax.specs.declared.fault.LoadFault.{LoadFault}
use Rattle.gd_syntax.specs.declared.token.Token.{Token}
use Rattle.gd_syntax.specs.declared.token.Mark.{Mark}
use Rattle.gd_syntax.specs.declared.token.Mark.TheVariants as m
use Rattle.gd_syntax.specs.TokenReading.{mark_at, place_at}
use Rattle.gd_syntax.specs.Operators.{level_of, operator_of, is_not}
use Rattle.gd_syntax.specs.ExprGrammar.{level, prefix, BinaryTurn}
use Rattle.gd_syntax.proofs.ExprSteps.{level_zero, level_suc}
use Rattle.gd_syntax.specs.Reading.{Outcome, Read, Stops, Reading, Then, goes, halts, looks, On, Loop}
use Rattle.gd_exprs.specs.After.{after}

pub not_word : (k : Option Mark) → operator_of k ≡ None → level_of k ≢ 0 → k ≡ Some m.Not
not_word (Some m.Not) e n = refl
not_word _ e n = absurd (first_of (cc, grind arith))

-- another first part
pub then_by : {A B : Type 0} (f g : Reading A) (rest : A → Reading B) (at to : ℕ) (o : Outcome B) → ((p : Outcome A) → f at p → g to p) → Then f rest at o → Then g rest to o
then_by f g rest at to o k (goes p q) = goes (k _ p) q
then_by f g rest at to o k (halts p) = halts (k _ p)

module _ (tokens : List Token) (room : ℕ) (inner : ℕ → ℕ → Reading Expr) where
  -- the levels above that of a form which has been read do what a climb does
  pub level_after : (start : ℕ) (done n : ℕ) (left : Expr) (at : ℕ) (o : Outcome Expr) → (done ≤ 8 → 9 ≤ n → is_not (mark_at tokens start) ≡ false)
      → done ≤ n → level tokens room inner done start (Read left at) → after tokens room inner (place_at tokens start) done n left at o → level tokens room inner n start o
  level_after start done zero left at o plain le h a =
      let e : done ≡ 0 = omega arith in
      let P : ℕ → Type 0 = λ k. level tokens room inner k start (Read left at) in
      rw a (subst P e h)
  level_after start done (suc n) left at o plain le h a = elim (leb_tells (suc n) done) [
    | inl t ↦
        let e : done ≡ suc n = omega (arith, t.1) in
        let all : o ≡ Read left at = rw t.0 at a in
        let P : ℕ → Type 0 = λ k. level tokens room inner k start (Read left at) in
        rw all (subst P e h)
    | inr t ↦
        let some : done ≤ n = omega (arith, t.1) in
        let b = rw t.0 at a in
        level_suc tokens room inner n start o (elim (eqb_tells n 8) [
          | inl u ↦ rw u.0 (looks (plain (omega (arith, u.1)) (omega (arith, u.1))) (level_after start done n left at o (λ x y. plain x (omega arith)) some h (rw u.0 at b)))
          | inr u ↦ rw u.0 (then_by _ _ _ at start o (λ p q. level_after start done n left at p (λ x y. plain x (omega arith)) some h q) (rw u.0 at b))
        ])
  ]

  pub level_stops : (start : ℕ) (n : ℕ) (f : LoadFault) → (9 ≤ n → is_not (mark_at tokens start) ≡ false) → prefix tokens room inner start (Stops f) → level tokens room inner n start (Stops f)
  level_stops start zero f plain h = level_zero tokens room inner start (Stops f) h
  level_stops start (suc n) f plain h = level_suc tokens room inner n start (Stops f) (elim (eqb_tells n 8) [
    | inl u ↦ rw u.0 (looks (plain (omega (arith, u.1))) (level_stops start n f (λ y. plain (omega arith)) h))
    | inr u ↦ rw u.0 (halts (level_stops start n f (λ y. plain (omega arith)) h))
  ])

  pub negation_stops : (start : ℕ) (n : ℕ) (f : LoadFault) → 9 ≤ n → level tokens room inner 9 start (Stops f) → level tokens room inner n start (Stops f)
  negation_stops start zero f le h = absurd (omega arith)
  negation_stops start (suc n) f le h = elim (eqb_tells n 8) [
    | inl u ↦ let P : ℕ → Type 0 = λ k. level tokens room inner (suc k) start (Stops f) in subst P (sym u.1) h
    | inr u ↦ level_suc tokens room inner n start (Stops f) (rw u.0 (halts (negation_stops start n f (let ne : n ≢ 8 = u.1 in omega arith) h)))
  ]

  module _ (place : Place) where
    -- where the next token is no operator of these levels
    pub after_ends : (done n : ℕ) (left : Expr) (at : ℕ) → (level_of (mark_at tokens at) ≤ done) ⊎ (n < level_of (mark_at tokens at)) → after tokens room inner place done n left at (Read left at)
    after_ends done zero left at h = refl
    after_ends done (suc n) left at h = elim (leb_tells (suc n) done) [
      | inl t ↦ rw t.0
      | inr t ↦
          let lt : done < suc n = t.1 in
          let other : level_of (mark_at tokens at) ≢ suc n = omega (arith, h) in
          let below : (level_of (mark_at tokens at) ≤ done) ⊎ (n < level_of (mark_at tokens at)) = elim h [ inl x ↦ inl x | inr x ↦ inr (omega arith) ] in
          rw t.0 (elim (eqb_tells n 8) [
            | inl u ↦ rw u.0 (after_ends done n left at below)
            | inr u ↦ rw u.0 (goes (after_ends done n left at below) (Loop.last (BinaryTurn.ends other)))
          ])
    ]

    after_done : (done n : ℕ) (left : Expr) (at : ℕ) (o : Outcome Expr) → n ≤ done → after tokens room inner place done n left at o → o ≡ Read left at
    after_done done zero left at o le a = a
    after_done done (suc n) left at o le a = elim (leb_tells (suc n) done) [ inl t ↦ rw t.0 at a | inr t ↦ absurd (let x : done < suc n = t.1 in omega arith) ]

    loop_first : (done n k : ℕ) (left : Expr) (at : ℕ) (o : Outcome Expr) → n ≤ done → Then (after tokens room inner place done n left) (Loop (BinaryTurn tokens room inner k place)) at o
        → Loop (BinaryTurn tokens room inner k place) left at o
    loop_first done n k left at o le (goes {a = x} {next = to} p q) =
        let e = after_done done n left at _ le p in
        let same : x ≡ left = cc e in
        let here : to ≡ at = cc e in
        let P : Expr → ℕ → Type 0 = λ y z. Loop (BinaryTurn tokens room inner k place) y z o in
        subst (λ z. P left z) here (subst (λ y. P y to) same q)
    loop_first done n k left at o le (halts p) = absurd (let e = after_done done n left at _ le p in cc e)

    -- a turn at the level that the next token has
    pub after_turn : (done l n : ℕ) (left next : Expr) (at to : ℕ) (o : Outcome Expr) → level_of (mark_at tokens at) ≡ l → done < l → l ≤ n → l ≢ 9
        → BinaryTurn tokens room inner l place left at (Read (On next) to) → after tokens room inner place (l - 1) n next to o → after tokens room inner place done n left at o
    after_turn done l zero left next at to o is lt le ne turn a = absurd (omega arith)
    after_turn done l (suc n) left next at to o is lt le ne turn a = elim (leb_tells (suc n) done) [
      | inl t ↦ absurd (let x : suc n ≤ done = t.1 in omega arith)
      | inr t ↦ rw t.0 (elim (leb_tells (suc n) (l - 1)) [
        | inl s ↦ absurd (let x : suc n ≤ l - 1 = s.1 in omega arith)
        | inr s ↦
            let b = rw s.0 at a in
            elim (eqb_tells n 8) [
              | inl u ↦ rw u.0 (let eight : n ≡ 8 = u.1 in after_turn done l n left next at to o is lt (omega arith) ne turn (rw u.0 at b))
              | inr u ↦ rw u.0 (elim (eqb_tells l (suc n)) [
                | inl v ↦
                    let e : l ≡ suc n = v.1 in
                    let T : ℕ → Type 0 = λ k. BinaryTurn tokens room inner k place left at (Read (On next) to) in
                    goes (after_ends done n left at (inr (omega arith))) (Loop.on (subst T e turn) (loop_first (l - 1) n (suc n) next to o (omega arith) (rw u.0 at b)))
                | inr v ↦
                    let less : l ≤ n = (let d : l ≢ suc n = v.1 in omega arith) in
                    then_by _ _ _ to at o (λ p q. after_turn done l n left next at to p is lt less ne turn q) (rw u.0 at b)
              ])
            ]
      ])
    ]

    pub after_stops : (done l n : ℕ) (left : Expr) (at : ℕ) (f : LoadFault) → level_of (mark_at tokens at) ≡ l → done < l → l ≤ n → l ≢ 9
        → BinaryTurn tokens room inner l place left at (Stops f) → after tokens room inner place done n left at (Stops f)
    after_stops done l zero left at f is lt le ne turn = absurd (omega arith)
    after_stops done l (suc n) left at f is lt le ne turn = elim (leb_tells (suc n) done) [
      | inl t ↦ absurd (let x : suc n ≤ done = t.1 in omega arith)
      | inr t ↦ rw t.0 (elim (eqb_tells n 8) [
        | inl u ↦ rw u.0 (let eight : n ≡ 8 = u.1 in after_stops done l n left at f is lt (omega arith) ne turn)
        | inr u ↦ rw u.0 (elim (eqb_tells l (suc n)) [
          | inl v ↦
              let e : l ≡ suc n = v.1 in
              let T : ℕ → Type 0 = λ k. BinaryTurn tokens room inner k place left at (Stops f) in
              goes (after_ends done n left at (inr (omega arith))) (Loop.stop (subst T e turn))
          | inr v ↦ let less : l ≤ n = (let d : l ≢ suc n = v.1 in omega arith) in halts (after_stops done l n left at f is lt less ne turn)
        ])
      ])
    ]

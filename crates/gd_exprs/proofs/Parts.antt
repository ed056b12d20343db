-- Small steps of readings that several rules share.
use Rattle.std.proofs.Common.{◌≡◌, ◌≢◌, ◌⊎◌, inl, inr, ℕ, zero, suc, ◌+◌, ◌-◌, ◌<◌, ◌≤◌, Bool, true, false, List, Some, None, Result, Ok, Err, length, refl, sym, subst, ap, ◌∙◌, arith}
use Rattle.std.specs.List.{slice_get}
use Rattle.std.proofs.lemmas.Option.{slice_get_past}
use denote.Enum.Bare.{sameb, same_true, same_false}
use Rattle.gd_syntax.specs.contracts.token.Mark.{the_type}
use Rattle.gd_syntax.specs.declared.token.Kind.{Kind}
use Rattle.gd_syntax.specs.declared.token.Kind.TheVariants.{Mark as Marked, Name, Int, Text}
use Rattle.gd_syntax.specs.declared.token.Mark.{Mark}
use Rattle.gd_syntax.specs.declared.token.Mark.TheVariants as m
use Rattle.gd_syntax.specs.declared.fault.SolveError.{SolveError}
use Rattle.gd_syntax.specs.declared.fault.SolveError.TheVariants.{Fault, NoMemory}
use Rattle.gd_syntax.specs.declared.fault.Place.{Place}
use Rattle.gd_syntax.specs.declared.token.Token.{Token}
use Rattle.gd_syntax.specs.declared.tree.expr.Expr.{Expr}
use Rattle.gd_syntax.specs.declared.tree.expr.Expr.TheVariants as e
use Rattle.gd_syntax.specs.Reading.{Outcome, Read, Stops, Reading, goes, Answers, Gives}
use Rattle.gd_syntax.specs.declared.fault.FaultKind.TheVariants.{Unsupported}
use Rattle.gd_syntax.specs.declared.fault.Form.TheVariants.{UidPath}
use Rattle.gd_syntax.specs.declared.stops.Sought.{Sought}
use Rattle.gd_syntax.specs.declared.stops.Sought.TheVariants.{Operand}
use Rattle.gd_syntax.specs.Refusals.{is_load}
use Rattle.gd_syntax.specs.TokenReading.{is_plain, is_uid, path_text_by, fault_at, any_name, plain_name, fits, refuse, kind_at, kind_of, mark_of, IsEnded}
use Rattle.gd_syntax.specs.ExprGrammar.{leaf, load, named, level, ternary, cast, form, deeper, expression}
use Rattle.gd_syntax.proofs.ExprSteps.{form_is, expression_is}
use Rattle.std.proofs.lemmas.Bool.Decides.{eqb_tells}

-- the limit, by the levels that the code counted
pub fits_with : (tokens : List Token) (room n m k at : ℕ) {o : Outcome (Unit {0})} → n ≡ m → fits tokens room (n + k) at o → fits tokens room (m + k) at o
fits_with tokens room n m k at {o} e h = subst (λ l. fits tokens room (l + k) at o) e h

module _ (tokens : List Token) (room : ℕ) (inner : ℕ → ℕ → Reading Expr) (place : Place) (text : List ℕ) (at : ℕ) (o : Outcome Expr) where
  pub named_plain : is_plain text ≡ true → leaf tokens room inner (e.Name place text) at o → named tokens room inner place text at o
  named_plain p h = rw p h

  pub named_load : is_plain text ≡ false → is_load text ≡ true → load tokens room inner place at o → named tokens room inner place text at o
  named_load p l h = rw (p, l) h

  pub named_refused : is_plain text ≡ false → is_load text ≡ false → refuse tokens Operand at o → named tokens room inner place text at o
  named_refused p l h = rw (p, l) h

-- an answer, where a reading has one outcome
pub gives_only : {A Y : Type 0} (R : Outcome A → Type 0) (g : Y → Outcome A) (r : Result Y SolveError)
    → ((p q : Outcome A) → R p → R q → p ≡ q) → Answers g r R → (o : Outcome A) → R o → Gives g r o
gives_only R g (Ok y) only h o x = only o (g y) x h
gives_only R g (Err NoMemory) only h o x = tt
gives_only R g (Err (Fault f)) only h o x = only o (Stops f) x h

same_mark : (a b : Mark) (s : Bool) → sameb the_type a b ≡ s → (a ≡ b) ⊎ (a ≢ b)
same_mark a b true e = inl (same_true the_type tt a b e)
same_mark a b false e = inr (same_false the_type a b e)

end_kind : (k : Kind) → (mark_of k ≢ Some m.End → ⊥) → k ≡ Marked m.End
end_kind (Marked a) h = elim (same_mark a m.End (sameb the_type a m.End) refl) [ inl e ↦ ap Marked e | inr n ↦ absurd (h (λ e. n (cc e))) ]
end_kind (Name text) h = absurd (h (λ e. cc e))
end_kind (Int n) h = absurd (h (λ e. cc e))
end_kind (Text text) h = absurd (h (λ e. cc e))

-- the last token is followed by itself
pub end_next : (tokens : List Token) (at : ℕ) → at < length tokens → length tokens ≤ at + 1 → IsEnded tokens → kind_at tokens at ≡ kind_at tokens (at + 1)
unfolding kind_at
end_next tokens at within last ended =
    end_kind (kind_of (slice_get tokens at)) (λ n. let more : at + 1 < length tokens = ended.goes_on at within n in omega arith) ∙ ap kind_of (sym (slice_get_past tokens (at + 1) last))

-- names outside dots
pub plain_some : (k : Kind) (text : List ℕ) → k ≡ Name text → is_plain text ≡ true → plain_name k ≡ Some text
plain_some k text e p = rw (e, p)

pub plain_none : (k : Kind) (text : List ℕ) → k ≡ Name text → is_plain text ≡ false → plain_name k ≡ None
plain_none k text e p = rw (e, p)

pub plain_other : (k : Kind) → ((text : List ℕ) → k ≢ Name text) → plain_name k ≡ None
plain_other (Name text) n = absurd (n text refl)
plain_other (Marked a) n = refl
plain_other (Int a) n = refl
plain_other (Text a) n = refl

-- the text of a path
pub path_uid : (tokens : List Token) (sought : Sought) (place : Place) (text : List ℕ) (at : ℕ) → is_uid text ≡ true
    → path_text_by tokens sought place (Text text) at (Stops (fault_at tokens (Unsupported UidPath) at))
path_uid tokens sought place text at u = rw u

pub path_some : (tokens : List Token) (sought : Sought) (place : Place) (text : List ℕ) (at : ℕ) → is_uid text ≡ false
    → path_text_by tokens sought place (Text text) at (Read (record { place = place; text = text }) (at + 1))
path_some tokens sought place text at u = rw u (goes refl refl)

-- ---- whole forms

module _ (tokens : List Token) (room : ℕ) (inner : ℕ → ℕ → Reading Expr) where
  same_form : (n m at : ℕ) (o : Outcome Expr) → m ≡ n → form tokens room inner n at o → form tokens room inner m at o
  same_form n m at o e h = let P : ℕ → Type 0 = λ k. form tokens room inner k at o in subst P (sym e) h

  pub form_cast : (n at : ℕ) (o : Outcome Expr) → n ≡ 13 → cast tokens room inner at o → form tokens room inner n at o
  form_cast n at o e h = same_form 13 n at o e (form_is tokens room inner 13 at o h)

  pub form_ternary : (n at : ℕ) (o : Outcome Expr) → n ≡ 12 → ternary tokens room inner at o → form tokens room inner n at o
  form_ternary n at o e h = same_form 12 n at o e (form_is tokens room inner 12 at o h)

  pub form_level : (n at : ℕ) (o : Outcome Expr) → n ≢ 13 → n ≢ 12 → level tokens room inner n at o → form tokens room inner n at o
  form_level n at o x y h = form_is tokens room inner n at o (elim (eqb_tells n 13) [
    | inl u ↦ absurd (x u.1)
    | inr u ↦ elim (eqb_tells n 12) [ inl v ↦ absurd (y v.1) | inr v ↦ rw (u.0, v.0) h ]
  ])

pub expression_of : (tokens : List Token) (room n at : ℕ) (o : Outcome Expr) → 1 ≤ room → form tokens room (deeper tokens (room - 1)) n at o → expression tokens room n at o
expression_of tokens zero n at o some h = absurd (omega arith)
expression_of tokens (suc room) n at o some h =
    let e : suc room - 1 ≡ room = omega arith in
    let P : ℕ → Type 0 = λ k. form tokens (suc room) (deeper tokens k) n at o in
    expression_is tokens room n at o (subst P e h)

pub any_other : (k : Kind) → ((text : List ℕ) → k ≢ Name text) → any_name k ≡ None
any_other (Name text) n = absurd (n text refl)
any_other (Marked a) n = refl
any_other (Int a) n = refl
any_other (Text a) n = refl

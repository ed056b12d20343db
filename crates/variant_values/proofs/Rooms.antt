-- What a weight leaves of a room.
use Rattle.std.proofs.Common.{◌≡◌, ℕ, ◌<◌, ◌≤◌, ◌-◌, cond, sym, ap, ◌∙◌, Some, None, is_some, inl, inr}
use Rattle.std.proofs.lemmas.Bool.{lt-leb, le-leb, cases_lt, false≢true}
use Rattle.variant_values.specs.Places.{room_left}

pub no_room : (room weight : ℕ) → room < weight → None ≡ room_left room weight
no_room room weight h = ap (λ b. cond b (Some (room - weight)) None) (sym (lt-leb weight room h))

pub room_has : (room weight left : ℕ) → Some left ≡ room_left room weight → (weight ≤ room) × (left ≡ room - weight)
room_has room weight left e = elim (cases_lt room weight) [
  | inl h ↦ absurd (false≢true (ap is_some (no_room room weight h ∙ sym e)))
  | inr h ↦ (h, cc (e, ap (λ b. cond b (Some (room - weight)) None) (le-leb weight room h)))
]

pub room_lacks : (room weight : ℕ) → None ≡ room_left room weight → room < weight
room_lacks room weight e = elim (cases_lt room weight) [
  | inl h ↦ h
  | inr h ↦ absurd (false≢true (ap is_some (e ∙ ap (λ b. cond b (Some (room - weight)) None) (le-leb weight room h))))
]

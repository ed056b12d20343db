-- The room of a walk.
use Rattle.std.specs.Prelude.{ℕ, Option, Some, None}
use Rattle.variant_values.specs.Places.{room_left}

-- what is left of a room for items after a walk comes to so many
abbrev pub left_after : ℕ → Option ℕ → Option ℕ
left_after room None = None
left_after room (Some n) = room_left room n

-- A format that is filled while its pattern is read.
use Rattle.std.specs.Prelude.{ℕ, zero, suc, true, ◌==◌, List, [], ◌∷◌, if◌then◌else◌, Option, Some, None}
use Rattle.variant_values.specs.declared.values.Value.{Value}
use Rattle.variant_values.specs.Formats.{Directive, Formatted, directive_at, followed, plain, starts_percent}

-- a directive takes the next value; `rest` is what is left behind so many bytes
abbrev pub at_directive : (Directive → Value → Formatted) → (ℕ → List Value → Formatted) → Option Directive → List Value → Formatted
at_directive value rest None args = None
at_directive value rest (Some d) [] = None
at_directive value rest (Some d) (v ∷ vs) = followed (value d v) (rest d.size vs)

-- The pattern with values in the places of its directives. The first `skip` bytes are those of a directive and are passed
-- over; `%%` is one `%`.
abbrev pub formatted_after : (Directive → Value → Formatted) → ℕ → List ℕ → List Value → Formatted
formatted_after value skip [] [] = Some (true, [])
formatted_after value skip [] (v ∷ vs) = None
formatted_after value (suc skip) (b ∷ bs) args = formatted_after value skip bs args
formatted_after value zero (b ∷ bs) args =
    if b == 37 then (if starts_percent bs then followed (plain (Some (37 ∷ []))) (formatted_after value 1 bs args) else at_directive value (λ n vs. formatted_after value n bs vs) (directive_at bs) args)
    else followed (plain (Some (b ∷ []))) (formatted_after value 0 bs args)

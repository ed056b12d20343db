-- The emission of a signal, whose connections as they stood at its start are given.
use Rattle.std.specs.Prelude.{ℕ, Bool, true, false, List, [], ◌∷◌, chars, Result, Ok}
use Rattle.variant_values.specs.declared.values.Serial.{Serial}
use Rattle.variant_values.specs.declared.values.Value.{Value}
use Rattle.variant_values.specs.declared.values.Value.TheVariants.{Null, Callable}
use Rattle.variant_values.specs.Heaps.{is_living}
use Rattle.script_meaning.specs.State.{Stop, ◌>>=◌}
use Rattle.script_meaning.specs.Meanings.{Site, Moment, At-site, gives}

-- a target that has gone is skipped; what a called method gives is held by the calling frame
abbrev pub called_if : Bool → At-site Value → Site → Moment → Result Moment Stop
called_if true call at m = do
  x ← call at m
  Ok x.1
called_if false call at m = Ok m

-- the connected method of an object that lives at its turn is called
abbrev pub target_turn : (Serial → List ℕ → List Value → At-site Value) → List Value → Value → Site → Moment → Result Moment Stop
target_turn call args (Callable s method) at m = called_if (is_living m.world.cells s.0) (call s (chars method) args) at m
target_turn call args v at m = Ok m

-- Each of these methods is called in turn, with the arguments of the emission. A fault in one of them is its own.
abbrev pub emission : (Serial → List ℕ → List Value → At-site Value) → List Value → List Value → At-site Value
emission call [] args at m = gives Null m
emission call (t ∷ ts) args at m = do
  next ← target_turn call args t at m
  emission call ts args at next

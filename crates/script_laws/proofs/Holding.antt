-- What values hold, as counts.
use Rattle.std.proofs.Common.{◌≡◌, ℕ, suc, ◌+◌, List, [], ◌∷◌, ◌++◌, ◌∙◌, ap, arith}
use Rattle.std.specs.List.{flat_map}
use Rattle.std.proofs.lemmas.List.Sums.{sum_by-append}
use Rattle.std.proofs.lemmas.List.Concat.{flat_map-append}
use Rattle.variant_values.specs.declared.values.Value.{Value}
use Rattle.variant_values.specs.declared.values.Value.TheVariants.{Array, Dict}
use Rattle.variant_values.specs.Places.{in_value, in_values}
use Rattle.script_meaning.specs.State.{Local, Frame, cells_held, holds_of, joined, placed_in, received}
use Rattle.script_laws.specs.Knowing.{Covers, Stays}
use Rattle.script_meaning.specs.Meanings.{Moment, Site, frame_of, frames_of}

pub stays_covered : (held : List Value) (v : Value) → Covers (cells_held v) held → Stays held v
stays_covered held (Array s) c = c
stays_covered held (Dict s) c = c
stays_covered held v c = tt

pub stays_more : (few many : List Value) (v : Value) → Covers few many → Stays few v → Stays many v
stays_more few many (Array s) c k = λ x n. k x (c x n)
stays_more few many (Dict s) c k = λ x n. k x (c x n)
stays_more few many v c k = tt

pub in_both : (x : ℕ) (vs ws : List Value) → in_values x (vs ++ ws) ≡ in_values x vs + in_values x ws
in_both x vs ws = sum_by-append (in_value x) vs ws

-- the cells of locals
abbrev pub cells_of : List Local → List Value
cells_of locals = flat_map (λ l. cells_held l.value) locals

pub covers_itself : (vs : List Value) → Covers vs vs
covers_itself vs = λ x n. n

pub covers_left : (vs ws : List Value) → Covers vs (vs ++ ws)
covers_left vs ws = λ x n. omega (arith, in_both (suc x) vs ws, n)

pub covers_right : (vs ws : List Value) → Covers ws (vs ++ ws)
covers_right vs ws = λ x n. omega (arith, in_both (suc x) vs ws, n)

-- what the active frames hold, the innermost last
pub frames_hold : (x : ℕ) (outer : List Frame) (f : Frame) → in_values x (holds_of (outer ++ f ∷ [])) ≡ in_values x (holds_of outer) + in_values x f.holds
frames_hold x outer f =
    ap (in_values x) (flat_map-append (λ (f : Frame). f.holds) outer (f ∷ []))
    ∙ omega (arith, in_both x (holds_of outer) (holds_of (f ∷ [])), in_both x f.holds [])

pub site_holds : (x : ℕ) (s : Site) (m : Moment) → in_values x (holds_of (frames_of s m)) ≡ in_values x (holds_of s.outer) + (in_values x s.placed + in_values x m.held)
site_holds x s m = omega (arith, frames_hold x s.outer (frame_of s m), in_both x s.placed m.held)

pub placed_holds : (x : ℕ) (self : Value) (locals : List Local) → in_values x (placed_in self locals) ≡ in_values x (cells_held self) + in_values x (cells_of locals)
placed_holds x self locals = in_both x (cells_held self) (cells_of locals)

pub locals_hold : (x : ℕ) (locals more : List Local) → in_values x (cells_of (locals ++ more)) ≡ in_values x (cells_of locals) + in_values x (cells_of more)
locals_hold x locals more = ap (in_values x) (flat_map-append (λ (l : Local). cells_held l.value) locals more) ∙ in_both x (cells_of locals) (cells_of more)

-- a local's value is held
pub local_held : (l : Local) (ls : List Local) → Covers (cells_held l.value) (cells_of (l ∷ ls))
local_held l ls = λ x n. omega (arith, in_both (suc x) (cells_held l.value) (cells_of ls), n)

pub received_holds : (v : Value) (x : ℕ) (f : Frame) (fs : List Frame) → in_values x (holds_of (received v (f ∷ fs))) ≡ in_values x (holds_of (f ∷ fs)) + in_values x (cells_held v)
received_holds v x f [] = omega (arith, in_both x (joined v f.holds) [], in_both x f.holds [], in_both x f.holds (cells_held v))
received_holds v x f (g ∷ gs) = omega (arith, received_holds v x g gs, in_both x f.holds (holds_of (received v (g ∷ gs))), in_both x f.holds (holds_of (g ∷ gs)))

pub received_covers : (v : Value) (outer : List Frame) → Covers (holds_of outer) (holds_of (received v outer))
received_covers v [] = λ x n. n
received_covers v (f ∷ fs) = λ x n. omega (arith, received_holds v (suc x) f fs, n)

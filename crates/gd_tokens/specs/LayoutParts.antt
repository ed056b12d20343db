-- The blocks that the lines of a text open and close.
use Rattle.std.specs.Prelude.{◌≡◌, ℕ, Bool, List, [], ◌∷◌, replicate, reverse, Option, Some, None, Result, Ok, Err}
use Rattle.gd_syntax.specs.declared.token.Mark.{Mark}
use Rattle.gd_syntax.specs.declared.token.Mark.TheVariants.{Indent, Dedent}
use Rattle.gd_syntax.specs.Layout as spec
use Rattle.gd_tokens.specs.declared.layout.Blocks.{Blocks}
use Rattle.gd_tokens.specs.declared.layout.Blocks.TheVariants.{Opened, Closed}
use Rattle.gd_tokens.specs.declared.layout.Layout.{Layout}
use Rattle.gd_tokens.specs.declared.layout.LayoutError.{LayoutError}
use Rattle.gd_tokens.specs.declared.layout.LayoutError.TheVariants.{Fault, NoMemory}

abbrev pub layout_of : Layout → spec.Layout
layout_of layout = record { unit = layout.unit; depths = reverse layout.depths.items; opens = layout.opens }

abbrev pub marks_of : Blocks → List Mark
marks_of Opened = Indent ∷ []
marks_of (Closed n) = replicate n Dedent

-- what a depth opens and closes, and the depths that are then open
abbrev pub IsDepth : Bool → ℕ → List ℕ → Option Blocks → List ℕ → Type 0
IsDepth opens depth old None new = spec.blocks_at opens depth old ≡ None
IsDepth opens depth old (Some blocks) new = spec.blocks_at opens depth old ≡ Some (record { marks = marks_of blocks; depths = new })

-- what the blanks of a line open and close, and the layout behind it
abbrev pub IsEntered : spec.Layout → List ℕ → Bool → Result Blocks LayoutError → spec.Layout → Type 0
IsEntered old indent opens (Ok blocks) new = spec.indented old indent opens ≡ Ok (marks_of blocks, new)
IsEntered old indent opens (Err (Fault kind)) new = spec.indented old indent opens ≡ Err kind
IsEntered old indent opens (Err NoMemory) new = Unit {0}

-- Values that name no cell.
use Rattle.std.specs.Prelude.{Bool, true, false}
use Rattle.variant_values.specs.declared.values.Value.{Value}
use Rattle.variant_values.specs.declared.values.Value.TheVariants.{Null, Bool as Truth, Int, Str}

abbrev pub is_plain : Value → Bool
is_plain Null = true
is_plain (Truth b) = true
is_plain (Int n) = true
is_plain (Str text) = true
is_plain v = false

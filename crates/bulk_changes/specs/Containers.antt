-- What a new item is in an array of containers.
use Rattle.std.specs.Prelude.{[], None}
use Rattle.variant_values.specs.declared.cells.Cell.{Cell}
use Rattle.variant_values.specs.declared.cells.Cell.TheVariants.{Array as ArrayCell, Dict as DictCell}
use Rattle.variant_values.specs.declared.values.Serial.{Serial}
use Rattle.variant_values.specs.declared.values.Value.{Value}
use Rattle.variant_values.specs.declared.values.Value.TheVariants.{Array, Dict}
use Rattle.bulk_changes.specs.declared.resizes.Container.{Container}
use Rattle.bulk_changes.specs.declared.resizes.Container.TheVariants.{Array as OfArrays, Dict as OfDicts}

-- the cell of a new one
abbrev pub empty_cell : Container → Cell
empty_cell OfArrays = ArrayCell [] None
empty_cell OfDicts = DictCell []

-- the value that names it
abbrev pub named : Container → Serial → Value
named OfArrays s = Array s
named OfDicts s = Dict s

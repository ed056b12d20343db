use Rattle.std.proofs.Common.{sym, ◌∙◌, ap, Option, Some, List}
use Rattle.variant_values.specs.declared.values.Key.{Key}
use Rattle.variant_values.specs.declared.values.Value.{Value}
use Rattle.variant_values.specs.declared.cells.Cell.{Cell}
use Rattle.variant_values.specs.declared.cells.Cell.TheVariants.{Dict as DictCell}
use Rattle.variant_values.specs.Keys.{without_entry}
use Rattle.variant_values.specs.Heaps.{entries_of, entries_put}
use Rattle.ref_objects.proofs.Putting.{put_done}
use Rattle.ref_objects.proofs.dicts.take_entry.Goals as goal

pub returns-clause-put : goal.returns-clause-put
returns-clause-put c = put_done c.args.slots.now.items c.take_cell.new.slots.items c.put_cell.new.slots.items c.args.x _ _ c.requires.within c.in-Some-Dict.ensures.slots c.put_cell.ensures (ap (λ (s : Option Cell). entries_put (without_entry (entries_of s) c.args.key.now) s) (sym c.in-Some-Dict.ensures.cell ∙ ap (λ (d : Cell). Some d) c.in-Some-Dict.field-0-is) ∙ ap (λ (es : List (Key × Value)). Some (DictCell es)) (sym c.remove-before.ensures.new))

use Rattle.std.proofs.Common.{◌≡◌, ℕ, Bool, List, length}
use Rattle.std.specs.Str.{IsUtf8}
use Rattle.variant_values.specs.Heaps.{KnowsAll}
use Rattle.string_calls.specs.Drafts.{Grows}
use Rattle.variant_values.specs.Formats.{followed, formatted_value}
use Rattle.string_calls.specs.Passes.{formatted_after}
use Rattle.string_calls.proofs.Drafting.{found}
use Rattle.string_calls.proofs.formats.Draft.fill.Given as goal

abbrev pub decreases-loop-before : goal.decreases-loop-before
decreases-loop-before l = length l.rest

abbrev pub invariant-loop-before : goal.invariant-loop-before
invariant-loop-before l = record {
  utf8 : IsUtf8 l.rest;
  known : KnowsAll l.heap.state.cells l.left;
  filled : (fits : Bool) × ((text : List ℕ) × ((formatted_after (formatted_value l.heap.state.cells l.names) 0 l.pattern l.values ≡ followed (found fits text) (formatted_after (formatted_value l.heap.state.cells l.names) 0 l.rest l.left)) × Grows l.initial.self l.self fits text));
}

use Rattle.std.proofs.Common.{◌≡◌, ◌++◌, length, map}
use Rattle.std.specs.Str.{IsUtf8}
use Rattle.std.specs.List.{list_all}
use Rattle.variant_values.specs.ValueTexts.{fits_string}
use Rattle.variant_values.specs.declared.values.Value.TheVariants.{Str}
use Rattle.variant_values.specs.StringMethods.{parts}
use Rattle.string_calls.proofs.joins.parts.Given as goal

abbrev pub decreases-loop-part : goal.decreases-loop-part
decreases-loop-part l = length l.rest

abbrev pub invariant-loop-part : goal.invariant-loop-part
invariant-loop-part l = record {
  utf8 : IsUtf8 l.rest;
  found : l.found ++ map (λ t. Str t) (parts l.by l.rest) ≡ map (λ t. Str t) (parts l.by l.text);
  fits : list_all fits_string (parts l.by l.text) ≡ list_all fits_string (parts l.by l.rest);
}

use Rattle.std.proofs.Common.{◌≡◌, ◌++◌, length}
use Rattle.std.specs.Str.{IsUtf8}
use Rattle.variant_values.specs.StringMethods.{replaced}
use Rattle.string_calls.proofs.joins.write_replaced.Given as goal

abbrev pub decreases-loop-part : goal.decreases-loop-part
decreases-loop-part l = length l.rest

abbrev pub invariant-loop-part : goal.invariant-loop-part
invariant-loop-part l = record {
  utf8 : IsUtf8 l.rest;
  out : l.out ++ replaced l.what l.«with» l.rest ≡ l.initial.out ++ replaced l.what l.«with» l.text;
}

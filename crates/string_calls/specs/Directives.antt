-- A directive of the code, as its meaning has it.
use Rattle.std.specs.Prelude.{ℕ}
use Rattle.string_calls.specs.declared.directives.Conversion.{Conversion}
use Rattle.string_calls.specs.declared.directives.Conversion.TheVariants.{Text, Decimal, LowerHex, UpperHex, Octal, Character}
use Rattle.string_calls.specs.declared.directives.Directive.{Directive as Found}
use Rattle.variant_values.specs.Formats.{Directive}

abbrev pub letter_of : Conversion → ℕ
letter_of Text = 115
letter_of Decimal = 100
letter_of LowerHex = 120
letter_of UpperHex = 88
letter_of Octal = 111
letter_of Character = 99

abbrev pub directive_of : Found → Directive
directive_of d = record {
  left = d.left;
  zeros = d.zeros;
  plus = d.plus;
  width = d.width;
  letter = letter_of d.conversion;
  size = d.size;
}

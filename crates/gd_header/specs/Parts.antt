-- The answers of the code as those of the definitions.
use Rattle.std.specs.Prelude.{ℕ, List}
use Rattle.std.specs.Borrow.{Bor}
use Rattle.std.specs.Str.{chars}
use Rattle.gd_syntax.specs.declared.fault.Place.{Place}
use Rattle.gd_syntax.specs.Header.{Global, Part as Stands, passed, keyword, unended}
use Rattle.gd_header.specs.declared.parts.Part.{Part}
use Rattle.gd_header.specs.declared.parts.Part.TheVariants.{Passed, Keyword, Unended}

abbrev pub part_of : Part → Stands
part_of (Passed n) = passed n
part_of Keyword = keyword
part_of Unended = unended

-- how many characters a part has, if it tells
abbrev pub size_of : Part → ℕ
size_of (Passed n) = n
size_of Keyword = 10
size_of Unended = 1

-- a name and its place
abbrev pub global_in : Bor (List ℕ) × Place → Global
global_in found = record { name = chars found.0.now; place = found.1 }

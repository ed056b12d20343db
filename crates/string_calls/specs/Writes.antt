-- What a call does that writes a text, or collects the parts of one.
use Rattle.std.specs.Prelude.{◌≡◌, true, ◌<◌, ◌≤◌, map, [], ◌∷◌, ℕ, List, ◌++◌, length, Result, Ok, Err}
use Rattle.std.specs.List.{list_all}
use Rattle.variant_values.specs.declared.faults.RunFault.TheVariants.{TooLong}
use Rattle.variant_values.specs.declared.faults.Trouble.{Trouble}
use Rattle.variant_values.specs.declared.faults.Trouble.TheVariants.{Fault, NoMemory}
use Rattle.variant_values.specs.Operators.{longest}
use Rattle.variant_values.specs.declared.values.Value.{Value}
use Rattle.variant_values.specs.declared.values.Value.TheVariants.{Str}
use Rattle.variant_values.specs.Operators.{most_items}
use Rattle.variant_values.specs.ValueTexts.{fits_string}

-- the text was written behind the old one, or both are longer than a string may be
abbrev pub Writes : {A : Type 0} → List ℕ → List ℕ → Result A Trouble → List ℕ → Type 0
Writes old new (Ok a) text = new ≡ old ++ text
Writes old new (Err (Fault fault)) text = (fault ≡ TooLong) × (longest < length (old ++ text))
Writes old new (Err NoMemory) text = Unit {0}

-- The values are the strings of the texts, or a text is longer than a string may be, or the texts are more than an array
-- may have items.
abbrev pub FindsParts : Result (List Value) Trouble → List (List ℕ) → Type 0
FindsParts (Ok found) texts = (found ≡ map (λ t. Str t) texts) × ((list_all fits_string texts ≡ true) × (length texts ≤ most_items))
FindsParts (Err (Fault fault)) texts = (fault ≡ TooLong) × (list_all fits_string texts ≡ true → most_items < length texts)
FindsParts (Err NoMemory) texts = Unit {0}

-- a string was put last, or the text is too long for one, or there was no room
abbrev pub PushesPart : {A : Type 0} → List Value → List Value → Result A Trouble → List ℕ → Type 0
PushesPart old new (Ok a) text = (new ≡ old ++ Str text ∷ []) × ((fits_string text ≡ true) × (length old < most_items))
PushesPart old new (Err (Fault fault)) text = (fault ≡ TooLong) × (fits_string text ≡ true → most_items ≤ length old)
PushesPart old new (Err NoMemory) text = Unit {0}

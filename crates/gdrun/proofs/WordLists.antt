-- The words as a list of at least three, or of fewer.
use Rattle.std.proofs.Common.{◌≡◌, ◌<◌, ◌≤◌, List, [], ◌∷◌, length, get_or, drop, take, ◌-◌, refl, arith}
use Rattle.std.proofs.lemmas.List.{take_all}
use Rattle.std.specs.Prelude.{String, string_bytes}
use Rattle.std.specs.declared.alloc.Global.{Global}
use Rattle.gdrun.specs.Words.{texts_of}
use Rattle.gdrun.specs.Words.{command_of, command_of_parts, no_command}

pub few : (words : List (String Global)) → length words < 3 → no_command ≡ command_of (texts_of words)
few [] short = refl
few (a ∷ []) short = refl
few (a ∷ b ∷ []) short = refl
few (a ∷ b ∷ c ∷ rest) short = absurd (omega arith)

pub many : (words rest : List (String Global)) (verb path : String Global) → 3 ≤ length words → verb ≡ get_or words 0 verb → path ≡ get_or words 2 path → rest ≡ take (length words - 3) (drop 3 words) → command_of_parts (string_bytes verb) (string_bytes path) (texts_of rest) ≡ command_of (texts_of words)
many [] rest verb path long first third is = absurd (omega arith)
many (a ∷ []) rest verb path long first third is = absurd (omega arith)
many (a ∷ b ∷ []) rest verb path long first third is = absurd (omega arith)
many (a ∷ b ∷ c ∷ words) rest verb path long first third is =
    let all : take (length (a ∷ b ∷ c ∷ words) - 3) words ≡ words = take_all _ words (omega arith) in
    rw (first, third, is, all) refl

-- A file that is not there yet is put last.
use Rattle.std.proofs.Common.{◌≡◌, ◌∙◌, ap, ℕ, nat_eq, List, [], ◌∷◌, ◌++◌, Option, Some, None, refl, sym}
use Rattle.std.specs.Map.{lookup}
use Rattle.std.specs.Option.{option_map}
use Rattle.std.proofs.lemmas.List.{map-append}
use Rattle.std.proofs.lemmas.Map.Made.{lookup-map_values}
use Rattle.std.specs.declared.sync.Arc.{Arc}
use Rattle.std.specs.declared.alloc.Global.{Global}
use Rattle.folder_meaning.specs.declared.facts.FileFacts.{FileFacts}
use Rattle.folder_meaning.specs.KnownFiles.{facts_of, files_of}

abbrev pub Shares : Type 0
Shares = Arc FileFacts Global

abbrev pub facts_in : Option Shares → Option FileFacts
facts_in share = option_map (λ (s : Shares). s.value) share

-- a file's facts are what its share has
pub found : (pairs : List (ℕ × Shares)) (file : ℕ) (share : Option Shares) → share ≡ lookup (nat_eq file) pairs → facts_in share ≡ facts_of (files_of pairs) file
found pairs file share is = ap facts_in is ∙ sym (lookup-map_values (λ (s : Shares). s.value) (nat_eq file) pairs)

none_in : (share : Option Shares) → facts_in share ≡ None → share ≡ None
none_in (Some share) none = cc none
none_in None none = refl

pub not_there : (pairs : List (ℕ × Shares)) (file : ℕ) → facts_of (files_of pairs) file ≡ None → lookup (nat_eq file) pairs ≡ None
not_there pairs file none = none_in (lookup (nat_eq file) pairs) (found pairs file _ refl ∙ none)

pub put_last : (pairs : List (ℕ × Shares)) (file : ℕ) (share : Shares) → files_of (pairs ++ (file, share) ∷ []) ≡ files_of pairs ++ (file, share.value) ∷ []
put_last pairs file share = map-append {B = ℕ × FileFacts} (λ pair. (pair.0, pair.1.value)) pairs ((file, share) ∷ [])

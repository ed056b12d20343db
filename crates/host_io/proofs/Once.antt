-- Sorted paths, of which equal neighbours are taken out.
use Rattle.std.proofs.Common.{◌≡◌, ℕ, Bool, true, false, List, [], ◌∷◌, ◌++◌, map, sym, ap, All, IsTrue}
use Rattle.std.specs.Prelude.{String, string_bytes, if◌then◌else◌}
use Rattle.std.specs.declared.alloc.Global.{Global}
use Rattle.std.specs.declared.cmp.Ordering.TheVariants.{Less}
use Rattle.std.specs.Ordering.{is_eq}
use Rattle.std.specs.List.{IsDistinct, AllByRecursion, dedup}
use Rattle.std.specs.List.Sorted.{IsPermutation, IsSorted, IsStrictlySortedBy}
use Rattle.std.specs.List.Retain.{IsFiltered, DiffersFromLast}
use Rattle.std.specs.String.{string_cmp, string_eq, string_cmp_total}
use Rattle.std.proofs.lemmas.List.Elements.{All-map, All-push, All-nil, All-cons, All-head, All-tail}
use Rattle.std.proofs.lemmas.List.{map-append}
use Rattle.std.proofs.lemmas.List.Filters.{dedup_is, All-dedup}
use Rattle.std.proofs.lemmas.List.Kept.{IsStrictlySortedBy-dedup}
use Rattle.std.proofs.lemmas.List.Sorted.{All-permutation, IsPermutation-map}
use Rattle.std.proofs.lemmas.Map.Text.{is_eq-slice_cmp}
use Rattle.host_io.specs.Folder.{texts, AreProjectPaths}
use Rattle.host_io.specs.Paths.{same_path}
use Rattle.res_paths.specs.Paths.{is_project_path}

far : (s : String Global) (ss : List (String Global)) → AllByRecursion (λ y. string_cmp s y ≡ Less) ss → AllByRecursion (λ y. same_path (string_bytes s) y ≡ false) (texts ss)
far s [] below = tt
far s (y ∷ ss) below = (ap is_eq below.0, far s ss below.1)

apart : (ss : List (String Global)) → IsStrictlySortedBy string_cmp ss → IsDistinct same_path (texts ss)
unfolding IsStrictlySortedBy IsDistinct
apart [] up = tt
apart (s ∷ ss) up = (far s ss up.0, apart ss up.1)

pub once : (sorted kept : List (String Global)) → IsSorted string_cmp sorted → IsFiltered (DiffersFromLast string_eq) [] sorted kept → IsDistinct same_path (texts kept)
once sorted kept up filtered =
    rw (dedup_is string_eq sorted kept filtered) (apart (dedup string_eq sorted) (IsStrictlySortedBy-dedup string_cmp_total (λ x y. sym (is_eq-slice_cmp (string_bytes x) (string_bytes y))) sorted up))

pub unmapped : {X : Type 0} (P : List ℕ → Type 0) (f : X → List ℕ) (xs : List X) → All P (map f xs) → All (λ x. P (f x)) xs
unmapped P f [] all = All-nil (λ x. P (f x))
unmapped P f (x ∷ xs) all = All-cons (λ x. P (f x)) x xs (All-head P (f x) (map f xs) all) (unmapped P f xs (All-tail P (f x) (map f xs) all))

pub form : (paths sorted kept : List (String Global)) → IsPermutation paths sorted → IsFiltered (DiffersFromLast string_eq) [] sorted kept → AreProjectPaths (texts paths) → AreProjectPaths (texts kept)
form paths sorted kept moved filtered all =
    let sorted_all : AreProjectPaths (texts sorted) = All-permutation (λ p. IsTrue (is_project_path p)) (texts paths) (texts sorted) (IsPermutation-map string_bytes paths sorted moved) all in
    let strings : All (λ s. IsTrue (is_project_path (string_bytes s))) sorted = unmapped (λ p. IsTrue (is_project_path p)) string_bytes sorted sorted_all in
    rw (dedup_is string_eq sorted kept filtered) (All-map (λ p. IsTrue (is_project_path p)) string_bytes (dedup string_eq sorted) (All-dedup string_eq (λ s. IsTrue (is_project_path (string_bytes s))) sorted strings))

-- one more path, unless there is no memory for it
pub form-push : (b : Bool) (paths more : List (String Global)) (path : String Global) → AreProjectPaths (texts paths) → IsTrue (is_project_path (string_bytes path)) → more ≡ (if b then paths ++ path ∷ [] else paths) → AreProjectPaths (texts more)
form-push false paths more path all one is = rw is all
form-push true paths more path all one is = rw (is, map-append) (All-push (λ p. IsTrue (is_project_path p)) (texts paths) (string_bytes path) all one)

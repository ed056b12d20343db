-- The files of a folder in memory, in ascending order of paths.
use Rattle.std.proofs.Common.{◌≡◌, ◌<◌, ℕ, true, false, List, [], ◌∷◌, map, length, get_or, refl, sym, ◌∙◌, arith, All, IsTrue, Some, None, Vec}
use Rattle.std.specs.Prelude.{String, string_bytes}
use Rattle.std.specs.declared.alloc.Global.{Global}
use Rattle.std.specs.declared.cmp.Ordering.{Ordering}
use Rattle.std.specs.declared.cmp.Ordering.TheVariants.{Less, Equal, Greater}
use Rattle.std.specs.Ordering.{is_eq, ordering_index}
use Rattle.std.specs.Cmp.{eq_by_cmp_equiv}
use Rattle.std.specs.Cmp.Lexicographic.{nat_list_cmp_total}
use Rattle.std.specs.List.{IsDistinct, slice_get}
use Rattle.std.specs.List.Sorted.{IsPermutation, IsPartitionPoint, IsNonDecreasingBy, IsSortedByKey}
use Rattle.std.specs.FinMap.{find, get, get-from_entries, same_map, slice_cmp-IsAntisymmetric, nat_cmp-IsAntisymmetric}
use Rattle.std.specs.Map.{lookup}
use Rattle.std.proofs.lemmas.List.Elements.{All-head, All-tail}
use Rattle.std.proofs.lemmas.List.Sorted.{Contains-permutation, IsPermutation-sym, IsPermutation-map, All-permutation, searchable_from_sorted}
use Rattle.std.proofs.lemmas.Map.Entries.{place_from_lookup, lookup_from_place}
use Rattle.std.proofs.lemmas.Map.Keys.{IsDistinct-IsPermutation}
use Rattle.std.proofs.lemmas.Option.{slice_get-map, slice_get_within, slice_get_read, get_or_from_slice_get}
use Rattle.std.proofs.lemmas.Simd.{map-map}
use Rattle.host_io.specs.Folder.{AreProjectPaths}
use Rattle.host_io.specs.Memory.{entries_of, paths_of, files_of}
use Rattle.host_io.specs.Paths.{path_order, same_path}
use Rattle.res_paths.specs.Paths.{is_project_path}

equal_of : (o : Ordering) → is_eq o ≡ true → o ≡ Equal
equal_of Less e = cc
equal_of Equal e = refl
equal_of Greater e = cc

tied : (p q : List ℕ) → path_order p q ≡ Equal → p ≡ q
tied = slice_cmp-IsAntisymmetric nat_cmp-IsAntisymmetric

as_lookup : (q : List ℕ) (es : List (List ℕ × List ℕ)) → find path_order q es ≡ lookup (same_path q) es
as_lookup q es = refl

keys_are_paths : (files : List (String Global × Vec ℕ Global)) → map (λ e. e.0) (entries_of files) ≡ paths_of files
keys_are_paths files = simp map-map

-- An entry is found wherever it stands.
found_after : (es fs : List (List ℕ × List ℕ)) → IsPermutation es fs → IsDistinct same_path (map (λ e. e.0) fs) → (q v : List ℕ) → find path_order q es ≡ Some v → find path_order q fs ≡ Some v
found_after es fs moved once q v found =
    let place = place_from_lookup (same_path q) es v found in
    let key = place.1 in
    let there = Contains-permutation es fs (key, v) moved (place.0, slice_get_within es place.0 (key, v) place.2, get_or_from_slice_get es place.0 (key, v) (key, v) place.2) in
    let at : slice_get fs there.0 ≡ Some (key, v) = slice_get_read fs (length fs) there.0 (key, v) refl there.1 (sym there.2) in
    let same : q ≡ key = tied q key (equal_of _ place.3) in
    rw same (lookup_from_place (eq_by_cmp_equiv nat_list_cmp_total) fs there.0 key v once at)

same_finds : (es fs : List (List ℕ × List ℕ)) → IsPermutation es fs → IsDistinct same_path (map (λ e. e.0) es) → IsDistinct same_path (map (λ e. e.0) fs) → (q : List ℕ) → find path_order q es ≡ find path_order q fs
same_finds es fs moved once once' q =
    elim (find path_order q es) as (λ o. find path_order q es ≡ o → o ≡ find path_order q fs) [
      | Some v ↦ λ found. sym (found_after es fs moved once' q v found)
      | None ↦ λ missed. elim (find path_order q fs) as (λ o. find path_order q fs ≡ o → None ≡ o) [
        | Some v ↦ λ found. let back = found_after fs es (IsPermutation-sym es fs moved) once q v found in cc
        | None ↦ λ _. refl
      ] refl
    ] refl

module _ (files sorted : List (String Global × Vec ℕ Global)) (moved : IsPermutation files sorted) where
  pub once_sorted : IsDistinct same_path (paths_of files) → IsDistinct same_path (paths_of sorted)
  once_sorted once = IsDistinct-IsPermutation same_path (eq_by_cmp_equiv nat_list_cmp_total).symm (paths_of files) (paths_of sorted) (IsPermutation-map (λ f. string_bytes f.0) files sorted moved) once

  pub form_sorted : AreProjectPaths (paths_of files) → AreProjectPaths (paths_of sorted)
  form_sorted all = All-permutation (λ p. IsTrue (is_project_path p)) (paths_of files) (paths_of sorted) (IsPermutation-map (λ f. string_bytes f.0) files sorted moved) all

  pub same_files : IsDistinct same_path (paths_of files) → files_of sorted ≡ files_of files
  same_files once =
      let moved_entries = IsPermutation-map (λ f. (string_bytes f.0, f.1.items)) files sorted moved in
      let keys : IsDistinct same_path (map (λ e. e.0) (entries_of files)) = rw (keys_are_paths files) once in
      let keys' : IsDistinct same_path (map (λ e. e.0) (entries_of sorted)) = rw (keys_are_paths sorted) (once_sorted once) in
      same_map nat_list_cmp_total tied (files_of sorted) (files_of files)
      (λ q. get-from_entries nat_list_cmp_total (entries_of sorted) q ∙ sym (same_finds (entries_of files) (entries_of sorted) moved_entries keys keys' q) ∙ sym (get-from_entries nat_list_cmp_total (entries_of files) q))

-- A search among them.
module _ (files : List (String Global × Vec ℕ Global)) (path : List ℕ) where
  pub found : (place : ℕ) (file : String Global × Vec ℕ Global) → IsDistinct same_path (paths_of files) → place < length files → file ≡ get_or files place file → path_order (string_bytes file.0) path ≡ Equal → Some file.1.items ≡ get (files_of files) path
  found place file once within is equal =
      let entry : List ℕ × List ℕ = (string_bytes file.0, file.1.items) in
      let keys : IsDistinct same_path (map (λ e. e.0) (entries_of files)) = rw (keys_are_paths files) once in
      let read : slice_get files place ≡ Some file = slice_get_read files (length files) place file refl within is in
      let at : slice_get (entries_of files) place ≡ Some entry = slice_get-map (λ f. (string_bytes f.0, f.1.items)) files place ∙ rw read refl in
      let here : find path_order (string_bytes file.0) (entries_of files) ≡ Some file.1.items = lookup_from_place (eq_by_cmp_equiv nat_list_cmp_total) (entries_of files) place entry.0 entry.1 keys at in
      let same : string_bytes file.0 ≡ path = tied _ _ equal in
      sym (get-from_entries nat_list_cmp_total (entries_of files) path ∙ rw (← same) here)

  misses : (fs : List (String Global × Vec ℕ Global)) → All (λ f. is_eq (path_order (string_bytes f.0) path) ≡ false) fs → find path_order path (entries_of fs) ≡ None
  misses [] apart = refl
  misses (f ∷ fs) apart =
      let here : same_path path (string_bytes f.0) ≡ false = (eq_by_cmp_equiv nat_list_cmp_total).symm path (string_bytes f.0) ∙ All-head (λ f. is_eq (path_order (string_bytes f.0) path) ≡ false) f fs apart in
      rw here (misses fs (All-tail (λ f. is_eq (path_order (string_bytes f.0) path) ≡ false) f fs apart))

  parted : (place : ℕ) → IsPartitionPoint (λ f. path_order (string_bytes f.0) path ≡ Less) (λ f. path_order (string_bytes f.0) path ≡ Greater) files place → All (λ f. is_eq (path_order (string_bytes f.0) path) ≡ false) files
  parted place at = λ k d within. grind (arith, at.0 k d, at.1 k d)

  pub missed : (place : ℕ) → IsSortedByKey (λ f. string_bytes f.0) path_order files → (IsNonDecreasingBy (λ f. ordering_index (path_order (string_bytes f.0) path)) files → IsPartitionPoint (λ f. path_order (string_bytes f.0) path ≡ Less) (λ f. path_order (string_bytes f.0) path ≡ Greater) files place) → None ≡ get (files_of files) path
  missed place up at =
      let none = misses files (parted place (at (searchable_from_sorted nat_list_cmp_total (λ f. string_bytes f.0) files path up))) in
      sym (get-from_entries nat_list_cmp_total (entries_of files) path ∙ none)

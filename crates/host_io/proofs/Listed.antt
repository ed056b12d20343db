-- The keys of a map are those of the entries that it was made of, in another order.
use Rattle.std.proofs.Common.{◌≡◌, ℕ, ◌||◌, false, List, [], ◌∷◌, map, length, refl, sym, ◌∙◌, arith, IsTrue}
use Rattle.std.proofs.lemmas.Simd.{map-map}
use Rattle.std.proofs.lemmas.List.{length-map}
use Rattle.std.specs.Prelude.{Vec, String, string_bytes}
use Rattle.std.specs.declared.alloc.Global.{Global}
use Rattle.host_io.specs.Memory.{entries_of, paths_of, files_of}
use Rattle.std.specs.declared.cmp.Ordering.TheVariants.{Less, Equal, Greater}
use Rattle.std.specs.Ordering.{is_eq}
use Rattle.std.specs.Cmp.Lexicographic.{nat_list_cmp_total}
use Rattle.std.specs.List.{IsDistinct, AllByRecursion, list_any}
use Rattle.std.specs.List.Sorted.{IsPermutation}
use Rattle.std.specs.FinMap.{entries, keys, empty, len, from_entries, entries-insert, len-empty, len-entries}
use Rattle.std.specs.FinMap.Entries.{put, by_order}
use Rattle.std.proofs.lemmas.List.Sorted.{IsPermutation-refl, IsPermutation-sym, All-permutation, IsPermutation-cons, IsPermutation-trans, IsPermutation-middle, list_any-IsPermutation, length_permutation}
use Rattle.std.proofs.lemmas.Map.Keys.{IsDistinct-head, IsDistinct-tail}
use Rattle.host_io.specs.Paths.{path_order, same_path}
use Rattle.host_io.specs.Folder.{AreProjectPaths, HasProjectPaths}
use Rattle.res_paths.specs.Paths.{is_project_path}

none_of : (q : List ℕ) (ks : List (List ℕ)) → AllByRecursion (λ y. same_path q y ≡ false) ks → list_any (same_path q) ks ≡ false
none_of q [] all = refl
none_of q (k ∷ ks) all = rw all.0 (none_of q ks all.1)

put_keys : (k v : List ℕ) (es : List (List ℕ × List ℕ)) → list_any (same_path k) (map (λ e. e.0) es) ≡ false → IsPermutation (map (λ e. e.0) (put path_order k v es)) (k ∷ map (λ e. e.0) es)
put_keys k v [] h = IsPermutation-refl _
put_keys k v (e ∷ es) h =
    elim (path_order k e.0) as (λ r. (is_eq r || list_any (same_path k) (map (λ e. e.0) es)) ≡ false → IsPermutation (map (λ e. e.0) (by_order r ((k, v) ∷ e ∷ es) ((e.0, v) ∷ es) (e ∷ put path_order k v es))) (k ∷ e.0 ∷ map (λ e. e.0) es)) [
      | Less ↦ λ h. IsPermutation-refl _
      | Equal ↦ λ h. cc
      | Greater ↦ λ h. IsPermutation-trans _ _ _ (IsPermutation-cons e.0 _ _ (put_keys k v es h)) (IsPermutation-middle (e.0 ∷ []) k (map (λ e. e.0) es))
    ] h

no_length : (es : List (List ℕ × List ℕ)) → length es ≡ 0 → es ≡ []
no_length [] e = refl
no_length (x ∷ es) e = absurd (omega arith)

pub keys_permutation : (es : List (List ℕ × List ℕ)) → IsDistinct same_path (map (λ e. e.0) es) → IsPermutation (keys (from_entries {R = path_order} es)) (map (λ e. e.0) es)
keys_permutation [] once =
    let none : entries (empty {K = List ℕ} {X = List ℕ} {R = path_order}) ≡ [] = no_length _ (sym (len-entries _) ∙ len-empty path_order (List ℕ)) in
    rw none (IsPermutation-refl _)
keys_permutation (e ∷ es) once =
    let rest = keys_permutation es (IsDistinct-tail same_path e.0 _ once) in
    let fresh = list_any-IsPermutation (same_path e.0) _ _ rest ∙ none_of e.0 _ (IsDistinct-head same_path e.0 _ once) in
    rw (entries-insert nat_list_cmp_total (from_entries es) e.0 e.1)
    (IsPermutation-trans _ _ _ (put_keys e.0 e.1 _ fresh) (IsPermutation-cons e.0 _ _ rest))

pub listed : (files : List (String Global × Vec ℕ Global)) (paths : List (List ℕ)) → IsDistinct same_path (paths_of files) → paths ≡ paths_of files → IsPermutation (keys (files_of files)) paths
listed files paths once same =
    let pairs : map (λ e. e.0) (entries_of files) ≡ paths_of files = simp map-map in
    let once' : IsDistinct same_path (map (λ e. e.0) (entries_of files)) = rw pairs once in
    rw (same, ← pairs) (keys_permutation (entries_of files) once')

pub len-files_of : (files : List (String Global × Vec ℕ Global)) → IsDistinct same_path (paths_of files) → len (files_of files) ≡ length files
len-files_of files once =
    let same = length_permutation _ _ (listed files (paths_of files) once refl) in
    omega (arith, same, len-entries (files_of files), length-map (entries (files_of files)) (λ e. e.0), length-map files (λ f. string_bytes f.0))

-- the map has the files' paths alone
pub form-files_of : (files : List (String Global × Vec ℕ Global)) → IsDistinct same_path (paths_of files) → AreProjectPaths (paths_of files) → HasProjectPaths (files_of files)
form-files_of files once all = All-permutation (λ p. IsTrue (is_project_path p)) (paths_of files) (keys (files_of files)) (IsPermutation-sym _ _ (listed files (paths_of files) once refl)) all

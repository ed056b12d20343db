-- Files that are sorted by their paths, and a search among them.
use Rattle.std.proofs.Common.{◌≡◌, ◌<◌, ◌≤◌, ◌+◌, ℕ, zero, suc, true, false, List, [], ◌∷◌, length, get_or, add-one, refl, sym, ap, subst, ◌∙◌, arith, All, IsTrue, Some, None, Vec, Option}
use Rattle.std.specs.declared.alloc.Global.{Global}
use Rattle.std.specs.declared.cmp.Ordering.{Ordering}
use Rattle.std.specs.declared.cmp.Ordering.TheVariants.{Less, Equal, Greater}
use Rattle.std.specs.Ordering.{is_eq, is_lt, ordering_index, ordering_reverse}
use Rattle.std.specs.Cmp.{eq_by_cmp_equiv}
use Rattle.std.specs.Cmp.Lexicographic.{nat_list_cmp_total}
use Rattle.std.specs.List.{IsDistinct, AllByRecursion}
use Rattle.std.specs.List.Sorted.{IsPermutation, IsPartitionPoint, IsNonDecreasingBy, IsSortedByKey, IsStrictlySortedBy}
use Rattle.std.specs.FinMap.{slice_cmp-IsAntisymmetric, nat_cmp-IsAntisymmetric}
use Rattle.std.proofs.lemmas.List.Elements.{All-head, All-tail, All-map, recursion_from_All}
use Rattle.std.proofs.lemmas.List.Sorted.{IsPermutation-map, All-permutation, length_permutation, searchable_from_sorted, sorted_far, ranks_by}
use Rattle.std.proofs.lemmas.Map.Keys.{IsDistinct-head, IsDistinct-tail, IsDistinct-IsPermutation}
use Rattle.host_io.specs.Paths.{path_order, same_path}
use Rattle.res_paths.specs.Paths.{is_project_path}
use Rattle.folder_meaning.specs.Image.{paths_of, size_of}
use Rattle.folder_meaning.specs.ImageFile.{bytes_of}
use Rattle.folder_meaning.specs.Limits.{max_file_bytes}
use Rattle.folder_images.specs.Files.{files_of, number_from, AreImageFiles, IsImageOf, IsHeld}
use native.Mathlib.Numerals.{unary_clauses}

abbrev File : Type 0
File = List ℕ × Option (Vec ℕ Global)

tied : (p q : List ℕ) → path_order p q ≡ Equal → p ≡ q
tied = slice_cmp-IsAntisymmetric nat_cmp-IsAntisymmetric

less_of : (x y : List ℕ) → is_lt (path_order y x) ≡ false → same_path x y ≡ false → path_order x y ≡ Less
less_of x y no_less apart =
    elim (path_order x y) as (λ r. is_lt (ordering_reverse r) ≡ false → is_eq r ≡ false → r ≡ Less) [ Less ↦ λ a b. refl | Equal ↦ λ a b. cc | Greater ↦ λ a b. cc ] (ap is_lt (sym (nat_list_cmp_total.antisymm y x)) ∙ no_less) apart

all_less : (x : List ℕ) (ys : List (List ℕ)) → AllByRecursion (λ y. is_lt (path_order y x) ≡ false) ys → AllByRecursion (λ y. same_path x y ≡ false) ys → AllByRecursion (λ y. path_order x y ≡ Less) ys
all_less x [] a b = tt
all_less x (y ∷ ys) a b = (less_of x y a.0 b.0, all_less x ys a.1 b.1)

tail_up : (f : File) (fs : List File) → IsSortedByKey (λ file. file.0) path_order (f ∷ fs) → (k : ℕ) (d : File) → k + 1 < length fs → is_lt (path_order (get_or fs (k + 1) d).0 (get_or fs k d).0) ≡ false
tail_up f fs up k d high = let step = up (suc k) d (omega arith) (omega arith) in rw add-one (simp unary_clauses at step)

-- files that are sorted and distinct are strictly sorted
pub strictly : (files : List File) → IsSortedByKey (λ file. file.0) path_order files → IsDistinct same_path (paths_of (files_of files)) → IsStrictlySortedBy path_order (paths_of (files_of files))
unfolding IsStrictlySortedBy
strictly [] up once = tt
strictly (f ∷ fs) up once =
    let far = sorted_far (λ x y. is_lt (path_order x.0 y.0)) (ranks_by nat_list_cmp_total (λ file. file.0)) (f ∷ fs) up in
    let behind = All-map (λ e. is_lt (path_order e.0 f.0) ≡ false) (λ file. (file.0, bytes_of file.1)) fs (λ j d within. far 0 (suc j) d (omega arith) (omega arith)) in
    let all = All-map (λ p. is_lt (path_order p f.0) ≡ false) (λ e. e.0) (files_of fs) behind in
    (all_less f.0 (paths_of (files_of fs)) (recursion_from_All _ (paths_of (files_of fs)) all) (IsDistinct-head same_path _ _ once), strictly fs (λ k d low high. tail_up f fs up k d high) (IsDistinct-tail same_path _ _ once))

module _ (files sorted : List File) (moved : IsPermutation files sorted) where
  same : IsPermutation (files_of files) (files_of sorted)
  same = IsPermutation-map (λ file. (file.0, bytes_of file.1)) files sorted moved

  whole : AreImageFiles (files_of files) → AreImageFiles (files_of sorted)
  whole w = record {
    once = IsDistinct-IsPermutation same_path (eq_by_cmp_equiv nat_list_cmp_total).symm (paths_of (files_of files)) (paths_of (files_of sorted)) (IsPermutation-map (λ e. e.0) (files_of files) (files_of sorted) same) w.once;
    form = All-permutation (λ p. IsTrue (is_project_path p)) (paths_of (files_of files)) (paths_of (files_of sorted)) (IsPermutation-map (λ e. e.0) (files_of files) (files_of sorted) same) w.form;
    few = let e = length_permutation (files_of files) (files_of sorted) same in rw e w.few;
    short = All-permutation (λ file. size_of file.1 ≤ max_file_bytes) (files_of files) (files_of sorted) same w.short;
  }

  pub held : AreImageFiles (files_of files) → IsSortedByKey (λ file. file.0) path_order sorted → IsHeld sorted
  held w up = record { ascending = up; whole = whole w }

  pub is_image : AreImageFiles (files_of files) → IsSortedByKey (λ file. file.0) path_order sorted → IsImageOf (files_of files) (files_of sorted)
  is_image w up = record { same = same; ascending = strictly sorted up (whole w).once }

apart_at : (x : List ℕ) (fs : List File) (place : ℕ) (d : File) → AllByRecursion (λ y. same_path x y ≡ false) (paths_of (files_of fs)) → place < length fs → same_path x (get_or fs place d).0 ≡ false
apart_at x [] place d all within = absurd (omega arith)
apart_at x (f ∷ fs) zero d all within = all.0
apart_at x (f ∷ fs) (suc place) d all within = apart_at x fs place d all.1 (omega arith)

is_same : (o : Ordering) → o ≡ Equal → is_eq o ≡ true
is_same o e = rw e refl

pub found : (at : ℕ) (files : List File) (path : List ℕ) (place : ℕ) → IsDistinct same_path (paths_of (files_of files)) → place < length files → ((d : File) → path_order (get_or files place d).0 path ≡ Equal) → number_from at (files_of files) path ≡ Some (at + place)
found at [] path place once within equal = absurd (omega arith)
found at (f ∷ fs) path zero once within equal = let sum : at ≡ at + 0 = omega arith in rw (is_same (path_order f.0 path) (equal f)) (ap Some sum)
found at (f ∷ fs) path (suc place) once within equal =
    let same : (get_or fs place f).0 ≡ path = tied _ _ (equal f) in
    let other : same_path f.0 path ≡ false = subst (λ p. same_path f.0 p ≡ false) same (apart_at f.0 fs place f (IsDistinct-head same_path _ _ once) (omega arith)) in
    let rest = found (at + 1) fs path place (IsDistinct-tail same_path _ _ once) (omega arith) (λ d. equal d) in
    let sum : at + 1 + place ≡ at + suc place = omega arith in
    rw other (rest ∙ ap Some sum)

misses : (at : ℕ) (fs : List File) (path : List ℕ) → All (λ f. is_eq (path_order f.0 path) ≡ false) fs → number_from at (files_of fs) path ≡ None
misses at [] path apart = refl
misses at (f ∷ fs) path apart =
    let here : same_path f.0 path ≡ false = All-head (λ f. is_eq (path_order f.0 path) ≡ false) f fs apart in
    rw here (misses (at + 1) fs path (All-tail (λ f. is_eq (path_order f.0 path) ≡ false) f fs apart))

parted : (files : List File) (path : List ℕ) (place : ℕ) → IsPartitionPoint (λ f. path_order f.0 path ≡ Less) (λ f. path_order f.0 path ≡ Greater) files place → All (λ f. is_eq (path_order f.0 path) ≡ false) files
parted files path place at = λ k d within. grind (arith, at.0 k d, at.1 k d)

pub missed : (files : List File) (path : List ℕ) (place : ℕ) → IsSortedByKey (λ file. file.0) path_order files → (IsNonDecreasingBy (λ f. ordering_index (path_order f.0 path)) files → IsPartitionPoint (λ f. path_order f.0 path ≡ Less) (λ f. path_order f.0 path ≡ Greater) files place) → number_from 0 (files_of files) path ≡ None
missed files path place up at = misses 0 files path (parted files path place (at (searchable_from_sorted nat_list_cmp_total (λ f. f.0) files path up)))

pub found_first : (files : List File) (path : List ℕ) (place : ℕ) → IsDistinct same_path (paths_of (files_of files)) → place < length files → ((d : File) → path_order (get_or files place d).0 path ≡ Equal) → number_from 0 (files_of files) path ≡ Some place
found_first files path place once within equal =
    let sum : 0 + place ≡ place = omega arith in
    found 0 files path place once within equal ∙ ap Some sum

-- Sorted paths are the keys of the map that they were listed from.
use Rattle.std.proofs.Common.{◌≡◌, ℕ, suc, ◌+◌, ◌<◌, ◌&&◌, ◌||◌, Bool, true, false, List, [], ◌∷◌, map, length, get_or, refl, sym, ap, ◌∙◌, cond, arith, Some, None, T, add-one, IsTrue}
use Rattle.std.specs.Prelude.{String, string_bytes, if◌then◌else◌}
use Rattle.std.specs.declared.alloc.Global.{Global}
use Rattle.std.specs.declared.cmp.Ordering.{Ordering}
use Rattle.std.specs.declared.cmp.Ordering.TheVariants.{Less, Equal, Greater}
use Rattle.std.specs.Ordering.{is_lt, is_eq, ordering_reverse}
use native.Mathlib.Numerals.{unary_clauses}
use Rattle.std.specs.Cmp.{eq_by_cmp_equiv}
use Rattle.std.specs.Cmp.Lexicographic.{nat_list_cmp_total}
use Rattle.std.specs.List.{IsDistinct, AllByRecursion, list_any}
use Rattle.std.specs.List.Sorted.{IsPermutation, IsSorted, IsStrictlySortedBy}
use Rattle.std.specs.String.{string_cmp}
use Rattle.std.specs.FinMap.{entries, keys, entries_sorted, slice_cmp-IsAntisymmetric, nat_cmp-IsAntisymmetric}
use Rattle.std.specs.FinMap.Entries.{find, is_sorted, below_all, same_entries}
use Rattle.std.proofs.lemmas.List.Sorted.{IsPermutation-map, IsPermutation-trans, list_any-IsPermutation, All-permutation, sorted_far, ranks_by}
use Rattle.std.proofs.lemmas.List.Elements.{recursion_from_All, All-map}
use Rattle.std.proofs.lemmas.Map.Keys.{IsDistinct-head, IsDistinct-tail, IsDistinct-IsPermutation}
use Rattle.host_io.specs.Folder.{Files, texts, AreProjectPaths}
use Rattle.res_paths.specs.Paths.{is_project_path}
use Rattle.host_io.specs.Paths.{path_order, same_path}

abbrev unit_entries : List (List ℕ) → List (List ℕ × Unit {0})
unit_entries ks = map (λ k. (k, tt)) ks

keys_back : (ks : List (List ℕ)) → map (λ e. e.0) (unit_entries ks) ≡ ks
keys_back [] = refl
keys_back (k ∷ ks) = ap (λ r. k ∷ r) (keys_back ks)

find_unit : (q : List ℕ) (ks : List (List ℕ)) → find path_order q (unit_entries ks) ≡ (if list_any (same_path q) ks then Some tt else None)
find_unit q [] = refl
find_unit q (k ∷ ks) = elim (same_path q k) as (λ b. cond b (Some tt) (find path_order q (unit_entries ks)) ≡ (if b || list_any (same_path q) ks then Some tt else None)) [ true ↦ refl | false ↦ find_unit q ks ]

both : (a b : Bool) → T a → T b → T (a && b)
both true b p q = q
both false b p q = p

first : (a b : Bool) → T (a && b) → T a
first true b p = tt
first false b p = p

second : (a b : Bool) → T (a && b) → T b
second true b p = p
second false b p = absurd p

is_less : (o : Ordering) → T (is_lt o) → o ≡ Less
is_less Less p = refl
is_less Equal p = absurd p
is_less Greater p = absurd p

below_unit : (k : List ℕ) (ks : List (List ℕ)) → AllByRecursion (λ y. path_order k y ≡ Less) ks → T (below_all path_order k (unit_entries ks))
below_unit k [] all = tt
below_unit k (y ∷ ks) all = both _ _ (rw all.0 tt) (below_unit k ks all.1)

sorted_unit : (ks : List (List ℕ)) → IsStrictlySortedBy path_order ks → T (is_sorted path_order (unit_entries ks))
unfolding IsStrictlySortedBy
sorted_unit [] up = tt
sorted_unit (k ∷ ks) up = both _ _ (below_unit k ks up.0) (sorted_unit ks up.1)

-- strictly sorted lists with the same paths are equal
same_keys : (xs ys : List (List ℕ)) → IsStrictlySortedBy path_order xs → IsStrictlySortedBy path_order ys → ((q : List ℕ) → list_any (same_path q) xs ≡ list_any (same_path q) ys) → xs ≡ ys
same_keys xs ys up up' same =
    let entries_same = same_entries path_order nat_list_cmp_total (slice_cmp-IsAntisymmetric nat_cmp-IsAntisymmetric) (unit_entries xs) (unit_entries ys) (sorted_unit xs up) (sorted_unit ys up') (λ q. find_unit q xs ∙ ap (λ b. if b then Some tt else None) (same q) ∙ sym (find_unit q ys)) in
    sym (keys_back xs) ∙ ap (map (λ e. e.0)) entries_same ∙ keys_back ys

below_keys : {X : Type 0} (k : List ℕ) (es : List (List ℕ × X)) → T (below_all path_order k es) → AllByRecursion (λ y. path_order k y ≡ Less) (map (λ e. e.0) es)
below_keys k [] below = tt
below_keys k (e ∷ es) below = (is_less _ (first _ _ below), below_keys k es (second _ _ below))

sorted_keys : {X : Type 0} (es : List (List ℕ × X)) → T (is_sorted path_order es) → IsStrictlySortedBy path_order (map (λ e. e.0) es)
unfolding IsStrictlySortedBy
sorted_keys [] up = tt
sorted_keys (e ∷ es) up = (below_keys e.0 es (first _ _ up), sorted_keys es (second _ _ up))

less_of : (x y : List ℕ) → is_lt (path_order y x) ≡ false → same_path x y ≡ false → path_order x y ≡ Less
less_of x y no_less apart =
    elim (path_order x y) as (λ r. is_lt (ordering_reverse r) ≡ false → is_eq r ≡ false → r ≡ Less) [ Less ↦ λ a b. refl | Equal ↦ λ a b. cc | Greater ↦ λ a b. cc ] (ap is_lt (sym (nat_list_cmp_total.antisymm y x)) ∙ no_less) apart

all_less : (x : List ℕ) (ys : List (List ℕ)) → AllByRecursion (λ y. is_lt (path_order y x) ≡ false) ys → AllByRecursion (λ y. same_path x y ≡ false) ys → AllByRecursion (λ y. path_order x y ≡ Less) ys
all_less x [] a b = tt
all_less x (y ∷ ys) a b = (less_of x y a.0 b.0, all_less x ys a.1 b.1)

tail_up : (s : String Global) (ss : List (String Global)) → IsSorted string_cmp (s ∷ ss) → (k : ℕ) (d : String Global) → k + 1 < length ss → is_lt (string_cmp (get_or ss (k + 1) d) (get_or ss k d)) ≡ false
tail_up s ss up k d high = let step = up (suc k) d (omega arith) (omega arith) in rw add-one (simp unary_clauses at step)

-- strings that are sorted and distinct are strictly sorted
strictly : (ss : List (String Global)) → IsSorted string_cmp ss → IsDistinct same_path (texts ss) → IsStrictlySortedBy path_order (texts ss)
unfolding IsStrictlySortedBy
strictly [] up once = tt
strictly (s ∷ ss) up once =
    let far = sorted_far (λ x y. is_lt (string_cmp x y)) (ranks_by nat_list_cmp_total string_bytes) (s ∷ ss) up in
    let all = All-map (λ y. is_lt (path_order y (string_bytes s)) ≡ false) string_bytes ss (λ j d within. far 0 (suc j) d (omega arith) (omega arith)) in
    (all_less (string_bytes s) (texts ss) (recursion_from_All _ (texts ss) all) (IsDistinct-head same_path _ _ once), strictly ss (λ k d low high. tail_up s ss up k d high) (IsDistinct-tail same_path _ _ once))

-- a listing, sorted, ascends strictly
pub ascending : (paths sorted : List (String Global)) → IsDistinct same_path (texts paths) → IsPermutation paths sorted → IsSorted string_cmp sorted → IsStrictlySortedBy path_order (texts sorted)
ascending paths sorted once moved up =
    let moved_texts = IsPermutation-map string_bytes paths sorted moved in
    strictly sorted up (IsDistinct-IsPermutation same_path (eq_by_cmp_equiv nat_list_cmp_total).symm (texts paths) (texts sorted) moved_texts once)

pub form : (paths sorted : List (String Global)) → AreProjectPaths (texts paths) → IsPermutation paths sorted → AreProjectPaths (texts sorted)
form paths sorted all moved = All-permutation (λ p. IsTrue (is_project_path p)) (texts paths) (texts sorted) (IsPermutation-map string_bytes paths sorted moved) all

-- a list of the keys, sorted, is the keys
pub sorted_is_keys : (files : Files) (paths sorted : List (String Global)) → IsPermutation (keys files) (texts paths) → IsDistinct same_path (texts paths) → IsPermutation paths sorted → IsSorted string_cmp sorted → texts sorted ≡ keys files
sorted_is_keys files paths sorted listed once moved up =
    let moved_texts = IsPermutation-map string_bytes paths sorted moved in
    same_keys (texts sorted) (keys files) (ascending paths sorted once moved up) (sorted_keys (entries files) (entries_sorted files))
    (λ q. sym (list_any-IsPermutation (same_path q) _ _ (IsPermutation-trans _ _ _ listed moved_texts)))

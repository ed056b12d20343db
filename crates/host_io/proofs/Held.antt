-- The files that were looked at so far, and one more.
use Rattle.std.proofs.Common.{◌≡◌, ℕ, zero, suc, ◌+◌, ◌<◌, length, get_or, take, ap, Vec, true, false, not, cond, Bool, List, [], ◌∷◌, ◌++◌, ◌||◌, refl, sym, ◌∙◌, IsTrue, All, arith}
use Rattle.std.specs.Prelude.{String, string_bytes}
use Rattle.std.specs.declared.alloc.Global.{Global}
use Rattle.std.specs.Cmp.{eq_by_cmp_equiv}
use Rattle.std.specs.Cmp.Lexicographic.{nat_list_cmp_total}
use Rattle.std.specs.List.{IsDistinct, list_any}
use Rattle.std.proofs.lemmas.List.{map-append, take_more}
use Rattle.std.proofs.lemmas.List.Elements.{All-push, All-get_or, All-from_recursion}
use Rattle.std.proofs.lemmas.Map.Keys.{IsDistinct-push, IsDistinct-head, IsDistinct-tail}
use Rattle.host_io.specs.Folder.{AreProjectPaths}
use Rattle.host_io.specs.Memory.{paths_of}
use Rattle.host_io.specs.Paths.{same_path}
use Rattle.res_paths.specs.Paths.{is_project_path}
use Rattle.host_io.proofs.Once.{unmapped}

flips : (p q : List ℕ) → same_path p q ≡ same_path q p
flips = (eq_by_cmp_equiv nat_list_cmp_total).symm

any_push : (p : List ℕ → Bool) (xs : List (List ℕ)) (x : List ℕ) → list_any p (xs ++ x ∷ []) ≡ cond (p x) true (list_any p xs)
any_push p [] x = elim (p x) as (λ b. (b || false) ≡ cond b true false) [ true ↦ refl | false ↦ refl ]
any_push p (y ∷ xs) x =
    elim (p y) as (λ b. (b || list_any p (xs ++ x ∷ [])) ≡ cond (p x) true (b || list_any p xs)) [
      | true ↦ elim (p x) as (λ b. true ≡ cond b true true) [ true ↦ refl | false ↦ refl ]
      | false ↦ any_push p xs x
    ]

apart : (k : List ℕ) (fs : List (String Global × Vec ℕ Global)) (i : ℕ) (file : String Global × Vec ℕ Global) → IsDistinct same_path (k ∷ paths_of fs) → i < length fs → file ≡ get_or fs i file → same_path (string_bytes file.0) k ≡ false
apart k fs i file once within is =
    let all : All (λ f. same_path k (string_bytes f.0) ≡ false) fs = unmapped (λ y. same_path k y ≡ false) (λ f. string_bytes f.0) fs (All-from_recursion (λ y. same_path k y ≡ false) (paths_of fs) (IsDistinct-head same_path k (paths_of fs) once)) in
    let here = All-get_or (λ f. same_path k (string_bytes f.0) ≡ false) fs i file within all in
    flips (string_bytes file.0) k ∙ (rw is here)

-- a path stands nowhere before
pub new_path : (files : List (String Global × Vec ℕ Global)) (i : ℕ) (file : String Global × Vec ℕ Global) → IsDistinct same_path (paths_of files) → i < length files → file ≡ get_or files i file → list_any (same_path (string_bytes file.0)) (paths_of (take i files)) ≡ false
new_path [] i file once within is = absurd (omega arith)
new_path (f ∷ fs) zero file once within is = refl
new_path (f ∷ fs) (suc i) file once within is =
    let here = apart (string_bytes f.0) fs i file once (omega arith) is in
    rw here (new_path fs i file (IsDistinct-tail same_path (string_bytes f.0) (paths_of fs) once) (omega arith) is)

-- what the set of the paths before says of one more
module _ (paths : List (List ℕ)) (text key : List ℕ) (same : key ≡ text) (added : Bool) where
  pub not_yet : (before : Bool) → added ≡ not before → before ≡ list_any (same_path key) paths → added ≡ true → list_any (same_path text) paths ≡ false
  not_yet true is was new = cc
  not_yet false is was new = rw (← same) (sym was)

  pub already : (before : Bool) → added ≡ not before → before ≡ list_any (same_path key) paths → added ≡ false → list_any (same_path text) paths ≡ true
  already true is was old = rw (← same) (sym was)
  already false is was old = cc

module _ (files : List (String Global × Vec ℕ Global)) (i : ℕ) (file : String Global × Vec ℕ Global) (within : i < length files) (is : file ≡ get_or files i file) where
  more : paths_of (take (i + 1) files) ≡ paths_of (take i files) ++ string_bytes file.0 ∷ []
  more =
      let step : take (i + 1) files ≡ take i files ++ file ∷ [] = rw (take_more files i file within, ← is) refl in
      ap paths_of step ∙ map-append (λ f. string_bytes f.0) (take i files) (file ∷ [])

  pub form-more : AreProjectPaths (paths_of (take i files)) → IsTrue (is_project_path (string_bytes file.0)) → AreProjectPaths (paths_of (take (i + 1) files))
  form-more all one = rw more (All-push (λ p. IsTrue (is_project_path p)) (paths_of (take i files)) (string_bytes file.0) all one)

  pub once-more : IsDistinct same_path (paths_of (take i files)) → list_any (same_path (string_bytes file.0)) (paths_of (take i files)) ≡ false → IsDistinct same_path (paths_of (take (i + 1) files))
  once-more once none = rw more (IsDistinct-push (eq_by_cmp_equiv nat_list_cmp_total) (paths_of (take i files)) (string_bytes file.0) once none)

  pub seen-more : (key q : List ℕ) (before now : Bool) → key ≡ string_bytes file.0 → now ≡ cond (same_path key q) true before → before ≡ list_any (same_path q) (paths_of (take i files)) → now ≡ list_any (same_path q) (paths_of (take (i + 1) files))
  seen-more key q before now same adds was = rw (adds, was, same, more, any_push (same_path q), flips (string_bytes file.0) q) refl

  pub has_form : AreProjectPaths (paths_of files) → IsTrue (is_project_path (string_bytes file.0))
  has_form all =
      let here = All-get_or (λ f. IsTrue (is_project_path (string_bytes f.0))) files i file within (unmapped (λ p. IsTrue (is_project_path p)) (λ f. string_bytes f.0) files all) in
      rw is here

-- Where no call was counted as failed, every file has its bytes.
use Rattle.std.proofs.Common.{◌≡◌, ℕ, ◌+◌, ◌-◌, ◌^◌, ◌<◌, ◌≤◌, ◌||◌, ◌⊎◌, min, Bool, true, false, List, [], ◌∷◌, length, refl, ◌∙◌, Some, None, inl, inr, arith, nat_lt}
use Rattle.std.specs.Prelude.{if◌then◌else◌, bytes_eq, unwrap_or}
use Rattle.std.specs.declared.option.Option.{Option}
use Rattle.std.specs.Option.{option_or}
use Rattle.std.specs.FinMap.{get, keys}
use Rattle.std.proofs.lemmas.Bool.Decides.{nat_tests}
use Rattle.res_paths.specs.Paths.{project_file}
use Rattle.host_io.specs.declared.folder.Faults.{Faults}
use Rattle.host_io.specs.Causes.{Calls, is_failing, after_told_call, RoseBy}
use Rattle.host_io.specs.Folder.{Files}
use Rattle.folder_meaning.specs.Image.{Image, size_of, unreadable_files}
use Rattle.folder_meaning.specs.Limits.{max_files, max_file_bytes, max_folder_bytes}
use Rattle.folder_meaning.specs.Reading.{Reading, image_read, folder_fault, folder_limit, MayGive, MayRead, AllowsReading, event_of, first_event, reading_of_reads, reading_of_list, unfailed_reads, unfailed_reading}
use Rattle.folder_meaning.specs.ReadingFaults.{HasFaults}

-- a read fails, or gives the file's bytes
gives : (files : Files) (calls : Option Calls) (path : List ℕ) (outcome : Option (List ℕ)) → MayGive files calls path outcome → (outcome ≡ None) ⊎ (outcome ≡ get files path)
gives files None path outcome may = may
gives files (Some calls) path outcome may = elim (is_failing calls) as (λ b. outcome ≡ (if b then None else get files path) → (outcome ≡ None) ⊎ (outcome ≡ get files path)) [ true ↦ λ e. inl e | false ↦ λ e. inr e ] may

same_file : (path : List ℕ) (bytes : List ℕ) (given : Option (List ℕ)) → (Some bytes ≡ None) ⊎ (Some bytes ≡ given) → Some bytes ≡ given
same_file path bytes given (inl e) = cc
same_file path bytes given (inr e) = e

-- reads of which none failed
all_read : (files : Files) (calls : Option Calls) (paths : List (List ℕ)) (reads : Image) → MayRead files calls paths reads → unreadable_files reads ≡ 0 → reads ≡ unfailed_reads files paths
all_read files calls [] [] may none = refl
all_read files calls [] (file ∷ reads) may none = absurd may
all_read files calls (path ∷ paths) [] may none = absurd may
all_read files calls (path ∷ paths) ((p, None) ∷ reads) may none = absurd (omega arith)
all_read files calls (path ∷ paths) ((p, Some bytes) ∷ reads) may none =
    let same = same_file path bytes (get files path) (gives files calls path (Some bytes) may.1) in
    let rest = all_read files (after_told_call calls) paths reads may.2 (omega arith) in
    λ i. (may.0 i, same i) ∷ rest i

-- no event is an image
no_image_event : (total : ℕ) (path : List ℕ) (outcome : Option (List ℕ)) (image : Image) → event_of total path outcome ≡ Some (image_read image) → ⊥
no_image_event total path None image = elim (bytes_eq path project_file) as (λ b. (if b then Some folder_fault else None) ≡ Some (image_read image) → ⊥) [ true ↦ λ e. cc | false ↦ λ e. cc ]
no_image_event total path (Some bytes) image = elim (nat_lt max_file_bytes (length bytes) || nat_lt max_folder_bytes (total + length bytes)) as (λ b. (if b then Some folder_limit else None) ≡ Some (image_read image) → ⊥) [ true ↦ λ e. cc | false ↦ λ e. cc ]

first_of_two : (event rest : Option Reading) (image : Image) → (event ≡ Some (image_read image) → ⊥) → (rest ≡ Some (image_read image) → ⊥) → option_or event rest ≡ Some (image_read image) → ⊥
first_of_two None rest image one two e = two e
first_of_two (Some x) rest image one two e = one e

no_image : (total : ℕ) (reads : Image) (image : Image) → first_event total reads ≡ Some (image_read image) → ⊥
no_image total [] image e = cc
no_image total (file ∷ reads) image e = first_of_two (event_of total file.0 file.1) (first_event (total + size_of file.1) reads) image (no_image_event total file.0 file.1 image) (no_image (total + size_of file.1) reads image) e

-- ---- a limit that is passed while reads fail is passed where none does

module _ (rest more : ℕ → Option Reading) (grows : (a b : ℕ) → a ≤ b → rest a ≡ Some folder_limit → more b ≡ Some folder_limit) where
  -- a read that failed, and the file's bytes
  in_place : (path : List ℕ) (given : Option (List ℕ)) (a b : ℕ) → a ≤ b → bytes_eq path project_file ≡ false → rest a ≡ Some folder_limit → option_or (event_of b path given) (more (b + size_of given)) ≡ Some folder_limit
  in_place path None a b up other is = rw other (grows a (b + 0) (omega arith) is)
  in_place path (Some bytes) a b up other is =
      elim (nat_lt max_file_bytes (length bytes) || nat_lt max_folder_bytes (b + length bytes)) as (λ t. option_or (if t then Some folder_limit else None) (more (b + length bytes)) ≡ Some folder_limit) [
        | true ↦ refl
        | false ↦ grows a (b + length bytes) (omega arith) is
      ]

  of_failed : (path : List ℕ) (given : Option (List ℕ)) (a b : ℕ) → a ≤ b → option_or (event_of a path None) (rest (a + 0)) ≡ Some folder_limit → option_or (event_of b path given) (more (b + size_of given)) ≡ Some folder_limit
  of_failed path given a b up =
      elim (bytes_eq path project_file) as (λ t. bytes_eq path project_file ≡ t → option_or (if t then Some folder_fault else None) (rest (a + 0)) ≡ Some folder_limit → option_or (event_of b path given) (more (b + size_of given)) ≡ Some folder_limit) [
        | true ↦ λ same e. cc
        | false ↦ λ other e. in_place path given (a + 0) b (omega arith) other e
      ] refl

  -- a read that gave the bytes
  of_bytes : (bytes : List ℕ) (a b : ℕ) → a ≤ b → (long : Bool) → option_or (if long || nat_lt max_folder_bytes (a + length bytes) then Some folder_limit else None) (rest (a + length bytes)) ≡ Some folder_limit → option_or (if long || nat_lt max_folder_bytes (b + length bytes) then Some folder_limit else None) (more (b + length bytes)) ≡ Some folder_limit
  of_bytes bytes a b up true e = refl
  of_bytes bytes a b up false e =
      elim (nat_lt max_folder_bytes (b + length bytes)) as (λ t. nat_lt max_folder_bytes (b + length bytes) ≡ t → option_or (if nat_lt max_folder_bytes (a + length bytes) then Some folder_limit else None) (rest (a + length bytes)) ≡ Some folder_limit → option_or (if t then Some folder_limit else None) (more (b + length bytes)) ≡ Some folder_limit) [
        | true ↦ λ over e. refl
        | false ↦ λ under e.
            let under_too : nat_lt max_folder_bytes (a + length bytes) ≡ false = grind (arith, nat_tests) in
            grows (a + length bytes) (b + length bytes) (omega arith) (rw under_too at e)
      ] refl e

  one_more : (path : List ℕ) (outcome given : Option (List ℕ)) (a b : ℕ) → a ≤ b → (outcome ≡ None) ⊎ (outcome ≡ given) → option_or (event_of a path outcome) (rest (a + size_of outcome)) ≡ Some folder_limit → option_or (event_of b path given) (more (b + size_of given)) ≡ Some folder_limit
  one_more path None given a b up may e = of_failed path given a b up e
  one_more path (Some bytes) given a b up may e = rw (← same_file path bytes given may) (of_bytes bytes a b up (nat_lt max_file_bytes (length bytes)) e)

limit_stays : (files : Files) (calls : Option Calls) (paths : List (List ℕ)) (reads : Image) (a b : ℕ) → a ≤ b → MayRead files calls paths reads → first_event a reads ≡ Some folder_limit → first_event b (unfailed_reads files paths) ≡ Some folder_limit
limit_stays files calls [] [] a b up may e = cc
limit_stays files calls [] (file ∷ reads) a b up may e = absurd may
limit_stays files calls (path ∷ paths) [] a b up may e = absurd may
limit_stays files calls (path ∷ paths) (file ∷ reads) a b up may e =
    one_more (λ n. first_event n reads) (λ n. first_event n (unfailed_reads files paths)) (λ x y less is. limit_stays files (after_told_call calls) paths reads x y less may.2 is) path file.1 (get files path) a b up (gives files calls path file.1 may.1) (rw may.0 at e)

-- ---- the reading

module _ (files : Files) (before now : Faults) (same : now ≡ before) (deciding : before.deciding + 1 < 2 ^ 64) (other : before.other + 1 < 2 ^ 64) where
  pub no_fault : RoseBy 1 before.deciding now.deciding → ⊥
  no_fault rose =
      let up : min (before.deciding + 1) (2 ^ 64 - 1) ≤ before.deciding = rw same at rose in
      omega arith

  none_unreadable : (n : ℕ) → RoseBy n before.other now.other → n ≡ 0
  none_unreadable n rose =
      let up : min (before.other + n) (2 ^ 64 - 1) ≤ before.other = rw same at rose in
      omega arith

  module _ (reads : Image) (may : MayRead files None (keys files) reads) where
    of_event : (event : Option Reading) → first_event 0 reads ≡ event → HasFaults before now (unwrap_or event (image_read reads)) → unwrap_or event (image_read reads) ≡ reading_of_reads (unfailed_reads files (keys files))
    of_event None is has =
        let all = all_read files None (keys files) reads may (none_unreadable _ has.1) in
        rw (← all) (rw is refl)
    of_event (Some folder_limit) is has = rw (limit_stays files None (keys files) reads 0 0 (omega arith) may is) refl
    of_event (Some folder_fault) is has = absurd (no_fault has)
    of_event (Some (image_read image)) is has = absurd (no_image 0 reads image is)

    of_list : HasFaults before now (reading_of_list (keys files) reads) → reading_of_list (keys files) reads ≡ unfailed_reading files
    of_list = elim (nat_lt max_files (length (keys files))) as (λ b. HasFaults before now (if b then folder_limit else reading_of_reads reads) → (if b then folder_limit else reading_of_reads reads) ≡ (if b then folder_limit else reading_of_reads (unfailed_reads files (keys files)))) [
      | true ↦ λ has. refl
      | false ↦ λ has. of_event (first_event 0 reads) refl has
    ]

  pub unfailed : (reading : Reading) → AllowsReading files reading → HasFaults before now reading → reading ≡ unfailed_reading files
  unfailed reading (inl fault) has = absurd (no_fault (rw fault at has))
  unfailed reading (inr reads) has = reads.2 ∙ of_list reads.0 reads.1 (rw reads.2 at has)

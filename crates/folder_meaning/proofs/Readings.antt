-- Which readings there are.
use Rattle.std.proofs.Common.{◌≡◌, ℕ, true, false, List, [], ◌∷◌, refl, ap, ◌∙◌, Some, None, IfSome, inl, inr}
use Rattle.std.specs.Prelude.{if◌then◌else◌}
use Rattle.std.specs.declared.option.Option.{Option}
use Rattle.std.specs.FinMap.{get, keys}
use Rattle.host_io.specs.Causes.{Calls, is_failing, after_call, after_told_call}
use Rattle.host_io.specs.Folder.{Files}
use Rattle.folder_meaning.specs.Image.{Image}
use Rattle.folder_meaning.specs.Reading.{Reading, MayGive, MayRead, AllowsReading, IsReadingOf, reads_of, reading_of, reading_of_list, folder_fault}

-- with calls by number, what reads give is determined
pub determined : (files : Files) (calls : Calls) (paths : List (List ℕ)) (reads : Image) → MayRead files (Some calls) paths reads → reads ≡ reads_of files calls paths
determined files calls [] [] may = refl
determined files calls [] (file ∷ reads) may = absurd may
determined files calls (path ∷ paths) [] may = absurd may
determined files calls (path ∷ paths) (file ∷ reads) may = λ i. (may.0 i, may.1 i) ∷ determined files (after_call calls) paths reads may.2 i

-- reads by number are reads that the files allow
any_gives : (files : Files) (calls : Calls) (path : List ℕ) → MayGive files None path (if is_failing calls then None else get files path)
any_gives files calls path = elim (is_failing calls) as (λ b. MayGive files None path (if b then None else get files path)) [ true ↦ inl refl | false ↦ inr refl ]

any_reads : (files : Files) (calls : Calls) (paths : List (List ℕ)) → MayRead files None paths (reads_of files calls paths)
any_reads files calls [] = tt
any_reads files calls (path ∷ paths) = (refl, any_gives files calls path, any_reads files (after_call calls) paths)

pub allowed : (files : Files) (calls : Calls) → AllowsReading files (reading_of files calls)
allowed files calls =
    elim (is_failing calls) as (λ b. AllowsReading files (if b then folder_fault else reading_of_list (keys files) (reads_of files (after_call calls) (keys files)))) [
      | true ↦ inl refl
      | false ↦ inr (reads_of files (after_call calls) (keys files), any_reads files (after_call calls) (keys files), refl)
    ]

pub some_reading : (files : Option Files) (calls : Option Calls) → (reading : Reading) × IsReadingOf files calls reading
some_reading None calls = (folder_fault, tt)
some_reading (Some files) None = (folder_fault, inl refl)
some_reading (Some files) (Some calls) = (reading_of files calls, refl)

-- reads of any paths may give something
pub some_reads : (files : Files) (calls : Option Calls) (paths : List (List ℕ)) → (reads : Image) × MayRead files calls paths reads
some_reads files calls [] = ([], tt)
some_reads files None (path ∷ paths) = let rest = some_reads files None paths in ((path, None) ∷ rest.0, (refl, inl refl, rest.1))
some_reads files (Some calls) (path ∷ paths) = let rest = some_reads files (Some (after_call calls)) paths in ((path, if is_failing calls then None else get files path) ∷ rest.0, (refl, refl, rest.1))

-- a list that doesn't fail, and then some reads
pub after_list : (files : Files) (calls : Option Calls) (reads : Image) (reading : Reading) → IfSome calls (λ calls. is_failing calls ≡ false) → MayRead files (after_told_call calls) (keys files) reads → reading ≡ reading_of_list (keys files) reads → IsReadingOf (Some files) calls reading
after_list files None reads reading passes may is = inr (reads, may, is)
after_list files (Some calls) reads reading passes may is = rw passes (is ∙ ap (reading_of_list (keys files)) (determined files (after_call calls) (keys files) reads may))

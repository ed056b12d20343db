-- From the reads of the sorted paths to the reading of the folder, and to what a command finds.
use Rattle.std.proofs.Common.{◌≡◌, ◌↔◌, ℕ, ◌+◌, ◌^◌, ◌<◌, ◌≤◌, ◌&&◌, Bool, true, false, not, List, length, refl, ap, ◌∙◌, subst, arith, Some, None, IfSome, inl, Err, Vec, nat_lt, IsTrue, IsErrOf, zero, suc}
use Rattle.std.specs.Prelude.{String, if◌then◌else◌, OnSome}
use Rattle.std.specs.declared.alloc.Global.{Global}
use Rattle.std.specs.declared.option.Option.{Option}
use Rattle.std.specs.FinMap.{keys}
use Rattle.std.proofs.lemmas.Bool.Decides.{nat_tests}
use Rattle.host_io.specs.Causes.{Calls, is_failing, after_call, after_told_call}
use Rattle.host_io.specs.Folder.{Files}
use Rattle.host_io.specs.declared.folder.Faults.{Faults}
use Rattle.folder_meaning.specs.Limits.{max_files}
use Rattle.folder_meaning.specs.Reading.{Reading, IsReadingOf, reads_of, reading_of, folder_fault, folder_limit, unfailed_reading}
use Rattle.folder_meaning.specs.ReadingCalls.{after_calls, reads_made}
use Rattle.folder_meaning.specs.ReadingFaults.{HasFaults}
use Rattle.folder_meaning.proofs.Unfailed.{unfailed, no_fault}
use Rattle.folder_meaning.proofs.Readings.{allowed, some_reads, after_list, determined}
use Rattle.project_run.specs.declared.image.ImageError.{ImageError}
use Rattle.project_run.specs.declared.image.ImageError.TheVariants.{FolderFault, FolderLimit, NoMemory}
use Rattle.project_run.specs.Found.{Found, read, other_files, has_others, stops_at_list, found_of, unfailed_found, AllowsFound, IsFoundBy, HasFoundFaults, HasMadeCalls, MadeCalls}
use Rattle.project_run.specs.Answers.{told_reading, told_found, script_error, ListsPaths, HasFaultsOfList, DecidesReading}

-- ---- tests of numbers, and calls

not_more : (n limit : ℕ) → n ≤ limit → nat_lt limit n ≡ false
not_more n limit le = grind (arith, nat_tests)

more : (n limit : ℕ) → limit < n → nat_lt limit n ≡ true
more n limit lt = grind (arith, nat_tests)

no_failure : (b : Bool) → (IsTrue b → ⊥) → b ≡ false
no_failure true h = absurd (h refl)
no_failure false h = refl

-- the call and those after it
calls_then : (n : ℕ) (calls : Option Calls) → after_calls n (after_told_call calls) ≡ after_told_call (after_calls n calls)
calls_then zero calls = refl
calls_then (suc n) calls = ap after_told_call (calls_then n calls)

-- one call more than those behind it
pub one_call : (before mid now : Option Calls) → mid ≡ after_told_call before → MadeCalls mid now → MadeCalls before now
one_call before mid now first rest = record { count = suc rest.count; is = rest.is ∙ ap (after_calls rest.count) first ∙ calls_then rest.count before }

pub only_call : (before now : Option Calls) → now ≡ after_told_call before → MadeCalls before now
only_call before now is = record { count = 1; is = is }

-- ---- what the list says

-- the list fails exactly where its number is one that fails
abbrev pub IsNumberedList : Option Calls → Type 0 → Type 0
IsNumberedList calls P = IfSome calls (λ calls. P ↔ IsTrue (is_failing calls))

abbrev pub Passes : Option Calls → Type 0
Passes calls = IfSome calls (λ calls. is_failing calls ≡ false)

-- a call that answers otherwise isn't one that fails
pub passes : (calls : Option Calls) (P : Type 0) → (P → ⊥) → IsNumberedList calls P → Passes calls
passes None P apart numbered = tt
passes (Some calls) P apart numbered = no_failure (is_failing calls) (λ failed. apart (numbered.1 failed))

fails : (calls : Option Calls) (P : Type 0) → P → IsNumberedList calls P → IfSome calls (λ calls. IsTrue (is_failing calls))
fails None P is numbered = tt
fails (Some calls) P is numbered = numbered.0 is

-- ---- what is found, where the list goes on or stops

and_false : (b : Bool) → (b && false) ≡ false
and_false true = refl
and_false false = refl

-- one file was wanted, and the list is no other
goes_on : (wanted : Option (List ℕ)) (files : Files) → has_others wanted (keys files) ≡ false → stops_at_list wanted files ≡ false
goes_on wanted files alone = rw alone (and_false (not (nat_lt max_files (length (keys files)))))

-- the reading is what is found
lift : (wanted : Option (List ℕ)) (told : Option Files) (calls : Option Calls) (reading : Reading) → ((files : Files) → told ≡ Some files → stops_at_list wanted files ≡ false) → IsReadingOf told calls reading → IsFoundBy wanted told calls (read reading)
lift wanted None calls reading on is = tt
lift wanted (Some files) None reading on is = (is, λ stops. let no_more : false ≡ true = rw (on files refl) at stops in cc)
lift wanted (Some files) (Some calls) reading on is = rw (on files refl) (ap read is)

module _ (wanted : Option (List ℕ)) where
  pub allowed_found : (files : Files) (calls : Calls) → AllowsFound wanted files (found_of wanted files calls)
  allowed_found files calls =
      elim (stops_at_list wanted files) as (λ b. stops_at_list wanted files ≡ b → AllowsFound wanted files (if b && not (is_failing calls) then other_files else read (reading_of files calls))) [
        | true ↦ λ stops.
            elim (is_failing calls) as (λ f. is_failing calls ≡ f → AllowsFound wanted files (if not f then other_files else read (reading_of files calls))) [
              | true ↦ λ failed. (allowed files calls, λ again. rw failed refl)
              | false ↦ λ passed. stops
            ] refl
        | false ↦ λ on. (allowed files calls, λ stops. let no_more : false ≡ true = rw on at stops in cc)
      ] refl

  pub some_found : (files : Option Files) (calls : Option Calls) → (found : Found) × IsFoundBy wanted files calls found
  some_found None calls = (other_files, tt)
  some_found (Some files) None = (read folder_fault, (inl refl, λ stops. refl))
  some_found (Some files) (Some calls) = (found_of wanted files calls, refl)

-- ---- where the list itself decides

failed : (told : Option Files) (calls : Option Calls) → IfSome calls (λ calls. IsTrue (is_failing calls)) → IsReadingOf told calls folder_fault
failed None calls fails = tt
failed (Some files) None fails = inl refl
failed (Some files) (Some calls) fails = rw fails refl

too_many : (told : Option Files) (calls : Option Calls) → ((files : Files) → told ≡ Some files → max_files < length (keys files)) → Passes calls → IsReadingOf told calls folder_limit
too_many None calls many pass = tt
too_many (Some files) calls many pass =
    let reads = some_reads files (after_told_call calls) (keys files) in
    let many' : nat_lt max_files (length (keys files)) ≡ true = more _ _ (many files refl) in
    after_list files calls reads.0 folder_limit pass reads.1 (rw many' refl)

-- what the list tells of the files, and that it fails where its number says so
module _ (told : Option Files) (calls : Option Calls) where
  pub list_decides : (error : ImageError) → ((files : Files) → told ≡ Some files → ListsPaths files (Err error)) → IsNumberedList calls (IsErrOf {T = Vec (String Global) Global} (Err error) FolderFault) → IfSome (told_reading (Err error)) (IsReadingOf told calls)
  list_decides FolderFault lists numbered = failed told calls (fails calls _ refl numbered)
  list_decides FolderLimit lists numbered = too_many told calls lists (passes calls _ (λ failed. cc) numbered)
  list_decides NoMemory lists numbered = tt

found_failed : (wanted : Option (List ℕ)) (told : Option Files) (calls : Option Calls) → IfSome calls (λ calls. IsTrue (is_failing calls)) → IsFoundBy wanted told calls (read folder_fault)
found_failed wanted None calls fails = tt
found_failed wanted (Some files) None fails = (inl refl, λ stops. refl)
found_failed wanted (Some files) (Some calls) fails = rw (fails, and_false (stops_at_list wanted files)) refl

-- more files than there may be are no others
no_stop : (wanted : Option (List ℕ)) (files : Files) → max_files < length (keys files) → stops_at_list wanted files ≡ false
no_stop wanted files many = rw (more _ _ many) refl

module _ (wanted : Option (List ℕ)) (told : Option Files) (calls : Option Calls) where
  pub list_finds : (error : ImageError) → ((files : Files) → told ≡ Some files → ListsPaths files (Err error)) → IsNumberedList calls (IsErrOf {T = Vec (String Global) Global} (Err error) FolderFault) → IfSome (told_found (Err (script_error error))) (IsFoundBy wanted told calls)
  list_finds FolderFault lists numbered = found_failed wanted told calls (fails calls _ refl numbered)
  list_finds FolderLimit lists numbered = lift wanted told calls folder_limit (λ files is. no_stop wanted files (lists files is)) (too_many told calls lists (passes calls _ (λ failed. cc) numbered))
  list_finds NoMemory lists numbered = tt

one_failed : (wanted : Option (List ℕ)) (told : Option Files) (calls now : Option Calls) → IfSome calls (λ calls. IsTrue (is_failing calls)) → now ≡ after_told_call calls → HasMadeCalls wanted told calls now
one_failed wanted None calls now fails next = tt
one_failed wanted (Some files) None now fails next = tt
one_failed wanted (Some files) (Some calls) now fails next = rw (fails, and_false (stops_at_list wanted files)) next

one_too_many : (wanted : Option (List ℕ)) (told : Option Files) (calls now : Option Calls) → ((files : Files) → told ≡ Some files → max_files < length (keys files)) → Passes calls → now ≡ after_told_call calls → HasMadeCalls wanted told calls now
one_too_many wanted None calls now many pass next = tt
one_too_many wanted (Some files) None now many pass next = tt
one_too_many wanted (Some files) (Some calls) now many pass next = rw (pass, more _ _ (many files refl)) next

pub list_made : (wanted : Option (List ℕ)) (told : Option Files) (calls now : Option Calls) (error : ImageError) → ((files : Files) → told ≡ Some files → ListsPaths files (Err error)) → IsNumberedList calls (IsErrOf {T = Vec (String Global) Global} (Err error) FolderFault) → now ≡ after_told_call calls → OnSome (told_reading (Err error)) (HasMadeCalls wanted told calls now)
list_made wanted told calls now FolderFault lists numbered next = one_failed wanted told calls now (fails calls _ refl numbered) next
list_made wanted told calls now FolderLimit lists numbered next = one_too_many wanted told calls now lists (passes calls _ (λ failed. cc) numbered) next
list_made wanted told calls now NoMemory lists numbered next = tt

-- ---- the paths are those of the files, and few

pub from_reads : (told : Option Files) (calls : Option Calls) (paths : List (List ℕ)) (now : Option Calls) (answer : Option Reading) → ((files : Files) → told ≡ Some files → paths ≡ keys files) → length paths ≤ max_files → Passes calls → ((files : Files) → told ≡ Some files → IfSome answer (DecidesReading files (after_told_call calls) now paths)) → IfSome answer (IsReadingOf told calls)
from_reads None calls paths now None all few pass reads = tt
from_reads None calls paths now (Some reading) all few pass reads = tt
from_reads (Some files) calls paths now None all few pass reads = tt
from_reads (Some files) calls paths now (Some reading) all few pass reads =
    let same = all files refl in
    let decided : DecidesReading files (after_told_call calls) now (keys files) reading = subst (λ ps. DecidesReading files (after_told_call calls) now ps reading) same (reads files refl) in
    let few' : nat_lt max_files (length (keys files)) ≡ false = rw (← same) (not_more (length paths) max_files few) in
    after_list files calls decided.reads reading pass decided.may (rw few' decided.is)

pub find_reads : (wanted : Option (List ℕ)) (told : Option Files) (calls : Option Calls) (paths : List (List ℕ)) (now : Option Calls) (answer : Option Reading) → ((files : Files) → told ≡ Some files → paths ≡ keys files) → length paths ≤ max_files → has_others wanted paths ≡ false → Passes calls → ((files : Files) → told ≡ Some files → IfSome answer (DecidesReading files (after_told_call calls) now paths)) → IfSome answer (λ reading. IsFoundBy wanted told calls (read reading))
find_reads wanted told calls paths now None all few alone pass reads = tt
find_reads wanted told calls paths now (Some reading) all few alone pass reads =
    lift wanted told calls reading (λ files is. goes_on wanted files (rw (← all files is) alone)) (from_reads told calls paths now (Some reading) all few pass reads)

pub made_reads : (wanted : Option (List ℕ)) (told : Option Files) (calls : Option Calls) (paths : List (List ℕ)) (now : Option Calls) (answer : Option Reading) → ((files : Files) → told ≡ Some files → paths ≡ keys files) → length paths ≤ max_files → has_others wanted paths ≡ false → Passes calls → ((files : Files) → told ≡ Some files → IfSome answer (DecidesReading files (after_told_call calls) now paths)) → OnSome answer (HasMadeCalls wanted told calls now)
made_reads wanted told calls paths now None all few alone pass reads = tt
made_reads wanted None calls paths now (Some reading) all few alone pass reads = tt
made_reads wanted (Some files) None paths now (Some reading) all few alone pass reads = tt
made_reads wanted (Some files) (Some calls) paths now (Some reading) all few alone pass reads =
    let same = all files refl in
    let decided : DecidesReading files (Some (after_call calls)) now (keys files) reading = subst (λ ps. DecidesReading files (Some (after_call calls)) now ps reading) same (reads files refl) in
    let few' : nat_lt max_files (length (keys files)) ≡ false = rw (← same) (not_more (length paths) max_files few) in
    let on : stops_at_list wanted files ≡ false = goes_on wanted files (rw (← same) alone) in
    let are = determined files (after_call calls) (keys files) decided.reads decided.may in
    rw (on, pass, few') (decided.made ∙ ap (λ image. after_calls (reads_made 0 image) (Some (after_call calls))) are ∙ calls_then (reads_made 0 (reads_of files (after_call calls) (keys files))) (Some calls))

-- ---- the list has others

module _ (files : Files) (wanted : Option (List ℕ)) (paths : List (List ℕ)) (same : paths ≡ keys files) (few : length paths ≤ max_files) (apart : has_others wanted paths ≡ true) where
  stops : stops_at_list wanted files ≡ true
  stops =
      let few' : nat_lt max_files (length (keys files)) ≡ false = rw (← same) (not_more (length paths) max_files few) in
      let apart' : has_others wanted (keys files) ≡ true = rw (← same) apart in
      rw (few', apart') refl

pub others : (wanted : Option (List ℕ)) (told : Option Files) (calls : Option Calls) (paths : List (List ℕ)) → ((files : Files) → told ≡ Some files → paths ≡ keys files) → length paths ≤ max_files → has_others wanted paths ≡ true → Passes calls → IsFoundBy wanted told calls other_files
others wanted None calls paths all few apart pass = tt
others wanted (Some files) None paths all few apart pass = stops files wanted paths (all files refl) few apart
others wanted (Some files) (Some calls) paths all few apart pass = rw (stops files wanted paths (all files refl) few apart, pass) refl

pub others_made : (wanted : Option (List ℕ)) (told : Option Files) (calls : Option Calls) (paths : List (List ℕ)) (now : Option Calls) → ((files : Files) → told ≡ Some files → paths ≡ keys files) → length paths ≤ max_files → has_others wanted paths ≡ true → Passes calls → now ≡ after_told_call calls → HasMadeCalls wanted told calls now
others_made wanted None calls paths now all few apart pass next = tt
others_made wanted (Some files) None paths now all few apart pass next = tt
others_made wanted (Some files) (Some calls) paths now all few apart pass next = rw (stops files wanted paths (all files refl) few apart, pass) next

-- ---- the answers where one script is wanted tell the same

pub script_told : (error : ImageError) (P : Found → Type 0) → IfSome (told_reading (Err error)) (λ reading. P (read reading)) → IfSome (told_found (Err (script_error error))) P
script_told FolderFault P told = told
script_told FolderLimit P told = told
script_told NoMemory P told = tt

pub script_made : (error : ImageError) (P : Type 0) → OnSome (told_reading (Err error)) P → OnSome (told_found (Err (script_error error))) P
script_made FolderFault P told = told
script_made FolderLimit P told = told
script_made NoMemory P told = tt

pub list_faults : (before now : Faults) (error : ImageError) → HasFaultsOfList before now (Err error) → IfSome (told_reading (Err error)) (HasFaults before now)
list_faults before now FolderFault has = has
list_faults before now FolderLimit has = tt
list_faults before now NoMemory has = tt

-- ---- no call was counted as failed

module _ (wanted : Option (List ℕ)) (files : Files) (before now : Faults) (same : now ≡ before) (deciding : before.deciding + 1 < 2 ^ 64) (other : before.other + 1 < 2 ^ 64) where
  of_allowed : (found : Found) → AllowsFound wanted files found → HasFoundFaults before now found → found ≡ unfailed_found wanted files
  of_allowed other_files is has = rw is refl
  of_allowed (read reading) allows has =
      elim (stops_at_list wanted files) as (λ b. stops_at_list wanted files ≡ b → read reading ≡ (if b then other_files else read (unfailed_reading files))) [
        | true ↦ λ on. absurd (no_fault files before now same deciding other (rw (allows.1 on) at has))
        | false ↦ λ off. ap read (unfailed files before now same deciding other reading allows.0 has)
      ] refl

  pub unfailed_is : (calls : Option Calls) (found : Found) → IsFoundBy wanted (Some files) calls found → HasFoundFaults before now found → found ≡ unfailed_found wanted files
  unfailed_is None found is has = of_allowed found is has
  unfailed_is (Some calls) found is has = of_allowed found (rw is (allowed_found wanted files calls)) has

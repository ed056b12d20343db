-- Reads of paths, one after the other.
use Rattle.std.proofs.Common.{◌≡◌, ℕ, ◌+◌, ◌-◌, ◌^◌, ◌≤◌, ◌<◌, min, List, [], ◌∷◌, ◌++◌, length, take, drop, get_or, refl, sym, ap, subst, ◌∙◌, None, Some, IfSome, All, arith, append_assoc, append-nil, drop-cons, add_assoc, zero-add, add-one, suc, Vec, String}
use Rattle.std.specs.Prelude.{string_bytes, if◌then◌else◌}
use Rattle.std.specs.declared.alloc.Global.{Global}
use Rattle.std.specs.declared.option.Option.{Option}
use Rattle.std.proofs.lemmas.List.{drop_all, take_more}
use Rattle.std.specs.declared.result.Result.TheVariants.{Ok, Err}
use Rattle.project_run.specs.declared.image.ImageError.{ImageError}
use Rattle.project_run.specs.declared.image.ImageError.TheVariants.{FolderFault, FolderLimit, NoMemory}
use Rattle.project_run.specs.Answers.{IsStep, told_reading, HasFaultsOfOne, DecidesReading}
use Rattle.folder_meaning.specs.declared.image.ImageFile.{ImageFile}
use Rattle.folder_meaning.specs.ImageFile.{image_of, bytes_of}
use Rattle.std.proofs.lemmas.List.{map-append}
use Rattle.std.specs.List.{sum_by}
use Rattle.std.proofs.lemmas.List.Elements.{All-push}
use Rattle.std.proofs.lemmas.List.Sums.{sum_by_push}
use Rattle.std.specs.Prelude.{is_none}
use Rattle.host_io.specs.Causes.{Calls, after_told_call, RoseBy}
use Rattle.host_io.specs.Folder.{Files, texts}
use Rattle.host_io.specs.declared.folder.Faults.{Faults}
use Rattle.folder_meaning.specs.Image.{Image, size_of, unreadable_files, paths_of}
use Rattle.folder_meaning.specs.Reading.{Reading, event_of, first_event, MayGive, MayRead, image_read, folder_fault, folder_limit}
use Rattle.folder_meaning.specs.ReadingCalls.{after_calls, reads_made}
use Rattle.folder_meaning.proofs.Readings.{some_reads}

-- what was read so far, and what is left
pub record AreSoFar (files : Files) (first calls : Option Calls) (paths left : List (String Global)) (image : Image) (total count : ℕ) : Type 0 where
  pub reads : (rest : Image) → MayRead files calls (texts left) rest → MayRead files first (texts paths) (image ++ rest)
  pub events : (rest : Image) → first_event 0 (image ++ rest) ≡ first_event total rest
  pub made : (rest : Image) → reads_made 0 (image ++ rest) ≡ count + reads_made total rest

pub at_start : (files : Files) (first : Option Calls) (paths : List (String Global)) → AreSoFar files first first paths paths [] 0 0
at_start files first paths = record { reads = λ rest may. may; events = λ rest. refl; made = λ rest. sym (zero-add _) }

next_made : (i n : ℕ) → i + suc n ≡ (i + 1) + n
next_made i n = omega arith

module _ (files : Files) (first calls : Option Calls) (paths : List (String Global)) (i : ℕ) (image : Image) (total : ℕ) (number : calls ≡ after_calls i first) where
  module _ (path : String Global) (within : i < length paths) (is : path ≡ get_or paths i path) (so_far : AreSoFar files first calls paths (drop i paths) image total i) (text : List ℕ) (spells : text ≡ string_bytes path) where
    here : (outcome : Option (List ℕ)) (rest : Image) → MayGive files calls text outcome → MayRead files (after_told_call calls) (texts (drop (i + 1) paths)) rest → MayRead files calls (texts (drop i paths)) ((text, outcome) ∷ rest)
    here outcome rest gives may = rw (drop-cons paths i path, ← is) (spells, rw (← spells) gives, rw add-one at may)

    pub one_more : (outcome : Option (List ℕ)) (image' : Image) (calls' : Option Calls) (total' : ℕ) → MayGive files calls text outcome → event_of total text outcome ≡ None → calls' ≡ after_told_call calls → image' ≡ image ++ (text, outcome) ∷ [] → total' ≡ total + size_of outcome → AreSoFar files first calls' paths (drop (i + 1) paths) image' total' (i + 1)
    one_more outcome image' calls' total' gives none next is sum = rw (is, next, sum) (record {
      reads = λ rest may. rw append_assoc (so_far.reads _ (here outcome rest gives may));
      events = λ rest. rw append_assoc (so_far.events _ ∙ rw none refl);
      made = λ rest. rw append_assoc (so_far.made _ ∙ rw none (next_made i (reads_made (total + size_of outcome) rest)));
    })

    decided : (outcome : Option (List ℕ)) (event : Reading) (calls' : Option Calls) → calls' ≡ after_told_call calls → MayGive files calls text outcome → event_of total text outcome ≡ Some event → DecidesReading files first calls' (texts paths) event
    decided outcome event calls' next gives decides =
        let rest = some_reads files (after_told_call calls) (texts (drop (i + 1) paths)) in
        let count : reads_made 0 (image ++ (text, outcome) ∷ rest.0) ≡ suc i = so_far.made ((text, outcome) ∷ rest.0) ∙ rw decides (add-one i) in
        record {
          reads = _;
          may = so_far.reads _ (here outcome rest.0 gives rest.1);
          is = rw (so_far.events ((text, outcome) ∷ rest.0), decides) refl;
          made = next ∙ ap after_told_call number ∙ rw count refl;
        }

    pub stopped : (outcome : Option (List ℕ)) (error : ImageError) (calls' : Option Calls) → calls' ≡ after_told_call calls → MayGive files calls text outcome → IsStep total text outcome (Err error) → IfSome (told_reading (Err error)) (DecidesReading files first calls' (texts paths))
    stopped outcome FolderFault calls' next gives step = decided outcome folder_fault calls' next gives step
    stopped outcome FolderLimit calls' next gives step = decided outcome folder_limit calls' next gives step
    stopped outcome NoMemory calls' next gives step = tt

  pub finished : length paths ≤ i → AreSoFar files first calls paths (drop i paths) image total i → DecidesReading files first calls (texts paths) (image_read image)
  finished past so_far =
      let none : drop i paths ≡ [] = drop_all i paths past in
      let reads : MayRead files first (texts paths) (image ++ []) = so_far.reads [] (rw none tt) in
      let same = append-nil image in
      let none_first : first_event 0 image ≡ None = ap (first_event 0) (sym same) ∙ so_far.events [] in
      let no_more : i + reads_made total [] ≡ i = omega arith in
      let count : reads_made 0 image ≡ i = ap (reads_made 0) (sym same) ∙ so_far.made [] ∙ no_more in
      record {
        reads = image;
        may = subst (MayRead files first (texts paths)) same reads;
        is = rw none_first refl;
        made = rw count number;
      }

-- the code's image with one more file
pub image-push : (old new : List ImageFile) (file : ImageFile) (text : List ℕ) (outcome : Option (List ℕ)) → new ≡ old ++ file ∷ [] → string_bytes file.path ≡ text → bytes_of file.content ≡ outcome → image_of new ≡ image_of old ++ (text, outcome) ∷ []
image-push old new file text outcome is same gave = rw (is, map-append) (rw (same, gave) refl)

unreadable-append : (image more : Image) → unreadable_files (image ++ more) ≡ unreadable_files image + unreadable_files more
unreadable-append [] more = sym (zero-add _)
unreadable-append (file ∷ image) more = rw (unreadable-append image more) (sym (add_assoc (if is_none file.1 then 1 else 0) (unreadable_files image) (unreadable_files more)))

-- the counts after one more file
pub faults_more : (first before now : Faults) (image image' : Image) (path : List ℕ) (content : Option (Vec ℕ Global)) → before.deciding ≡ first.deciding → RoseBy (unreadable_files image) first.other before.other → HasFaultsOfOne before now (Ok content) → image' ≡ image ++ (path, bytes_of content) ∷ [] → (now.deciding ≡ first.deciding) × RoseBy (unreadable_files image') first.other now.other
faults_more first before now image image' path None same rose one is = (one.1 ∙ same, rw (is, unreadable-append image ((path, None) ∷ [])) (let a : min (first.other + unreadable_files image) (2 ^ 64 - 1) ≤ before.other = rose in let b : min (before.other + 1) (2 ^ 64 - 1) ≤ now.other = one.0 in omega arith))
faults_more first before now image image' path (Some bytes) same rose one is = (ap (λ (f : Faults). f.deciding) one ∙ same, rw (is, unreadable-append image ((path, Some bytes.items) ∷ []), one) (let a : min (first.other + unreadable_files image) (2 ^ 64 - 1) ≤ before.other = rose in omega arith))

paths-append : (image : Image) (text : List ℕ) (outcome : Option (List ℕ)) → paths_of (image ++ (text, outcome) ∷ []) ≡ paths_of image ++ text ∷ []
paths-append image text outcome = map-append (λ file. file.0) image ((text, outcome) ∷ [])

-- the image has the paths that were read, and its sizes
pub paths_more : (image image' : Image) (paths : List (String Global)) (i : ℕ) (path : String Global) (text : List ℕ) (outcome : Option (List ℕ)) → i < length paths → path ≡ get_or paths i path → text ≡ string_bytes path → image' ≡ image ++ (text, outcome) ∷ [] → paths_of image ≡ texts (take i paths) → paths_of image' ≡ texts (take (i + 1) paths)
paths_more image image' paths i path text outcome within is spells more so_far =
    let step : take (i + 1) paths ≡ take i paths ++ path ∷ [] = rw (take_more paths i path within, ← is) refl in
    rw (more, step) (paths-append image text outcome ∙ rw (so_far, spells) (sym (map-append string_bytes (take i paths) (path ∷ []))))

pub short_more : (limit : ℕ) (image image' : Image) (text : List ℕ) (outcome : Option (List ℕ)) → image' ≡ image ++ (text, outcome) ∷ [] → All (λ file. size_of file.1 ≤ limit) image → size_of outcome ≤ limit → All (λ file. size_of file.1 ≤ limit) image'
short_more limit image image' text outcome more all one = rw more (All-push (λ file. size_of file.1 ≤ limit) image (text, outcome) all one)

pub total_more : (image image' : Image) (text : List ℕ) (outcome : Option (List ℕ)) (total size : ℕ) → image' ≡ image ++ (text, outcome) ∷ [] → sum_by (λ file. size_of file.1) image ≡ total → size ≡ size_of outcome → sum_by (λ file. size_of file.1) image' ≡ total + size
total_more image image' text outcome total size more sum is = rw (more, is) (sum_by_push (λ file. size_of file.1) image (text, outcome) ∙ rw sum refl)

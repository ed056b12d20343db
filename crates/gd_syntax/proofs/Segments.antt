-- The parts of a text between slashes, and the text that joins such parts.
use Rattle.std.proofs.Common.{◌≡◌, refl, sym, ap, ◌∙◌, ℕ, Bool, true, false, not, cond, List, [], ◌∷◌, ◌++◌, take, drop, codes, Bor, append-nil, take-append-drop, length, ◌-◌, ◌≤◌}
use Rattle.std.specs.List.{list_all, slice_split, onto_first, join_with_byte, All, flat_map}
use Rattle.std.proofs.lemmas.Bool.{and_parts, and_from, not-true}
use Rattle.std.proofs.lemmas.List.{take-map, length-map, take_all}
use Rattle.std.proofs.lemmas.List.Elements.{All-weaker}
use Rattle.std.proofs.lemmas.List.Sums.{AllPass-from_list_all}
use Rattle.std.proofs.lemmas.List.Folds.{list_all-append}
use Rattle.std.proofs.lemmas.List.Splits.{slice_split_none, slice_split_at}
use Rattle.res_paths.specs.Paths.{is_slash, is_segment, segments_of, has_front, has_segments, is_res_path}
use Rattle.gd_syntax.specs.ResPath.{folder_of}
use Rattle.gd_syntax.specs.Parts.{is_unslashed, is_name, parts_of}

first_unslashed : (b : ℕ) (parts : List (List ℕ)) → is_slash b ≡ false → list_all is_unslashed parts ≡ true → list_all is_unslashed (onto_first b parts) ≡ true
first_unslashed b [] plain h = and_from _ true (and_from _ true (ap not plain) refl) refl
first_unslashed b (part ∷ parts) plain h =
    let p = and_parts (is_unslashed part) (list_all is_unslashed parts) h in
    and_from (is_unslashed (b ∷ part)) (list_all is_unslashed parts) (and_from (not (is_slash b)) (is_unslashed part) (ap not plain) p.0) p.1

more_unslashed : (b : ℕ) (parts : List (List ℕ)) (slash : Bool) → is_slash b ≡ slash → list_all is_unslashed parts ≡ true → list_all is_unslashed (cond slash ([] ∷ parts) (onto_first b parts)) ≡ true
more_unslashed b parts true is h = h
more_unslashed b parts false is h = first_unslashed b parts is h

pub parts_unslashed : (bytes : List ℕ) → list_all is_unslashed (slice_split is_slash bytes) ≡ true
parts_unslashed [] = refl
parts_unslashed (b ∷ bytes) = more_unslashed b (slice_split is_slash bytes) (is_slash b) refl (parts_unslashed bytes)

are_names : (parts : List (List ℕ)) → list_all is_segment parts ≡ true → list_all is_unslashed parts ≡ true → list_all is_name parts ≡ true
are_names [] segments plain = refl
are_names (part ∷ parts) segments plain =
    let s = and_parts (is_segment part) (list_all is_segment parts) segments in
    let u = and_parts (is_unslashed part) (list_all is_unslashed parts) plain in
    and_from (is_name part) (list_all is_name parts) (and_from (is_segment part) (is_unslashed part) s.0 u.0) (are_names parts s.1 u.1)

names_segments : (parts : List (List ℕ)) → list_all is_name parts ≡ true → list_all is_segment parts ≡ true
names_segments [] h = refl
names_segments (part ∷ parts) h =
    let p = and_parts (is_name part) (list_all is_name parts) h in
    and_from (is_segment part) (list_all is_segment parts) (and_parts (is_segment part) (is_unslashed part) p.0).0 (names_segments parts p.1)

names_unslashed : (parts : List (List ℕ)) → list_all is_name parts ≡ true → list_all is_unslashed parts ≡ true
names_unslashed [] h = refl
names_unslashed (part ∷ parts) h =
    let p = and_parts (is_name part) (list_all is_name parts) h in
    and_from (is_unslashed part) (list_all is_unslashed parts) (and_parts (is_segment part) (is_unslashed part) p.0).1 (names_unslashed parts p.1)

front_names : (n : ℕ) (parts : List (List ℕ)) → list_all is_name parts ≡ true → list_all is_name (take n parts) ≡ true
front_names n parts h =
    (and_parts (list_all is_name (take n parts)) (list_all is_name (drop n parts)) (sym (list_all-append is_name (take n parts) (drop n parts)) ∙ ap (list_all is_name) (take-append-drop n parts) ∙ h)).0

folder_names : (file : List ℕ) → is_res_path file ≡ true → list_all is_name (folder_of file) ≡ true
folder_names file h =
    front_names (length (segments_of (drop 6 file)) - 1) (segments_of (drop 6 file)) (are_names (segments_of (drop 6 file)) (and_parts (has_front file) (has_segments file) h).1 (parts_unslashed (drop 6 file)))

-- a file's segments without the last
pub without_last : (file : List ℕ) (all left : List (Bor (List ℕ))) (n : ℕ) → n ≡ length all → left ≡ take (n - 1) all → parts_of all ≡ segments_of (drop 6 file) → parts_of left ≡ folder_of file
without_last file all left n len cut is =
    ap parts_of cut ∙ sym (take-map (λ (part : Bor (List ℕ)). part.now) (n - 1) all) ∙ ap (take (n - 1)) is
    ∙ ap (λ k. take (k - 1) (segments_of (drop 6 file))) (len ∙ sym (length-map all (λ (part : Bor (List ℕ)). part.now)) ∙ ap length is)

pub names_left : (file : List ℕ) → is_res_path file ≡ true → (all : List (Bor (List ℕ))) (n : ℕ) → n ≡ length all → parts_of all ≡ segments_of (drop 6 file) → (left : List (Bor (List ℕ))) → left ≡ take (n - 1) all → list_all is_name (parts_of left) ≡ true
names_left file good all n len is left cut = ap (list_all is_name) (without_last file all left n len cut is) ∙ folder_names file good

unslashed_bytes : (part : List ℕ) → is_unslashed part ≡ true → All (λ b. is_slash b ≡ false) part
unslashed_bytes part h = All-weaker (λ b. not (is_slash b) ≡ true) (λ b. is_slash b ≡ false) (λ b. not-true (is_slash b)) part (AllPass-from_list_all (λ b. not (is_slash b)) part h)

-- joined parts without slashes are cut into these again
split_joined : (first : List ℕ) (parts : List (List ℕ)) → list_all is_unslashed (first ∷ parts) ≡ true → slice_split is_slash (join_with_byte 47 (first ∷ parts)) ≡ first ∷ parts
split_joined first [] h = slice_split_none is_slash first (unslashed_bytes first (and_parts (is_unslashed first) true h).0)
split_joined first (next ∷ parts) h =
    let p = and_parts (is_unslashed first) (list_all is_unslashed (next ∷ parts)) h in
    slice_split_at is_slash first 47 (join_with_byte 47 (next ∷ parts)) (unslashed_bytes first p.0) refl ∙ ap (λ rest. first ∷ rest) (split_joined next parts p.1)

pub joined_is_path : (first : List ℕ) (parts : List (List ℕ)) → list_all is_name (first ∷ parts) ≡ true → is_res_path (codes "res://" ++ join_with_byte 47 (first ∷ parts)) ≡ true
joined_is_path first parts h = ap (list_all is_segment) (split_joined first parts (names_unslashed (first ∷ parts) h)) ∙ names_segments (first ∷ parts) h

joined-cons : (first : Bor (List ℕ)) (others : List (Bor (List ℕ))) → join_with_byte 47 (parts_of (first ∷ others)) ≡ first.now ++ flat_map (λ part. 47 ∷ part.now) others
joined-cons first [] = sym (append-nil first.now)
joined-cons first (next ∷ others) = ap (λ rest. first.now ++ 47 ∷ rest) (joined-cons next others)

-- what a loop has joined at its end
pub joined_text : (first : Bor (List ℕ)) (others : List (Bor (List ℕ))) (front start text : List ℕ) (n : ℕ) → length others ≤ n → front ≡ codes "res://" → start ≡ front ++ first.now → text ≡ start ++ flat_map (λ part. 47 ∷ part.now) (take n others) → text ≡ codes "res://" ++ join_with_byte 47 (parts_of (first ∷ others))
joined_text first others front start text n all begun named joined =
    joined ∙ ap (λ more. start ++ flat_map (λ (part : Bor (List ℕ)). 47 ∷ part.now) more) (take_all n others all)
    ∙ ap (λ s. s ++ flat_map (λ (part : Bor (List ℕ)). 47 ∷ part.now) others) (named ∙ ap (λ f. f ++ first.now) begun)
    ∙ ap (λ rest. codes "res://" ++ rest) (sym (joined-cons first others))

-- One turn of a loop over the parts of a text.
use Rattle.std.proofs.Common.{◌≡◌, refl, ap, ◌∙◌, ℕ, ◌+◌, ◌<◌, length, true, List, [], ◌∷◌, drop, get_or, add-one, Result}
use Rattle.std.proofs.Math.Seq.{drop-cons}
use Rattle.std.specs.declared.option.Option.{Option}
use Rattle.std.specs.declared.option.Option.TheVariants.{None, Some}
use Rattle.std.specs.declared.result.Result.TheVariants.{Ok, Err}
use Rattle.std.specs.Result.{IsErrAnd}
use Rattle.std.proofs.lemmas.List.Elements.{All-get_or}
use Rattle.std.proofs.lemmas.List.Sums.{AllPass-from_list_all}
use Rattle.res_paths.specs.Paths.{segments_of}
use Rattle.gd_syntax.specs.ResPath.{entered, resolved}
use Rattle.gd_syntax.specs.Parts.{is_unslashed, IsEntered}
use Rattle.gd_syntax.specs.declared.path.PathError.{PathError}
use Rattle.gd_syntax.specs.declared.path.PathError.TheVariants.{NotRes, BadSegment, NoMemory}
use Rattle.gd_syntax.proofs.Segments.{parts_unslashed}

pub part_unslashed : (text : List ℕ) (n : ℕ) (part : List ℕ) → n < length (segments_of text) → part ≡ get_or (segments_of text) n part → is_unslashed part ≡ true
part_unslashed text n part within is = ap is_unslashed is ∙ All-get_or (λ p. is_unslashed p ≡ true) (segments_of text) n part within (AllPass-from_list_all is_unslashed (segments_of text) (parts_unslashed text))

nowhere : (parts : List (List ℕ)) → resolved None parts ≡ None
nowhere [] = refl
nowhere (part ∷ parts) = refl

next_part : (parts : List (List ℕ)) (n : ℕ) (part : List ℕ) → n < length parts → part ≡ get_or parts n part → drop n parts ≡ part ∷ drop (n + 1) parts
next_part parts n part within is = rw (add-one, drop-cons parts n part, ← is) refl

pub turn_on : (folder now : List (List ℕ)) (parts : List (List ℕ)) (n : ℕ) (part : List ℕ) → n < length parts → part ≡ get_or parts n part → entered folder part ≡ Some now → resolved (Some folder) (drop n parts) ≡ resolved (Some now) (drop (n + 1) parts)
turn_on folder now parts n part within is to = ap (resolved (Some folder)) (next_part parts n part within is) ∙ ap (λ o. resolved o (drop (n + 1) parts)) to

pub turn_off : (folder : List (List ℕ)) (parts : List (List ℕ)) (n : ℕ) (part : List ℕ) → n < length parts → part ≡ get_or parts n part → entered folder part ≡ None → resolved (Some folder) (drop n parts) ≡ None
turn_off folder parts n part within is to = ap (resolved (Some folder)) (next_part parts n part within is) ∙ ap (λ o. resolved o (drop (n + 1) parts)) to ∙ nowhere (drop (n + 1) parts)

-- the loop ends with the answer of its last step
pub stopped : (to whole : Option (List (List ℕ))) (now : List (List ℕ)) (error : PathError) (result : Result (Unit {0}) PathError) → IsErrAnd result (λ e. e ≡ error) → (to ≡ None → whole ≡ None) → IsEntered to now (Err error) → IsEntered whole now result
stopped to whole now error (Ok done) is off h = absurd is
stopped to whole now NotRes (Err e) is off h = absurd h
stopped to whole now BadSegment (Err e) is off h = rw is (off h)
stopped to whole now NoMemory (Err e) is off h = rw is tt

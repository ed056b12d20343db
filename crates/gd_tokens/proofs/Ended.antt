-- A list with the file's end behind it.
use Rattle.std.proofs.Common.{◌≡◌, ◌≢◌, refl, ap, ◌∙◌, ℕ, ◌+◌, ◌<◌, ◌≤◌, List, [], ◌∷◌, ◌++◌, length, Some, true, false, Bool, nat_lt, arith}
use Rattle.std.specs.Prelude.{Result, Ok, Err, OnOk}
use Rattle.std.proofs.lemmas.List.{length-append}
use Rattle.std.proofs.lemmas.Bool.Decides.{nat_tests}
use Rattle.gd_syntax.specs.declared.fault.Place.{Place}
use Rattle.gd_syntax.specs.declared.token.Token.{Token}
use Rattle.gd_syntax.specs.declared.token.Mark.TheVariants.{End}
use Rattle.gd_syntax.specs.Layout.{mark_at as mark_token}
use Rattle.gd_syntax.specs.TokenReading.{IsEnded, kind_at, mark_at}

last_is : (before : List Token) (place : Place) → mark_at (before ++ mark_token place End ∷ []) (length before) ≡ Some End
unfolding kind_at
last_is [] place = refl
last_is (t ∷ before) place = last_is before place

goes : (before : List Token) (place : Place) (at : ℕ) (b : Bool) → at < length (before ++ mark_token place End ∷ []) → mark_at (before ++ mark_token place End ∷ []) at ≢ Some End → nat_lt at (length before) ≡ b → at + 1 < length (before ++ mark_token place End ∷ [])
goes before place at true within other is = let less : at < length before = grind (arith, nat_tests) in omega (arith, less, length-append before (mark_token place End ∷ []))
goes before place at false within other is =
    let more : length before ≤ at = grind (arith, nat_tests) in
    let last : at ≡ length before = omega (arith, more, within, length-append before (mark_token place End ∷ [])) in
    absurd (other (ap (mark_at (before ++ mark_token place End ∷ [])) last ∙ last_is before place))

pub with_end : (before : List Token) (place : Place) → IsEnded (before ++ mark_token place End ∷ [])
with_end before place = record {
  some = omega (arith, length-append before (mark_token place End ∷ []));
  goes_on = λ at within other. goes before place at (nat_lt at (length before)) within other refl;
}

pub ended_by : {A E : Type 0} (result : Result A E) (before after : List Token) (place : Place) → OnOk result (after ≡ before ++ mark_token place End ∷ []) → OnOk result (IsEnded after)
ended_by (Ok _) before after place is = rw is (with_end before place)
ended_by (Err _) before after place is = tt

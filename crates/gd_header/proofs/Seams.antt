-- Where a text is cut behind some of its characters.
use Rattle.std.proofs.Common.{◌≡◌, refl, sym, ap, ◌∙◌, ℕ, zero, suc, ◌+◌, ◌-◌, Bool, true, false, ◌&&◌, List, [], ◌∷◌, ◌++◌, length, take, drop, arith, subst}
use Rattle.std.proofs.Math.Utf8.{scalar, scalars, encodes}
use Rattle.std.proofs.Math.Seq.{take-append_seam}
use Rattle.std.proofs.lemmas.List.{take-append-drop, length-append}
use Rattle.std.proofs.lemmas.Str.{encodes-append, encodes-chars, chars-encodes, scalars-chars, IsCharBoundary-at_seam}
use Rattle.std.specs.Str.{chars, IsUtf8, IsCharBoundary}

and_goes : (a b other : Bool) → (b ≡ true → other ≡ true) → (a && b) ≡ true → (a && other) ≡ true
and_goes true b other goes both = goes both
and_goes false b other goes both = both

scalars-take : (n : ℕ) (cs : List ℕ) → scalars cs ≡ true → scalars (take n cs) ≡ true
scalars-take zero cs all = refl
scalars-take (suc n) [] all = refl
scalars-take (suc n) (c ∷ cs) all = and_goes (scalar c) (scalars cs) (scalars (take n cs)) (scalars-take n cs) all

module _ (bs rs : List ℕ) (n : ℕ) (text : IsUtf8 bs) (rest : IsUtf8 rs) (is : chars rs ≡ drop n (chars bs)) where
  pub splits : bs ≡ encodes (take n (chars bs)) ++ rs
  splits =
      sym (encodes-chars bs text) ∙ ap encodes (sym (take-append-drop n (chars bs))) ∙ encodes-append (take n (chars bs)) (drop n (chars bs))
      ∙ ap (λ cs. encodes (take n (chars bs)) ++ encodes cs) (sym is) ∙ ap (λ r. encodes (take n (chars bs)) ++ r) (encodes-chars rs rest)

  pub sized : length bs ≡ length (encodes (take n (chars bs))) + length rs
  sized = ap length splits ∙ length-append (encodes (take n (chars bs))) rs

  pub seam : IsCharBoundary bs (length bs - length rs)
  seam = subst (IsCharBoundary bs) (omega (arith, sized)) (IsCharBoundary-at_seam bs (encodes (take n (chars bs))) rs splits rest)

  pub front_is : chars (take (length bs - length rs) bs) ≡ take n (chars bs)
  front_is =
      let size : length bs - length rs ≡ length (encodes (take n (chars bs))) = omega (arith, sized) in
      ap (λ k. chars (take k bs)) size ∙ ap (λ b. chars (take (length (encodes (take n (chars bs)))) b)) splits
      ∙ ap chars (take-append_seam (encodes (take n (chars bs))) rs) ∙ chars-encodes (take n (chars bs)) (scalars-take n (chars bs) (scalars-chars bs text))

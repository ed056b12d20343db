-- Steps of the loops over lists of lists.
use Rattle.std.proofs.Common.{◌≡◌, ℕ, suc, ◌+◌, ◌-◌, ◌<◌, List, [], ◌∷◌, ◌++◌, length, map, get_or, set, take, drop, replicate, sym, ap, ◌∙◌, arith, append_assoc}
use Rattle.std.proofs.lemmas.List.{map-append, map-set, get_or-map, take_more, take_more_set, get_or-drop, drop-drop, drop-set-lt, length_push, length-map}
use Rattle.index_lists.specs.Lists.{without, padded}

-- an empty list more is one that was wanted
pub padded-push : (lists : List (List ℕ)) (heads : ℕ) → length lists < heads → padded (lists ++ [] ∷ []) heads ≡ padded lists heads
padded-push lists heads few =
    let count : (heads - length (lists ++ [] ∷ [])) + 1 ≡ heads - length lists = omega (arith, length_push lists [], few) in
    append_assoc lists ([] ∷ []) (replicate (heads - length (lists ++ [] ∷ [])) [])
    ∙ ap (λ l. lists ++ l) (sym (replicate_more (heads - length (lists ++ [] ∷ [])) []) ∙ ap (λ n. replicate n []) count)
  where
    replicate_more : (n : ℕ) (x : List ℕ) → replicate (n + 1) x ≡ x ∷ replicate n x
    replicate_more n x = let more : n + 1 ≡ suc n = omega arith in ap (λ k. replicate k x) more

module _ {X : Type 0} (f : X → List ℕ) (node : ℕ) (xs ys : List X) (i : ℕ) (x v : X)
    (within : i < length xs) (len : length xs ≡ length ys) (read : x ≡ get_or xs i x) (left : f v ≡ without node (f (get_or xs i x)))
    (rest : drop i xs ≡ drop i ys) where
  same_there : get_or ys i x ≡ x
  same_there =
      ap (λ n. get_or ys n x) (omega arith) ∙ sym (get_or-drop i ys 0 x) ∙ ap (λ l. get_or l 0 x) (sym rest) ∙ get_or-drop i xs 0 x
      ∙ ap (λ n. get_or xs n x) (omega arith) ∙ sym read

  -- the node is left out of one list more
  pub done_more : take i (map f xs) ≡ map (without node) (take i (map f ys)) → take (i + 1) (map f (set xs i v)) ≡ map (without node) (take (i + 1) (map f ys))
  done_more done =
      ap (take (i + 1)) (map-set f xs i v)
      ∙ take_more_set (map f xs) i (f v) (omega (arith, within, length-map xs f))
      ∙ ap (λ l. l ++ f v ∷ []) done
      ∙ ap (λ l. map (without node) (take i (map f ys)) ++ l ∷ []) (left ∙ ap (λ item. without node (f item)) (sym read) ∙ ap (without node) (sym (get_or-map f ys i x [] (omega (arith, within, len)) ∙ ap f same_there)))
      ∙ sym (map-append (without node) (take i (map f ys)) (get_or (map f ys) i [] ∷ []))
      ∙ ap (map (without node)) (sym (take_more (map f ys) i [] (omega (arith, within, len, length-map ys f))))

  pub rest_more : drop (i + 1) (set xs i v) ≡ drop (i + 1) ys
  rest_more = drop-set-lt (i + 1) xs i v (omega arith) ∙ sym (drop-drop 1 i xs) ∙ ap (drop 1) rest ∙ drop-drop 1 i ys

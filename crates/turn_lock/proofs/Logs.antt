-- What begins a log.
use Rattle.std.proofs.Common.{◌≡◌, ◌≤◌, List, [], ◌∷◌, ◌++◌, length, append_assoc, append-nil, sym, refl, ap, ◌∙◌, subst, arith}
use mathlib.Core.List.{IsPrefix}

module _ {A : Type 0} where
  pub prefix_refl : (xs : List A) → IsPrefix xs xs
  prefix_refl xs = ([], append-nil xs)

  pub prefix_trans : (xs ys zs : List A) → IsPrefix xs ys → IsPrefix ys zs → IsPrefix xs zs
  prefix_trans xs ys zs p q = (p.0 ++ q.0, sym (append_assoc xs p.0 q.0) ∙ (ap (λ l. l ++ q.0) p.1 ∙ q.1))

  -- of two beginnings of one list the shorter begins the longer
  pub prefix_shorter : (xs ys zs : List A) → IsPrefix xs zs → IsPrefix ys zs → length xs ≤ length ys → IsPrefix xs ys
  prefix_shorter [] ys zs p q h = (ys, refl)
  prefix_shorter (x ∷ xs) [] zs p q h = absurd (omega arith)
  prefix_shorter (x ∷ xs) (y ∷ ys) [] p q h = absurd (cons_nil p.1)
    where
      cons_nil : {a : A} {l : List A} → a ∷ l ≡ [] → ⊥
      cons_nil e = cc
  prefix_shorter (x ∷ xs) (y ∷ ys) (z ∷ zs) p q h =
      let t = prefix_shorter xs ys zs (p.0, tail_is p.1) (q.0, tail_is q.1) (omega arith) in
      (t.0, λ i. (head_is p.1 ∙ sym (head_is q.1)) i ∷ t.1 i)
    where
      head_is : {a b : A} {l m : List A} → a ∷ l ≡ b ∷ m → a ≡ b
      head_is e = cc

      tail_is : {a b : A} {l m : List A} → a ∷ l ≡ b ∷ m → l ≡ m
      tail_is e = cc

-- the log of a value that is as it was has grown by nothing, which is what `leave` asks after a look
pub same_log : {T E : Type 0} (log_of : T → List E) (old now : T) → now ≡ old → IsPrefix (log_of old) (log_of now)
same_log log_of old now same = subst (λ x. IsPrefix (log_of old) (log_of x)) (sym same) (prefix_refl (log_of old))

-- A pattern that is filled while it is read gives what its pieces give.
use Rattle.std.proofs.Common.{◌≡◌, ◌∙◌, ap, sym, refl, ℕ, zero, suc, Bool, true, false, List, [], ◌∷◌, Option, Some, None}
use Rattle.std.specs.Prelude.{◌==◌, if◌then◌else◌, option_map}
use Rattle.variant_values.specs.declared.values.Value.{Value}
use Rattle.variant_values.specs.Formats.{Directive, Formatted, Piece, directive_at, filled, filled_where, followed, pieces_after, plain, starts_percent, with_byte, with_shown}
use Rattle.string_calls.specs.Passes.{at_directive, formatted_after}
use Rattle.string_calls.proofs.Drafting.{followed_assoc}

nothing_follows : (f : Formatted) → followed f None ≡ None
nothing_follows None = refl
nothing_follows (Some a) = refl

module _ (value : Directive → Value → Formatted) where
  byte_filled : (b : ℕ) (ps : List Piece) (vs : List Value) → followed (Some (true, b ∷ [])) (filled value ps vs) ≡ filled value (with_byte b ps) vs
  byte_filled b [] vs = refl
  byte_filled b (Piece.Literal text ∷ ps) vs = sym (followed_assoc (Some (true, b ∷ [])) (Some (true, text)) (filled value ps vs))
  byte_filled b (Piece.Shown d ∷ ps) vs = refl

  byte_where : (b : ℕ) (o : Option (List Piece)) (vs : List Value) → followed (Some (true, b ∷ [])) (filled_where value o vs) ≡ filled_where value (option_map (with_byte b) o) vs
  byte_where b None vs = refl
  byte_where b (Some ps) vs = byte_filled b ps vs

  none_where : (d : Directive) (o : Option (List Piece)) → None ≡ filled_where value (option_map (λ ps. Piece.Shown d ∷ ps) o) []
  none_where d None = refl
  none_where d (Some ps) = refl

  shown_where : (d : Directive) (o : Option (List Piece)) (v : Value) (vs : List Value) → followed (value d v) (filled_where value o vs) ≡ filled_where value (option_map (λ ps. Piece.Shown d ∷ ps) o) (v ∷ vs)
  shown_where d None v vs = nothing_follows (value d v)
  shown_where d (Some ps) v vs = refl

  directive_pass : (bs : List ℕ) → ((k : ℕ) (vs : List Value) → formatted_after value k bs vs ≡ filled_where value (pieces_after k bs) vs) → (o : Option Directive) (args : List Value) → at_directive value (λ n vs. formatted_after value n bs vs) o args ≡ filled_where value (with_shown o (λ n. pieces_after n bs)) args
  directive_pass bs later None args = refl
  directive_pass bs later (Some d) [] = none_where d (pieces_after d.size bs)
  directive_pass bs later (Some d) (v ∷ vs) = ap (followed (value d v)) (later d.size vs) ∙ shown_where d (pieces_after d.size bs) v vs

  byte_pass : (b : ℕ) (bs : List ℕ) (args : List Value) → ((k : ℕ) (vs : List Value) → formatted_after value k bs vs ≡ filled_where value (pieces_after k bs) vs) → (t u : Bool) →
      (if t then (if u then followed (plain (Some (37 ∷ []))) (formatted_after value 1 bs args) else at_directive value (λ n vs. formatted_after value n bs vs) (directive_at bs) args) else followed (plain (Some (b ∷ []))) (formatted_after value 0 bs args))
      ≡ filled_where value (if t then (if u then option_map (with_byte 37) (pieces_after 1 bs) else with_shown (directive_at bs) (λ n. pieces_after n bs)) else option_map (with_byte b) (pieces_after 0 bs)) args
  byte_pass b bs args later true true = ap (followed (Some (true, 37 ∷ []))) (later 1 args) ∙ byte_where 37 (pieces_after 1 bs) args
  byte_pass b bs args later true false = directive_pass bs later (directive_at bs) args
  byte_pass b bs args later false u = ap (followed (Some (true, b ∷ []))) (later 0 args) ∙ byte_where b (pieces_after 0 bs) args

  pub one_pass : (bs : List ℕ) (k : ℕ) (args : List Value) → formatted_after value k bs args ≡ filled_where value (pieces_after k bs) args
  one_pass [] k [] = refl
  one_pass [] k (v ∷ vs) = refl
  one_pass (b ∷ bs) zero args = byte_pass b bs args (λ n vs. one_pass bs n vs) (b == 37) (starts_percent bs)
  one_pass (b ∷ bs) (suc k) args = one_pass bs k args

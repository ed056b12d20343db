-- How long a value is.
use Rattle.std.proofs.Common.{◌≡◌, refl, ap, ℕ, ◌+◌, List, ◌∷◌, false, Option, Some, None, arith}
use Rattle.std.specs.Prelude.{◌&&◌, nat_lt}
use Rattle.gd_syntax.specs.Spellings.{line_end_len}
use Rattle.scene_syntax.specs.Values.{Inside, value_len, one_more, inside_after, depth_after, is_closed}

-- a value that so many more characters stand in front of
abbrev pub more : ℕ → Option ℕ → Option ℕ
more n None = None
more n (Some k) = Some (n + k)

pub more_one : (n : ℕ) (o : Option ℕ) → more (n + 1) o ≡ more n (one_more o)
more_one n None = refl
more_one n (Some k) = ap Some (omega arith)

pub on : (n : ℕ) (inside : Inside) (depth c : ℕ) (text : List ℕ) → (is_closed inside depth && nat_lt 0 (line_end_len (c ∷ text))) ≡ false
    → more (n + 1) (value_len (inside_after inside c) (depth_after inside depth c) text) ≡ more n (value_len inside depth (c ∷ text))
unfolding value_len
on n inside depth c text goes = rw goes (more_one n (value_len (inside_after inside c) (depth_after inside depth c) text))

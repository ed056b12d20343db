-- Patterns in two worlds that differ in the steps that are left.
use Rattle.std.proofs.Common.{ℕ, List, [], ◌∷◌, Option, Some, None, Result, Ok, Err, Bool, true, false}
use Rattle.gd_syntax.specs.declared.fault.Place.{Place}
use Rattle.gd_syntax.specs.declared.tree.expr.Literal.{Literal}
use Rattle.gd_syntax.specs.declared.tree.pattern.Pattern.TheOpen.{Pattern-F}
use Rattle.variant_values.specs.declared.faults.RunFault.{RunFault}
use Rattle.variant_values.specs.declared.values.Key.{Key}
use Rattle.variant_values.specs.declared.values.Value.{Value}
use Rattle.variant_values.specs.declared.values.Value.TheVariants.{Array, Dict}
use Rattle.variant_values.specs.declared.operators.UnaryOp.TheVariants as unary
use Rattle.variant_values.specs.Operators.{unary_of}
use Rattle.script_meaning.specs.Projects.{Project}
use Rattle.script_meaning.specs.Meanings.{Given-to, Means, site_of}
use Rattle.script_meaning.specs.Exprs.{literal_value, member_means, name_means}
use Rattle.script_meaning.specs.Patterns
use Rattle.script_meaning.specs.Patterns.{Matched, Matches, KeyMatches}
use Rattle.script_laws.proofs.TwiceForm.{bind, gave, failed, Each, Maybe}
use Rattle.script_laws.proofs.TwiceMembers.{Twice, twice_by}
use Rattle.script_laws.proofs.TwiceExprs.{AllTwice, twice_member, twice_name_means}

pub record MatchesTwice (k : ℕ) (p : Matches) : Type 0 where
  pub on : (v : Value) → Twice k (p v)

abbrev pub KeyTwice : ℕ → KeyMatches → Type 0
KeyTwice k p = Maybe (MatchesTwice k) p.value

module _ (k : ℕ) where
  twice_and : (o : Matched) (rest : Given-to Matched) → Twice k rest → Twice k (Patterns.and_match o rest)
  twice_and None rest u = record { at = λ h c m. gave _ }
  twice_and (Some ls) rest u = record { at = λ h c m. bind (u.at h c m) (λ x. gave _) }

  twice_test : (b : Bool) → Twice k (Patterns.test b)
  twice_test b = record { at = λ h c m. gave _ }

  twice_test_by : (o : Result Bool RunFault) → Twice k (Patterns.test_by o)
  twice_test_by (Ok b) = twice_test b
  twice_test_by (Err kind) = record { at = λ h c m. failed kind h.spot m.world }

  twice_equals : (p v : Value) → Twice k (Patterns.equals p v)
  twice_equals p v = record { at = λ h c m. (twice_test_by _).at h c m }

  twice_items : (ps : List Matches) → Each (MatchesTwice k) ps → (vs : List Value) → Twice k (Patterns.items_match ps vs)
  twice_items [] us vs = record { at = λ h c m. gave _ }
  twice_items (p ∷ ps) us [] = record { at = λ h c m. gave _ }
  twice_items (p ∷ ps) us (v ∷ vs) = record { at = λ h c m. bind ((us.0.on v).at h c m) (λ x. (twice_and x.0 _ (twice_items ps us.1 vs)).at h c x.1) }

  twice_array : (ps : List Matches) (unended : Bool) → Each (MatchesTwice k) ps → (v : Value) → Twice k (Patterns.array_matches ps unended v)
  twice_array ps unended us (Array s) = record { at = λ h c m. (twice_and _ _ (twice_items ps us _)).at h c m }
  twice_array ps unended us v = record { at = λ h c m. gave _ }

  twice_value : (p : Option Matches) → Maybe (MatchesTwice k) p → (o : Option Value) → Twice k (Patterns.value_matches p o)
  twice_value p u None = record { at = λ h c m. gave _ }
  twice_value None u (Some v) = record { at = λ h c m. gave _ }
  twice_value (Some p) u (Some v) = u.on v

  twice_entries : (ps : List KeyMatches) → Each (KeyTwice k) ps → (es : List (Key × Value)) → Twice k (Patterns.entries_match ps es)
  twice_entries [] us es = record { at = λ h c m. gave _ }
  twice_entries (p ∷ ps) us es = record { at = λ h c m. bind ((twice_value p.value us.0 _).at h c m) (λ x. (twice_and x.0 _ (twice_entries ps us.1 es)).at h c x.1) }

  twice_dict : (ps : List KeyMatches) (unended : Bool) → Each (KeyTwice k) ps → (v : Value) → Twice k (Patterns.dict_matches ps unended v)
  twice_dict ps unended us (Dict s) = record { at = λ h c m. (twice_and _ _ (twice_entries ps us _)).at h c m }
  twice_dict ps unended us v = record { at = λ h c m. gave _ }

  twice_literal : (minus : Bool) (value : Literal) (v : Value) → Twice k (Patterns.literal_matches minus value v)
  twice_literal false value v = twice_equals _ v
  twice_literal true value v = record { at = λ h c m. bind ((twice_by k (unary_of unary.Neg (literal_value value))).at (site_of h) c m) (λ x. (twice_equals x.0 v).at h c x.1) }

  twice_or : (o : Matched) (rest : Given-to Matched) → Twice k rest → Twice k (Patterns.or_match o rest)
  twice_or (Some ls) rest u = record { at = λ h c m. gave _ }
  twice_or None rest u = record { at = λ h c m. u.at h c m }

  pub twice_any : (ps : List Matches) → Each (MatchesTwice k) ps → (v : Value) → Twice k (Patterns.any_matches ps v)
  twice_any [] us v = record { at = λ h c m. gave _ }
  twice_any (p ∷ ps) us v = record { at = λ h c m. bind ((us.0.on v).at h c m) (λ x. (twice_or x.0 _ (twice_any ps us.1 v)).at h c x.1) }

  -- the parts of a pattern are the same with k steps more
  abbrev pub PartsTwice : Pattern-F Matches KeyMatches → Type 0
  PartsTwice (Pattern-F.Wildcard place) = Unit {0}
  PartsTwice (Pattern-F.Bind place name) = Unit {0}
  PartsTwice (Pattern-F.Literal place minus value) = Unit {0}
  PartsTwice (Pattern-F.Path place names) = Unit {0}
  PartsTwice (Pattern-F.Array place all unended) = Each (MatchesTwice k) all
  PartsTwice (Pattern-F.Dict place all unended) = Each (KeyTwice k) all

  module _ (P : Project) where
    twice_members : (place : Place) (a : Means) → AllTwice k a → (names : List (List ℕ)) → AllTwice k (Patterns.members_means P place a names)
    twice_members place a u [] = u
    twice_members place a u (name ∷ names) = twice_members place (member_means P place a name) (twice_member k P place a name u) names

    twice_path : (place : Place) (names : List (List ℕ)) (v : Value) → Twice k (Patterns.path_matches P place names v)
    twice_path place [] v = record { at = λ h c m. gave _ }
    twice_path place (name ∷ names) v = record { at = λ h c m. bind ((twice_members place (name_means P place name) (twice_name_means k P place name) names).value.at h c m) (λ x. (twice_equals x.0 v).at h c x.1) }

    pub twice_pattern : (p : Pattern-F Matches KeyMatches) → PartsTwice p → MatchesTwice k (Patterns.pattern_step P p)
    twice_pattern (Pattern-F.Wildcard place) us = record { on = λ v. record { at = λ h c m. gave _ } }
    twice_pattern (Pattern-F.Bind place name) us = record { on = λ v. record { at = λ h c m. gave _ } }
    twice_pattern (Pattern-F.Literal place minus value) us = record { on = λ v. record { at = λ h c m. (twice_literal minus value v).at h c m } }
    twice_pattern (Pattern-F.Path place names) us = record { on = λ v. record { at = λ h c m. (twice_path place names v).at h c m } }
    twice_pattern (Pattern-F.Array place all unended) us = record { on = λ v. record { at = λ h c m. (twice_array all unended us v).at h c m } }
    twice_pattern (Pattern-F.Dict place all unended) us = record { on = λ v. record { at = λ h c m. (twice_dict all unended us v).at h c m } }

-- Each reading of a pattern has an outcome.
use Rattle.std.proofs.Common.{◌≡◌, ℕ, zero, suc, ◌+◌, ◌≤◌, Bool, true, false, if◌then◌else◌, List, [], ◌∷◌, Option, Some, None, refl, sym, ◌∙◌, arith}
use Rattle.gd_syntax.specs.declared.fault.Place.{Place}
use Rattle.gd_syntax.specs.declared.fault.FaultKind.TheVariants.{Unsupported}
use Rattle.gd_syntax.specs.declared.fault.Form.TheVariants.{When}
use Rattle.gd_syntax.specs.declared.token.Token.{Token}
use Rattle.gd_syntax.specs.declared.token.Kind.{Kind}
use Rattle.gd_syntax.specs.declared.token.Kind.TheVariants.{Mark as Marked}
use Rattle.gd_syntax.specs.declared.token.Mark.{Mark}
use Rattle.gd_syntax.specs.declared.token.Mark.TheVariants as m
use Rattle.gd_syntax.specs.declared.tree.expr.Literal.{Literal}
use Rattle.gd_syntax.specs.declared.tree.pattern.Pattern.{Pattern}
use Rattle.gd_syntax.specs.Reading.{Outcome, Read, Stops, Reading, Then, Look}
use Rattle.gd_syntax.specs.declared.stops.Sought.TheVariants.{Other}
use Rattle.gd_syntax.specs.TokenReading.{kind_at, mark_of, mark_at, place_at, fault_at, any_name, plain_name, literal_of}
use Rattle.gd_syntax.specs.PatternGrammar.{is_when, goes_on as is_further, more, more_by, items_by, rest_by, open_list, names_by, path, key_by, value_by, entry_at, entry_pattern, other_pattern_by, pattern_by, finished, pattern_form, pattern}
use Rattle.grammar_laws.proofs.Exists.{Reads, Takes, Moves, taken, reads_then, takes, reads, sound_look, sound_stops, sound_at, sound_refuse, reads_give, reads_fits, goes_on, ends, moves_look, Starts, starts_then, starts_look, starts_stops, starts_one, Ends, ends_look, reads_loop, takes_skip, takes_due, takes_one, takes_identifier}

module _ (tokens : List Token) where
  module _ {A : Type 0} (item : Reading A) (i : Takes item) where
    moves_more_by : (sofar : List A) (b : Bool) → Moves (more_by tokens item sofar b)
    moves_more_by sofar true = goes_on _ (taken _ _ (takes_skip tokens) (λ _. reads _ (taken _ _ i (λ x. reads_give _))))
    moves_more_by sofar false = ends sofar

    moves_more : (sofar : List A) → Moves (more tokens item sofar)
    moves_more sofar = moves_look _ _ (moves_more_by sofar)

    ends_more : (sofar : List A) → Ends tokens (more tokens item sofar)
    ends_more sofar = ends_look tokens (λ at. is_further (mark_at tokens at) (mark_at tokens (at + 1))) (more_by tokens item sofar)
        (λ k at. is_further (mark_of k) (mark_at tokens (at + 1))) (λ at. refl) (λ at next b i e. cc e)

    reads_items_by : (b : Bool) → Reads (items_by tokens item b)
    reads_items_by true = reads_give _
    reads_items_by false = reads _ (taken _ _ i (λ x. reads_loop tokens _ moves_more ends_more (x ∷ [])))

    reads_rest_by : (k : Option Mark) → Reads (rest_by tokens k)
    reads_rest_by (Some m.Comma) = reads _ (taken _ _ (takes_skip tokens) (λ _. reads _ (taken _ _ (takes_due tokens Other m.DotDot) (λ _. reads_give _))))
    reads_rest_by (Some m.DotDot) = reads _ (taken _ _ (takes_skip tokens) (λ _. reads_give _))
    reads_rest_by _ = reads_give _

    pub takes_open_list : (closing : Mark) → Takes (open_list tokens item closing)
    takes_open_list closing = takes _ _ (sound_look 0 _ _ reads_items_by) (λ all. takes _ _ (sound_look 0 _ _ reads_rest_by)
        (λ unended. taken _ _ (takes_due tokens Other closing) (λ _. reads_give _)))

  module _ (room : ℕ) (inner : Reading Pattern) (i : Takes inner) where
    moves_names_by : (sofar : List (List ℕ)) (k : Option Mark) → Moves (names_by tokens room inner sofar k)
    moves_names_by sofar (Some m.Dot) = goes_on _ (taken _ _ (takes_skip tokens) (λ _. reads _ (taken _ _ (takes_one tokens any_name Other) (λ name. reads_give _))))
    moves_names_by sofar _ = ends sofar

    ends_names : (sofar : List (List ℕ)) → Ends tokens (Look (mark_at tokens) (names_by tokens room inner sofar))
    ends_names sofar = ends_look tokens (mark_at tokens) (names_by tokens room inner sofar) (λ k at. mark_of k) (λ at. refl) (λ at next b i e. cc e)

    takes_path_pattern : (place : Place) → Takes (path tokens room inner place)
    takes_path_pattern place = taken _ _ (takes_one tokens plain_name Other)
        (λ first. reads_then _ _ (reads_loop tokens _ (λ sofar. moves_look _ _ (moves_names_by sofar)) ends_names (first ∷ [])) (λ names. reads_give _))

    takes_key_by : (value : Option Literal) → Takes (key_by tokens room inner value)
    takes_key_by (Some value) = takes _ _ (reads_fits tokens room 2) (λ _. taken _ _ (takes_skip tokens) (λ _. reads_give _))
    takes_key_by None = sound_refuse tokens 1 Other

    reads_value_by : (k : Option Mark) → Reads (value_by tokens room inner k)
    reads_value_by (Some m.Colon) = reads _ (taken _ _ (takes_skip tokens) (λ _. reads _ (taken _ _ i (λ x. reads_give _))))
    reads_value_by _ = reads_give _

    takes_entry : Takes (entry_pattern tokens room inner)
    takes_entry = sound_at 1 (λ place. entry_at tokens room inner (place_at tokens place))
        (λ at. taken _ _ (sound_look 1 _ _ takes_key_by) (λ key. reads_then _ _ (sound_look 0 _ _ reads_value_by) (λ x. reads_give _)))

    pub takes_other_by : (place : Place) (k : Kind) → Takes (other_pattern_by tokens room inner place k)
    takes_other_by place (Marked m.Var) = taken _ _ (takes_skip tokens) (λ _. reads _ (taken _ _ (takes_identifier tokens) (λ name. reads_give _)))
    takes_other_by place (Marked m.Minus) = taken _ _ (takes_skip tokens) (λ _. reads _ (taken _ _ (takes_one tokens literal_of Other) (λ value. reads_give _)))
    takes_other_by place (Marked m.LBracket) = taken _ _ (takes_skip tokens) (λ _. reads _ (taken _ _ (takes_open_list inner i m.RBracket) (λ all. reads_give _)))
    takes_other_by place (Marked m.LBrace) = taken _ _ (takes_skip tokens) (λ _. reads _ (taken _ _ (takes_open_list _ takes_entry m.RBrace) (λ all. reads_give _)))
    takes_other_by place _ = takes_path_pattern place

    takes_pattern_by : (place : Place) (value : Option Literal) → Takes (pattern_by tokens room inner place value)
    takes_pattern_by place (Some value) = taken _ _ (takes_skip tokens) (λ _. reads_give _)
    takes_pattern_by place None = sound_look 1 _ _ (takes_other_by place)

    finished_onward : (tree : Pattern) (at next : ℕ) (a : Pattern) (b : Bool) (o : Outcome Pattern) → o ≡ Read a next → o ≡ (if b then Stops (fault_at tokens (Unsupported When) at) else Read tree at) → at + 0 ≤ next
    finished_onward tree at next a true o e h = absurd (let g = sym e ∙ h in cc g)
    finished_onward tree at next a false o e h = let g = sym e ∙ h in let i : next ≡ at = cc g in omega arith

    pub reads_finished : (tree : Pattern) → Reads (finished tokens room inner tree)
    reads_finished tree = record { some = λ at. (_, refl); onward = λ at next a h. finished_onward tree at next a (is_when (kind_at tokens at)) _ refl h }

    takes_form : Takes (pattern_form tokens room inner)
    takes_form = sound_at 1 (λ place. Then (Look (λ to. literal_of (kind_at tokens to)) (pattern_by tokens room inner (place_at tokens place))) (finished tokens room inner))
        (λ at. taken _ _ (sound_look 1 _ _ (takes_pattern_by (place_at tokens at))) reads_finished)

    starts_form : Starts tokens (pattern_form tokens room inner)
    starts_form at = starts_then tokens _ _ (starts_look tokens (λ to. literal_of (kind_at tokens to)) (pattern_by tokens room inner (place_at tokens at)) literal_of (λ to. refl)
        (starts_look tokens (kind_at tokens) (other_pattern_by tokens room inner (place_at tokens at)) (λ k. k) (λ to. refl) (starts_then tokens _ _ (starts_one tokens plain_name Other refl)))) at

  pub takes_pattern : (room : ℕ) → Takes (pattern tokens room)
  unfolding pattern
  takes_pattern zero = sound_stops 1 _
  takes_pattern (suc room) = takes_form (suc room) (pattern tokens room) (takes_pattern room)

  pub starts_pattern : (room : ℕ) → Starts tokens (pattern tokens room)
  unfolding pattern
  starts_pattern zero = starts_stops tokens _
  starts_pattern (suc room) = starts_form (suc room) (pattern tokens room) (takes_pattern room)

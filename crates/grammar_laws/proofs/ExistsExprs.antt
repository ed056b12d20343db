-- Each reading of an expression has an outcome.
use Rattle.std.proofs.Common.{◌≡◌, inl, inr, ℕ, zero, suc, ◌+◌, ◌-◌, ◌≤◌, ◌<◌, ◌==◌, Bool, true, false, List, [], ◌∷◌, Option, Some, None, refl, sym, ap, ◌∙◌, arith}
use Rattle.std.proofs.lemmas.Bool.Decides.{eqb_tells}
use Rattle.gd_syntax.specs.declared.fault.Place.{Place}
use Rattle.gd_syntax.specs.declared.token.Token.{Token}
use Rattle.gd_syntax.specs.declared.token.Kind.{Kind}
use Rattle.gd_syntax.specs.declared.token.Kind.TheVariants.{Mark as Marked, Name, Text}
use Rattle.gd_syntax.specs.declared.token.Mark.{Mark}
use Rattle.gd_syntax.specs.declared.token.Mark.TheVariants as m
use Rattle.gd_syntax.specs.declared.tree.expr.Literal.{Literal}
use Rattle.gd_syntax.specs.declared.tree.expr.TreeOp.{TreeOp}
use Rattle.gd_syntax.specs.declared.tree.expr.TreePrefix.{TreePrefix}
use Rattle.gd_syntax.specs.declared.tree.expr.Expr.{Expr}
use Rattle.gd_syntax.specs.Levels.{levels}
use Rattle.gd_syntax.specs.Operators.{PREFIX, NOT, OR, TERNARY, AS, level_of, prefix_of, is_not}
use Rattle.gd_syntax.specs.Reading.{Read, Reading, Then, Look, Turn, On, Loop, either}
use Rattle.gd_syntax.specs.declared.stops.Sought.TheVariants.{Operand, Node, LoadPath, Other}
use Rattle.gd_syntax.specs.Refusals.{is_load}
use Rattle.gd_syntax.specs.TokenReading.{skip, list, kind_at, mark_of, mark_at, place_at, any_name, plain_name, is_plain, literal_of}
use Rattle.gd_syntax.specs.ExprGrammar.{is_step, leaf, entry, field_name, field_name_by, field, dict_by, preload, load, step, step_by, node_by, super_by, named, other_by, operand_by, operand, part, part_by, postfix, kind_test_by, test, test_by, type_test, prefix_by, prefix, operation, operation_by, BinaryTurn, binary, negation_by, negation, level, ternary_by, ternary, cast_by, cast, form, deeper, expression}
use Rattle.grammar_laws.proofs.Exists.{Reads, Takes, Moves, taken, reads_then, takes, reads, sound_look, sound_either, sound_stops, sound_at, sound_refuse, reads_give, reads_fits, goes_on, ends, moves_look, Starts, starts_then, starts_look, starts_stops, starts_refuse, Ends, ends_look, reads_loop, takes_skip, takes_due, takes_one, takes_path, Form, takes_list}
use Rattle.grammar_laws.proofs.ExistsTypes.{takes_type_name}

module _ (tokens : List Token) where
  module _ (room : ℕ) (inner : ℕ → ℕ → Reading Expr) (i : (k n : ℕ) → Form tokens (inner k n)) where
    -- after a token, what takes one reads on
    rest : {A : Type 0} (R : Reading A) → Takes R → Takes (Then (skip tokens) (λ _. R))
    rest R t = taken _ _ (takes_skip tokens) (λ _. reads R t)

    takes_leaf : (tree : Expr) → Takes (leaf tokens room inner tree)
    takes_leaf tree = taken _ _ (takes_skip tokens) (λ _. reads_give _)

    takes_entry : Takes (entry tokens room inner)
    takes_entry = taken _ _ (i 0 AS).takes (λ key. reads _ (taken _ _ (takes_due tokens Other m.Colon) (λ _. reads _ (taken _ _ (i 0 AS).takes (λ value. reads_give _)))))

    form_entry : Form tokens (entry tokens room inner)
    form_entry = record { takes = takes_entry; starts = starts_then tokens _ _ (i 0 AS).starts }

    takes_field_name_by : (place : Place) (name : Option (List ℕ)) → Takes (field_name_by tokens room inner place name)
    takes_field_name_by place (Some name) = takes _ _ (reads_fits tokens room 2) (λ _. taken _ _ (takes_skip tokens) (λ _. reads_give _))
    takes_field_name_by place None = sound_refuse tokens 1 Other

    takes_field_name : Takes (field_name tokens room inner)
    takes_field_name = sound_at 1 (λ place. Look (λ to. plain_name (kind_at tokens to)) (field_name_by tokens room inner (place_at tokens place)))
        (λ at. sound_look 1 _ _ (takes_field_name_by (place_at tokens at)))

    starts_field_name : Starts tokens (field_name tokens room inner)
    starts_field_name at = starts_look tokens (λ to. plain_name (kind_at tokens to)) (field_name_by tokens room inner (place_at tokens at)) plain_name (λ to. refl) (starts_refuse tokens Other) at

    takes_field : Takes (field tokens room inner)
    takes_field = taken _ _ takes_field_name (λ key. reads _ (taken _ _ (takes_due tokens Other m.Assign) (λ _. reads _ (taken _ _ (i 0 AS).takes (λ value. reads_give _)))))

    form_field : Form tokens (field tokens room inner)
    form_field = record { takes = takes_field; starts = starts_then tokens _ _ starts_field_name }

    takes_dict_by : (place : Place) (b : Bool) → Takes (dict_by tokens room inner place b)
    takes_dict_by place true = taken _ _ (takes_list tokens _ form_field m.RBrace) (λ all. reads_give _)
    takes_dict_by place false = taken _ _ (takes_list tokens _ form_entry m.RBrace) (λ all. reads_give _)

    takes_args : Takes (list tokens (inner 0 AS) m.RParen)
    takes_args = takes_list tokens (inner 0 AS) (i 0 AS) m.RParen

    takes_preload : (place : Place) → Takes (preload tokens room inner place)
    takes_preload place = rest _ (taken _ _ (takes_due tokens Other m.LParen)
        (λ _. reads _ (taken _ _ (takes_path tokens Other) (λ path. reads _ (taken _ _ (takes_due tokens Other m.RParen) (λ _. reads_give _))))))

    takes_load : (place : Place) → Takes (load tokens room inner place)
    takes_load place = rest _ (taken _ _ (takes_due tokens Other m.LParen)
        (λ _. reads _ (taken _ _ (takes_path tokens LoadPath) (λ path. reads _ (taken _ _ (takes_due tokens LoadPath m.RParen) (λ _. reads_give _))))))

    moves_step_by : (sofar : List (List ℕ)) (b : Bool) → Moves (step_by tokens room inner sofar b)
    moves_step_by sofar true = goes_on _ (rest _ (taken _ _ (takes_one tokens plain_name Other) (λ name. reads_give _)))
    moves_step_by sofar false = ends sofar

    ends_step : (sofar : List (List ℕ)) → Ends tokens (step tokens room inner sofar)
    ends_step sofar = ends_look tokens (λ at. is_step (mark_at tokens at) (plain_name (kind_at tokens (at + 1)))) (step_by tokens room inner sofar)
        (λ k at. is_step (mark_of k) (plain_name (kind_at tokens (at + 1)))) (λ at. refl) (λ at next b i e. cc e)

    takes_node_by : (place : Place) (k : Kind) → Takes (node_by tokens room inner place k)
    takes_node_by place (Text text) = takes_leaf _
    takes_node_by place _ = taken _ _ (takes_one tokens plain_name Node)
        (λ first. reads_then _ _ (reads_loop tokens _ (λ sofar. moves_look _ _ (moves_step_by sofar)) ends_step (first ∷ [])) (λ names. reads_give _))

    takes_super_by : (place : Place) (k : Option Mark) → Takes (super_by tokens room inner place k)
    takes_super_by place (Some m.LParen) = rest _ (taken _ _ takes_args (λ args. reads_give _))
    takes_super_by place (Some m.Dot) = rest _ (taken _ _ (takes_one tokens any_name Other)
        (λ name. reads _ (taken _ _ (takes_due tokens Other m.LParen) (λ _. reads _ (taken _ _ takes_args (λ args. reads_give _))))))
    takes_super_by place _ = sound_refuse tokens 1 Other

    takes_named : (place : Place) (text : List ℕ) → Takes (named tokens room inner place text)
    takes_named place text = sound_either 1 (is_plain text) _ _ (takes_leaf _) (sound_either 1 (is_load text) _ _ (takes_load place) (sound_refuse tokens 1 Operand))

    takes_other_by : (place : Place) (k : Kind) → Takes (other_by tokens room inner place k)
    takes_other_by place (Name text) = takes_named place text
    takes_other_by place (Marked m.This) = takes_leaf _
    takes_other_by place (Marked m.LParen) = takes _ _ (reads_fits tokens room 2)
        (λ _. rest _ (taken _ _ (i 0 AS).takes (λ x. reads _ (taken _ _ (takes_due tokens Other m.RParen) (λ _. reads_give _)))))
    takes_other_by place (Marked m.LBracket) = rest _ (taken _ _ (takes_list tokens (inner 0 AS) (i 0 AS) m.RBracket) (λ all. reads_give _))
    takes_other_by place (Marked m.LBrace) = rest _ (sound_look 1 _ _ (takes_dict_by place))
    takes_other_by place (Marked m.Preload) = takes_preload place
    takes_other_by place (Marked m.Super) = rest _ (sound_look 1 _ _ (takes_super_by place))
    takes_other_by place (Marked m.Dollar) = rest _ (sound_look 1 _ _ (takes_node_by place))
    takes_other_by place _ = sound_refuse tokens 1 Operand

    takes_operand_by : (place : Place) (value : Option Literal) → Takes (operand_by tokens room inner place value)
    takes_operand_by place (Some value) = takes_leaf _
    takes_operand_by place None = sound_look 1 _ _ (takes_other_by place)

    takes_operand : Takes (operand tokens room inner)
    takes_operand = sound_at 1 (λ place. Look (λ to. literal_of (kind_at tokens to)) (operand_by tokens room inner (place_at tokens place))) (λ at. sound_look 1 _ _ (takes_operand_by (place_at tokens at)))

    starts_operand : Starts tokens (operand tokens room inner)
    starts_operand at = starts_look tokens (λ to. literal_of (kind_at tokens to)) (operand_by tokens room inner (place_at tokens at)) literal_of (λ to. refl)
        (starts_look tokens (kind_at tokens) (other_by tokens room inner (place_at tokens at)) (λ k. k) (λ to. refl) (starts_refuse tokens Operand)) at

    moves_part_by : (place : Place) (a : Expr) (k : Option Mark) → Moves (part_by tokens room inner place a k)
    moves_part_by place a (Some m.LBracket) = goes_on _ (takes _ _ (reads_fits tokens room (levels a + 1))
        (λ _. rest _ (taken _ _ (i 0 AS).takes (λ x. reads _ (taken _ _ (takes_due tokens Other m.RBracket) (λ _. reads_give _))))))
    moves_part_by place a (Some m.Dot) = goes_on _ (takes _ _ (reads_fits tokens room (levels a + 1)) (λ _. rest _ (taken _ _ (takes_one tokens any_name Other) (λ name. reads_give _))))
    moves_part_by place a (Some m.LParen) = goes_on _ (takes _ _ (reads_fits tokens room (levels a + 1)) (λ _. rest _ (taken _ _ takes_args (λ args. reads_give _))))
    moves_part_by place a _ = ends a

    ends_part : (place : Place) (a : Expr) → Ends tokens (part tokens room inner place a)
    ends_part place a = ends_look tokens (mark_at tokens) (part_by tokens room inner place a) (λ k at. mark_of k) (λ at. refl) (λ at next b i e. cc e)

    takes_postfix : Takes (postfix tokens room inner)
    takes_postfix = sound_at 1 (λ place. Then (operand tokens room inner) (Loop (part tokens room inner (place_at tokens place))))
        (λ at. taken _ _ takes_operand (λ a. reads_loop tokens _ (λ b. moves_look _ _ (moves_part_by (place_at tokens at) b)) (ends_part (place_at tokens at)) a))

    takes_kind_test_by : (place : Place) (a : Expr) (k : Option Mark) → Takes (kind_test_by tokens room inner place a k)
    takes_kind_test_by place a (Some m.Not) = rest _ (taken _ _ (takes_type_name tokens Other) (λ t. reads_give _))
    takes_kind_test_by place a _ = taken _ _ (takes_type_name tokens Other) (λ t. reads_give _)

    moves_test_by : (place : Place) (a : Expr) (k : Option Mark) → Moves (test_by tokens room inner place a k)
    moves_test_by place a (Some m.Is) = goes_on _ (takes _ _ (reads_fits tokens room (levels a + 1)) (λ _. rest _ (sound_look 1 _ _ (takes_kind_test_by place a))))
    moves_test_by place a _ = ends a

    ends_test : (place : Place) (a : Expr) → Ends tokens (test tokens room inner place a)
    ends_test place a = ends_look tokens (mark_at tokens) (test_by tokens room inner place a) (λ k at. mark_of k) (λ at. refl) (λ at next b i e. cc e)

    takes_type_test : Takes (type_test tokens room inner)
    takes_type_test = sound_at 1 (λ place. Then (postfix tokens room inner) (Loop (test tokens room inner (place_at tokens place))))
        (λ at. taken _ _ takes_postfix (λ a. reads_loop tokens _ (λ b. moves_look _ _ (moves_test_by (place_at tokens at) b)) (ends_test (place_at tokens at)) a))

    takes_prefix_by : (place : Place) (op : Option TreePrefix) → Takes (prefix_by tokens room inner place op)
    takes_prefix_by place (Some op) = takes _ _ (reads_fits tokens room 2) (λ _. rest _ (taken _ _ (i 0 PREFIX).takes (λ x. reads_give _)))
    takes_prefix_by place None = takes_type_test

    form_prefix : Form tokens (prefix tokens room inner)
    form_prefix = record {
      takes = sound_at 1 (λ place. Look (λ to. prefix_of (mark_at tokens to)) (prefix_by tokens room inner (place_at tokens place))) (λ at. sound_look 1 _ _ (takes_prefix_by (place_at tokens at)));
      starts = λ at. starts_look tokens (λ to. prefix_of (mark_at tokens to)) (prefix_by tokens room inner (place_at tokens at)) (λ k. prefix_of (mark_of k)) (λ to. refl)
          (λ from. starts_then tokens _ _ (λ here. starts_then tokens _ _ starts_operand here) from) at;
    }

    takes_operation_by : (n : ℕ) (place : Place) (a : Expr) (op : Option TreeOp) → Takes (operation_by tokens room inner n place a op)
    takes_operation_by n place a (Some op) = takes _ _ (reads_fits tokens room (levels a + 1)) (λ _. rest _ (taken _ _ (i 0 (n - 1)).takes (λ b. reads_give _)))
    takes_operation_by n place a None = takes _ _ (reads_fits tokens room (levels a + 2))
        (λ _. rest _ (taken _ _ (takes_due tokens Other m.In) (λ _. reads _ (taken _ _ (i 1 (n - 1)).takes (λ b. reads_give _)))))

    takes_operation : (n : ℕ) (place : Place) (a : Expr) → Takes (operation tokens room inner n place a)
    takes_operation n place a = sound_look 1 _ _ (takes_operation_by n place a)

    binary_onward : (n : ℕ) (place : Place) (a : Expr) (at next : ℕ) (b : Turn Expr) → BinaryTurn tokens room inner n place a at (Read b next) → at + 0 ≤ next
    binary_onward n place a at next b (BinaryTurn.operated x y) = (reads _ (takes_operation n place a)).onward at next b y
    binary_onward n place a at next b (BinaryTurn.ends x) = omega arith

    binary_moves : (n : ℕ) (place : Place) (a : Expr) (at next : ℕ) (b : Expr) → BinaryTurn tokens room inner n place a at (Read (On b) next) → at < next
    binary_moves n place a at next b (BinaryTurn.operated x y) = (goes_on _ (takes_operation n place a)).moves at next b y

    moves_binary : (n : ℕ) (place : Place) (a : Expr) → Moves (BinaryTurn tokens room inner n place a)
    moves_binary n place a = record {
      reads = record {
        some = λ at. elim (eqb_tells (level_of (mark_at tokens at)) n) [
          | inl t ↦ (let p = (takes_operation n place a).some at in (p.0, BinaryTurn.operated t.1 p.1))
          | inr t ↦ (_, BinaryTurn.ends t.1)
        ];
        onward = binary_onward n place a;
      };
      moves = binary_moves n place a;
    }

    ends_binary : (n : ℕ) → 0 < n → (place : Place) (a : Expr) → Ends tokens (BinaryTurn tokens room inner n place a)
    ends_binary n pos place a at next b e (BinaryTurn.operated x y) = let g : 0 ≡ n = sym (ap (λ k. level_of (mark_of k)) e) ∙ x in omega arith

    form_binary : (n : ℕ) → 0 < n → (tighter : Reading Expr) → Form tokens tighter → Form tokens (binary tokens room inner n tighter)
    form_binary n pos tighter t = record {
      takes = sound_at 1 (λ place. Then tighter (Loop (BinaryTurn tokens room inner n (place_at tokens place))))
          (λ at. taken _ _ t.takes (λ a. reads_loop tokens _ (moves_binary n (place_at tokens at)) (ends_binary n pos (place_at tokens at)) a));
      starts = λ at. starts_then tokens _ _ t.starts at;
    }

    takes_negation_by : (place : Place) (tighter : Reading Expr) → Takes tighter → (b : Bool) → Takes (negation_by tokens room inner place tighter b)
    takes_negation_by place tighter t true = takes _ _ (reads_fits tokens room 2) (λ _. rest _ (taken _ _ (i 0 NOT).takes (λ x. reads_give _)))
    takes_negation_by place tighter t false = t

    form_negation : (tighter : Reading Expr) → Form tokens tighter → Form tokens (negation tokens room inner tighter)
    form_negation tighter t = record {
      takes = sound_at 1 (λ place. Look (λ to. is_not (mark_at tokens to)) (negation_by tokens room inner (place_at tokens place) tighter)) (λ at. sound_look 1 _ _ (takes_negation_by (place_at tokens at) tighter t.takes));
      starts = λ at. starts_look tokens (λ to. is_not (mark_at tokens to)) (negation_by tokens room inner (place_at tokens at) tighter) (λ k. is_not (mark_of k)) (λ to. refl) t.starts at;
    }

    form_either : (b : Bool) (x y : Reading Expr) → Form tokens x → Form tokens y → Form tokens (either b x y)
    form_either true x y f g = f
    form_either false x y f g = g

    form_level : (n : ℕ) → Form tokens (level tokens room inner n)
    unfolding level
    form_level zero = form_prefix
    form_level (suc n) = form_either (n == 8) _ _ (form_negation _ (form_level n)) (form_binary (suc n) (omega arith) _ (form_level n))

    reads_ternary_by : (place : Place) (a : Expr) (k : Option Mark) → Reads (ternary_by tokens room inner place a k)
    reads_ternary_by place a (Some m.If) = reads_then _ _ (reads_fits tokens room (levels a + 1)) (λ _. reads _ (rest _ (taken _ _ (i 0 OR).takes
        (λ c. reads _ (taken _ _ (takes_due tokens Other m.Else) (λ _. reads _ (taken _ _ (i 0 TERNARY).takes (λ b. reads_give _))))))))
    reads_ternary_by place a _ = reads_give _

    form_ternary : Form tokens (ternary tokens room inner)
    form_ternary = record {
      takes = sound_at 1 (λ place. Then (level tokens room inner OR) (λ a. Look (mark_at tokens) (ternary_by tokens room inner (place_at tokens place) a)))
          (λ at. taken _ _ (form_level OR).takes (λ a. sound_look 0 _ _ (reads_ternary_by (place_at tokens at) a)));
      starts = λ at. starts_then tokens _ _ (form_level OR).starts at;
    }

    moves_cast_by : (place : Place) (a : Expr) (k : Option Mark) → Moves (cast_by tokens room inner place a k)
    moves_cast_by place a (Some m.As) = goes_on _ (takes _ _ (reads_fits tokens room (levels a + 1)) (λ _. rest _ (taken _ _ (takes_type_name tokens Other) (λ t. reads_give _))))
    moves_cast_by place a _ = ends a

    ends_cast : (place : Place) (a : Expr) → Ends tokens (Look (mark_at tokens) (cast_by tokens room inner place a))
    ends_cast place a = ends_look tokens (mark_at tokens) (cast_by tokens room inner place a) (λ k at. mark_of k) (λ at. refl) (λ at next b i e. cc e)

    form_cast : Form tokens (cast tokens room inner)
    form_cast = record {
      takes = sound_at 1 (λ place. Then (ternary tokens room inner) (Loop (λ b. Look (mark_at tokens) (cast_by tokens room inner (place_at tokens place) b))))
          (λ at. taken _ _ form_ternary.takes (λ a. reads_loop tokens _ (λ b. moves_look _ _ (moves_cast_by (place_at tokens at) b)) (ends_cast (place_at tokens at)) a));
      starts = λ at. starts_then tokens _ _ form_ternary.starts at;
    }

    form_form : (n : ℕ) → Form tokens (form tokens room inner n)
    unfolding form
    form_form n = form_either (n == AS) _ _ form_cast (form_either (n == TERNARY) _ _ form_ternary (form_level n))

  form_deeper : (room k n : ℕ) → Form tokens (deeper tokens room k n)
  unfolding deeper
  form_deeper zero k n = record { takes = sound_stops 1 _; starts = starts_stops tokens _ }
  form_deeper (suc room) zero n = form_form (suc room) (deeper tokens room) (form_deeper room) n
  form_deeper (suc room) (suc k) n = form_deeper room k n

  pub form_expression : (room n : ℕ) → Form tokens (expression tokens room n)
  form_expression room n = form_deeper room 0 n

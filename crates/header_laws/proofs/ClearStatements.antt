-- No `class_name` is passed by patterns and statements.
use Rattle.std.proofs.Common.{◌≡◌, ℕ, zero, suc, ◌+◌, Bool, true, false, cond, List, [], ◌∷◌, Option, Some, None, refl}
use Rattle.gd_syntax.specs.declared.fault.Place.{Place}
use Rattle.gd_syntax.specs.declared.fault.LoadFault.{LoadFault}
use Rattle.gd_syntax.specs.declared.token.Token.{Token}
use Rattle.gd_syntax.specs.declared.token.Kind.{Kind}
use Rattle.gd_syntax.specs.declared.token.Kind.TheVariants.{Mark as Marked}
use Rattle.gd_syntax.specs.declared.token.Mark.{Mark}
use Rattle.gd_syntax.specs.declared.token.Mark.TheVariants as m
use Rattle.gd_syntax.specs.declared.tree.expr.Expr.{Expr}
use Rattle.gd_syntax.specs.declared.tree.expr.Literal.{Literal}
use Rattle.gd_syntax.specs.declared.tree.member.Annotation.{Annotation}
use Rattle.gd_syntax.specs.declared.tree.pattern.Pattern.{Pattern}
use Rattle.gd_syntax.specs.declared.tree.statement.AssignOp.{AssignOp}
use Rattle.gd_syntax.specs.declared.tree.statement.Branch.{Branch}
use Rattle.gd_syntax.specs.declared.tree.statement.MatchBranch.{MatchBranch}
use Rattle.gd_syntax.specs.declared.tree.statement.Simple.{Simple}
use Rattle.gd_syntax.specs.declared.tree.statement.Stmt.{Stmt}
use Rattle.gd_syntax.specs.Reading.{Read, Stops, Reading, Then, ◌>>=◌, ◌>>◌, Look, give}
use Rattle.gd_syntax.specs.declared.stops.Sought.TheVariants.{Other}
use Rattle.gd_syntax.specs.TokenReading.{max_levels, any_name, plain_name, literal_of, kind_at, mark_of, mark_at, place_at, skip, Due}
use Rattle.gd_syntax.specs.PatternGrammar.{is_when, goes_on, more, more_by, items_by, rest_by, open_list, names_by, path, key_by, value_by, entry_at, entry_pattern, other_pattern_by, pattern_by, finished, pattern_form, pattern}
use Rattle.gd_syntax.specs.DeclarationGrammar.{expr, is_ignore_word}
use Rattle.gd_syntax.specs.StatementGrammar.{binds, aop_after, unbound_other_by, unbound_by, unbound_form, unbound, pats_by, pats, word, return_by, message_by, assertion, assign_by, assignment, local_var, annotated_by, simple_by, simple, parted_by, line_by, line_form, line, line_block, branch, elif_by, else_by, if_stmt, for_stmt, while_stmt, match_branch, match_by, match_stmt, stmt_by, stmt, body_by, block_by, block}
use Rattle.token_laws.specs.HeaderNames.{is_word_kind}
use Rattle.header_laws.proofs.Clear.{Clear, Begun, b_clear, c_then, b_then, b_skip, b_stay, c_stay, s_fits, c_give, c_stops, c_refuse, b_either, c_at, b_at, c_look, c_mark, c_kind, c_any, c_loop, c_due, c_one}
use Rattle.header_laws.proofs.ClearExprs.{clear_identifier, clear_expr, clear_new_name, clear_type, clear_annots, begun_var, begun_const}

module _ (tokens : List Token) where
  -- ---- patterns

  module _ {A : Type 0} (item : Reading A) (i : Clear tokens item) where
    begun_more_by : (sofar : List A) (b : Bool) → Begun tokens (more_by tokens item sofar b)
    begun_more_by sofar true = b_skip tokens _ (c_then tokens _ _ i (λ x. c_give tokens _))
    begun_more_by sofar false = b_clear tokens (c_give tokens _)

    clear_more : (sofar : List A) → Clear tokens (more tokens item sofar)
    clear_more sofar = c_look tokens _ _ (λ k at. goes_on (mark_of k) (mark_at tokens (at + 1))) (λ at. refl) (λ at. c_give tokens _) (begun_more_by sofar)

    clear_items_by : (b : Bool) → Clear tokens (items_by tokens item b)
    clear_items_by true = c_give tokens _
    clear_items_by false = c_then tokens _ _ i (λ x. c_loop tokens _ clear_more (x ∷ []))

    begun_rest_by : (k : Option Mark) → Begun tokens (rest_by tokens k)
    begun_rest_by (Some m.Comma) = b_skip tokens _ (c_then tokens _ _ (c_due tokens Other m.DotDot refl) (λ _. c_give tokens _))
    begun_rest_by (Some m.DotDot) = b_skip tokens _ (c_give tokens _)
    begun_rest_by _ = b_clear tokens (c_give tokens _)

    clear_open_list : (closing : Mark) → is_word_kind (Marked closing) ≡ false → Clear tokens (open_list tokens item closing)
    clear_open_list closing other = c_then tokens _ _ (c_any tokens _ _ clear_items_by) (λ all. c_then tokens _ _ (c_mark tokens _ (c_give tokens _) begun_rest_by) (λ unended. c_then tokens _ _ (c_due tokens Other closing other) (λ _. c_give tokens _)))

  module _ (room : ℕ) (inner : Reading Pattern) (i : Clear tokens inner) where
    begun_names_by : (sofar : List (List ℕ)) (k : Option Mark) → Begun tokens (names_by tokens room inner sofar k)
    begun_names_by sofar (Some m.Dot) = b_skip tokens _ (c_then tokens _ _ (c_one tokens any_name Other refl) (λ name. c_give tokens _))
    begun_names_by sofar _ = b_clear tokens (c_give tokens _)

    clear_path_pattern : (place : Place) → Clear tokens (path tokens room inner place)
    clear_path_pattern place = c_then tokens _ _ (c_one tokens plain_name Other refl) (λ first. c_then tokens _ _ (c_loop tokens _ (λ sofar. c_mark tokens _ (c_give tokens _) (begun_names_by sofar)) (first ∷ [])) (λ names. c_give tokens _))

    begun_key_by : (value : Option Literal) → Begun tokens (key_by tokens room inner value)
    begun_key_by (Some value) = b_stay tokens _ _ (s_fits tokens room 2) (λ _. b_skip tokens _ (c_give tokens _))
    begun_key_by None = b_clear tokens (c_refuse tokens Other)

    begun_value_by : (k : Option Mark) → Begun tokens (value_by tokens room inner k)
    begun_value_by (Some m.Colon) = b_skip tokens _ (c_then tokens _ _ i (λ x. c_give tokens _))
    begun_value_by _ = b_clear tokens (c_give tokens _)

    clear_entry : Clear tokens (entry_pattern tokens room inner)
    clear_entry = c_at tokens (λ place. entry_at tokens room inner (place_at tokens place))
        (λ at. c_then tokens _ _ (c_look tokens _ _ (λ k to. literal_of k) (λ to. refl) (λ to. c_refuse tokens Other) begun_key_by) (λ key. c_then tokens _ _ (c_mark tokens _ (c_give tokens _) begun_value_by) (λ x. c_give tokens _)))

    begun_other_by : (place : Place) (k : Kind) → Begun tokens (other_pattern_by tokens room inner place k)
    begun_other_by place (Marked m.Var) = b_skip tokens _ (c_then tokens _ _ (clear_identifier tokens) (λ name. c_give tokens _))
    begun_other_by place (Marked m.Minus) = b_skip tokens _ (c_then tokens _ _ (c_one tokens literal_of Other refl) (λ value. c_give tokens _))
    begun_other_by place (Marked m.LBracket) = b_skip tokens _ (c_then tokens _ _ (clear_open_list inner i m.RBracket refl) (λ all. c_give tokens _))
    begun_other_by place (Marked m.LBrace) = b_skip tokens _ (c_then tokens _ _ (clear_open_list _ clear_entry m.RBrace refl) (λ all. c_give tokens _))
    begun_other_by place _ = b_clear tokens (clear_path_pattern place)

    clear_other : (place : Place) → Clear tokens (Look (kind_at tokens) (other_pattern_by tokens room inner place))
    clear_other place = c_kind tokens _ (clear_path_pattern place) (begun_other_by place)

    begun_pattern_by : (place : Place) (value : Option Literal) → Begun tokens (pattern_by tokens room inner place value)
    begun_pattern_by place (Some value) = b_skip tokens _ (c_give tokens _)
    begun_pattern_by place None = b_clear tokens (clear_other place)

    finished_case : (tree : Pattern) (b : Bool) (f : LoadFault) (at next : ℕ) (a : Pattern) → Read a next ≡ cond b (Stops f) (Read tree at) → next ≡ at
    finished_case tree true f at next a h = absurd (cc h)
    finished_case tree false f at next a h = cc h

    clear_finished : (tree : Pattern) → Clear tokens (finished tokens room inner tree)
    clear_finished tree = c_stay tokens (record { stays = λ at next a h. finished_case tree (is_when (kind_at tokens at)) _ at next a h })

    clear_pattern_form : Clear tokens (pattern_form tokens room inner)
    clear_pattern_form = c_at tokens (λ place. Then (Look (λ to. literal_of (kind_at tokens to)) (pattern_by tokens room inner (place_at tokens place))) (finished tokens room inner))
        (λ at. c_then tokens _ _ (c_look tokens _ _ (λ k to. literal_of k) (λ to. refl) (λ to. clear_other (place_at tokens at)) (begun_pattern_by (place_at tokens at))) clear_finished)

    -- ---- patterns without `var`

    begun_unbound_other_by : (place : Place) (k : Kind) → Begun tokens (unbound_other_by tokens room inner place k)
    begun_unbound_other_by place (Marked m.Var) = b_clear tokens (c_refuse tokens Other)
    begun_unbound_other_by place k = begun_other_by place k

    clear_unbound_other : (place : Place) → Clear tokens (Look (kind_at tokens) (unbound_other_by tokens room inner place))
    clear_unbound_other place = c_kind tokens _ (clear_path_pattern place) (begun_unbound_other_by place)

    begun_unbound_by : (place : Place) (value : Option Literal) → Begun tokens (unbound_by tokens room inner place value)
    begun_unbound_by place (Some value) = b_skip tokens _ (c_give tokens _)
    begun_unbound_by place None = b_clear tokens (clear_unbound_other place)

    clear_unbound_form : Clear tokens (unbound_form tokens room inner)
    clear_unbound_form = c_at tokens (λ place. Then (Look (λ to. literal_of (kind_at tokens to)) (unbound_by tokens room inner (place_at tokens place))) (finished tokens room inner))
        (λ at. c_then tokens _ _ (c_look tokens _ _ (λ k to. literal_of k) (λ to. refl) (λ to. clear_unbound_other (place_at tokens at)) (begun_unbound_by (place_at tokens at))) clear_finished)

  clear_pattern : (room : ℕ) → Clear tokens (pattern tokens room)
  unfolding pattern
  clear_pattern zero = c_stops tokens _
  clear_pattern (suc room) = clear_pattern_form (suc room) (pattern tokens room) (clear_pattern room)

  clear_unbound : (room : ℕ) → Clear tokens (unbound tokens room)
  unfolding unbound
  clear_unbound zero = c_stops tokens _
  clear_unbound (suc room) = clear_unbound_form (suc room) (unbound tokens room) (clear_unbound room)

  begun_pats_by : (bound : Bool) (sofar : List Pattern) (k : Option Mark) → Begun tokens (pats_by tokens bound sofar k)
  begun_pats_by bound sofar (Some m.Comma) = b_either tokens bound _ _ (b_clear tokens (c_refuse tokens Other)) (b_skip tokens _ (c_then tokens _ _ (clear_unbound max_levels) (λ x. c_give tokens _)))
  begun_pats_by bound sofar _ = b_clear tokens (c_give tokens _)

  clear_pats : Clear tokens (pats tokens)
  clear_pats = c_then tokens _ _ (clear_pattern max_levels) (λ first. c_loop tokens _ (λ sofar. c_mark tokens _ (c_give tokens _) (begun_pats_by (binds first) sofar)) (first ∷ []))

  -- ---- simple statements

  begun_word : (tree : Simple) → Begun tokens (word tokens tree)
  begun_word tree = b_skip tokens _ (c_give tokens _)

  clear_return_by : (place : Place) (k : Option Mark) → Clear tokens (return_by tokens place k)
  clear_return_by place (Some m.Newline) = c_give tokens _
  clear_return_by place (Some m.Semicolon) = c_give tokens _
  clear_return_by place _ = c_then tokens _ _ (clear_expr tokens) (λ x. c_give tokens _)

  begun_message_by : (k : Option Mark) → Begun tokens (message_by tokens k)
  begun_message_by (Some m.Comma) = b_skip tokens _ (c_then tokens _ _ (clear_expr tokens) (λ x. c_give tokens _))
  begun_message_by _ = b_clear tokens (c_give tokens _)

  begun_assertion : (place : Place) → Begun tokens (assertion tokens place)
  begun_assertion place = b_skip tokens _ (c_then tokens _ _ (c_due tokens Other m.LParen refl) (λ _. c_then tokens _ _ (clear_expr tokens)
      (λ x. c_then tokens _ _ (c_mark tokens _ (c_give tokens _) begun_message_by) (λ message. c_then tokens _ _ (c_due tokens Other m.RParen refl) (λ _. c_give tokens _)))))

  begun_assign_by : (place : Place) (x : Expr) (op : Option AssignOp) → Begun tokens (assign_by tokens place x op)
  begun_assign_by place x (Some op) = b_skip tokens _ (c_then tokens _ _ (clear_expr tokens) (λ value. c_give tokens _))
  begun_assign_by place x None = b_clear tokens (c_give tokens _)

  clear_assign : (place : Place) (x : Expr) (b : Bool) → Clear tokens (assign_by tokens place x (cond b None None))
  clear_assign place x true = c_give tokens _
  clear_assign place x false = c_give tokens _

  clear_assignment : (place : Place) → Clear tokens (assignment tokens place)
  clear_assignment place = c_then tokens _ _ (clear_expr tokens) (λ x. c_look tokens _ _ (λ k to. aop_after x (mark_of k)) (λ to. refl) (λ to. clear_assign place x _) (begun_assign_by place x))

  begun_local_var : (place : Place) (before : List Annotation) → Begun tokens (local_var tokens place before)
  begun_local_var place before = b_then tokens _ _ (begun_var tokens place before) (λ v. c_give tokens _)

  begun_annotated_by : (place : Place) (before : List Annotation) (k : Option Mark) → Begun tokens (annotated_by tokens place before k)
  begun_annotated_by place before (Some m.Var) = begun_local_var place before
  begun_annotated_by place before _ = b_clear tokens (c_refuse tokens Other)

  begun_simple_by : (place : Place) (k : Option Mark) → Begun tokens (simple_by tokens place k)
  begun_simple_by place (Some m.Pass) = begun_word _
  begun_simple_by place (Some m.Break) = begun_word _
  begun_simple_by place (Some m.Continue) = begun_word _
  begun_simple_by place (Some m.Return) = b_skip tokens _ (c_any tokens _ _ (clear_return_by place))
  begun_simple_by place (Some m.Var) = begun_local_var place []
  begun_simple_by place (Some m.At) = b_clear tokens (c_then tokens _ _ (clear_annots tokens is_ignore_word) (λ before. c_mark tokens _ (c_refuse tokens Other) (begun_annotated_by place before)))
  begun_simple_by place (Some m.Const) = b_then tokens _ _ (begun_const tokens place) (λ c. c_give tokens _)
  begun_simple_by place (Some m.Assert) = begun_assertion place
  begun_simple_by place _ = b_clear tokens (clear_assignment place)

  clear_simple : Clear tokens (simple tokens)
  clear_simple = c_at tokens (λ place. Look (mark_at tokens) (simple_by tokens (place_at tokens place))) (λ at. c_mark tokens _ (clear_assignment (place_at tokens at)) (begun_simple_by (place_at tokens at)))

  clear_parted_by : (sofar : List Simple) (k : Option Mark) → Clear tokens (parted_by tokens sofar k)
  clear_parted_by sofar (Some m.Newline) = c_give tokens _
  clear_parted_by sofar _ = c_then tokens _ _ clear_simple (λ x. c_give tokens _)

  begun_line_by : (sofar : List Simple) (k : Option Mark) → Begun tokens (line_by tokens sofar k)
  begun_line_by sofar (Some m.Semicolon) = b_skip tokens _ (c_any tokens _ _ (clear_parted_by sofar))
  begun_line_by sofar _ = b_clear tokens (c_give tokens _)

  clear_line_form : (place : Place) → Clear tokens (line_form tokens place)
  clear_line_form place = c_then tokens _ _ clear_simple (λ first. c_then tokens _ _ (c_loop tokens _ (λ sofar. c_mark tokens _ (c_give tokens _) (begun_line_by sofar)) (first ∷ []))
      (λ all. c_then tokens _ _ (c_due tokens Other m.Newline refl) (λ _. c_give tokens _)))

  clear_line : Clear tokens (line tokens)
  clear_line = c_at tokens (λ at. line_form tokens (place_at tokens at)) (λ at. clear_line_form (place_at tokens at))

  clear_line_block : Clear tokens (line_block tokens)
  clear_line_block = c_then tokens _ _ clear_line (λ x. c_give tokens _)

  -- ---- statements

  module _ (inner : Reading (List Stmt)) (i : Clear tokens inner) where
    abbrev branch_form : Place → Reading Branch
    branch_form place = do
      skip tokens
      x ← expr tokens
      Due tokens Other m.Colon
      all ← inner
      give (record { place = place; condition = x; body = all })

    begun_branch_at : (place : Place) → Begun tokens (branch_form place)
    begun_branch_at place = b_skip tokens _ (c_then tokens _ _ (clear_expr tokens) (λ x. c_then tokens _ _ (c_due tokens Other m.Colon refl) (λ _. c_then tokens _ _ i (λ body. c_give tokens _))))

    begun_branch : Begun tokens (branch tokens inner)
    begun_branch = b_at tokens (λ at. branch_form (place_at tokens at)) (λ at. begun_branch_at (place_at tokens at))

    begun_elif_by : (sofar : List Branch) (k : Option Mark) → Begun tokens (elif_by tokens inner sofar k)
    begun_elif_by sofar (Some m.Elif) = b_then tokens _ _ begun_branch (λ b. c_give tokens _)
    begun_elif_by sofar _ = b_clear tokens (c_give tokens _)

    begun_else_by : (k : Option Mark) → Begun tokens (else_by tokens inner k)
    begun_else_by (Some m.Else) = b_skip tokens _ (c_then tokens _ _ (c_due tokens Other m.Colon refl) (λ _. c_then tokens _ _ i (λ body. c_give tokens _)))
    begun_else_by _ = b_clear tokens (c_give tokens _)

    begun_if : (place : Place) → Begun tokens (if_stmt tokens inner place)
    begun_if place = b_then tokens _ _ begun_branch (λ first. c_then tokens _ _ (c_loop tokens _ (λ sofar. c_mark tokens _ (c_give tokens _) (begun_elif_by sofar)) (first ∷ []))
        (λ all. c_then tokens _ _ (c_mark tokens _ (c_give tokens _) begun_else_by) (λ other. c_give tokens _)))

    begun_for : (place : Place) → Begun tokens (for_stmt tokens inner place)
    begun_for place = b_skip tokens _ (c_then tokens _ _ (clear_new_name tokens) (λ name. c_then tokens _ _ (clear_type tokens Other) (λ t. c_then tokens _ _ (c_due tokens Other m.In refl)
        (λ _. c_then tokens _ _ (clear_expr tokens) (λ x. c_then tokens _ _ (c_due tokens Other m.Colon refl) (λ _. c_then tokens _ _ i (λ body. c_give tokens _)))))))

    begun_while : (place : Place) → Begun tokens (while_stmt tokens inner place)
    begun_while place = b_then tokens _ _ begun_branch (λ b. c_give tokens _)

    clear_match_branch : Clear tokens (match_branch tokens inner)
    clear_match_branch = c_then tokens _ _ clear_pats (λ all. c_then tokens _ _ (c_due tokens Other m.Colon refl) (λ _. c_then tokens _ _ i (λ block. c_give tokens _)))

    clear_match_by : (sofar : List MatchBranch) (k : Option Mark) → Clear tokens (match_by tokens inner sofar k)
    clear_match_by sofar (Some m.Dedent) = c_give tokens _
    clear_match_by sofar _ = c_then tokens _ _ clear_match_branch (λ b. c_give tokens _)

    begun_match : (place : Place) → Begun tokens (match_stmt tokens inner place)
    begun_match place = b_skip tokens _ (c_then tokens _ _ (clear_expr tokens) (λ x. c_then tokens _ _ (c_due tokens Other m.Colon refl) (λ _. c_then tokens _ _ (c_due tokens Other m.Newline refl)
        (λ _. c_then tokens _ _ (c_due tokens Other m.Indent refl) (λ _. c_then tokens _ _ (c_loop tokens _ (λ sofar. c_any tokens _ _ (clear_match_by sofar)) []) (λ all. c_then tokens _ _ (c_due tokens Other m.Dedent refl) (λ _. c_give tokens _)))))))

    begun_stmt_by : (place : Place) (k : Option Mark) → Begun tokens (stmt_by tokens inner place k)
    begun_stmt_by place (Some m.If) = begun_if place
    begun_stmt_by place (Some m.For) = begun_for place
    begun_stmt_by place (Some m.While) = begun_while place
    begun_stmt_by place (Some m.Match) = begun_match place
    begun_stmt_by place _ = b_clear tokens clear_line

    clear_stmt : Clear tokens (stmt tokens inner)
    clear_stmt = c_at tokens (λ place. Look (mark_at tokens) (stmt_by tokens inner (place_at tokens place))) (λ at. c_mark tokens _ clear_line (begun_stmt_by (place_at tokens at)))

    clear_body_by : (sofar : List Stmt) (k : Option Mark) → Clear tokens (body_by tokens inner sofar k)
    clear_body_by sofar (Some m.Dedent) = c_give tokens _
    clear_body_by sofar _ = c_then tokens _ _ clear_stmt (λ x. c_give tokens _)

    begun_block_by : (k : Option Mark) → Begun tokens (block_by tokens inner k)
    begun_block_by (Some m.Newline) = b_skip tokens _ (c_then tokens _ _ (c_due tokens Other m.Indent refl) (λ _. c_then tokens _ _ (c_loop tokens _ (λ sofar. c_any tokens _ _ (clear_body_by sofar)) [])
        (λ all. c_then tokens _ _ (c_due tokens Other m.Dedent refl) (λ _. c_give tokens _))))
    begun_block_by _ = b_clear tokens clear_line_block

  pub clear_block : (room : ℕ) → Clear tokens (block tokens room)
  unfolding block
  clear_block zero = c_stops tokens _
  clear_block (suc room) = c_mark tokens _ (clear_line_block) (begun_block_by (block tokens room) (clear_block room))

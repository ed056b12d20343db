-- No reading of a statement or a block has two outcomes.
use Rattle.std.proofs.Common.{ℕ, zero, suc, Bool, List, [], ◌∷◌, Option, Some, None}
use Rattle.gd_syntax.specs.declared.fault.Place.{Place}
use Rattle.gd_syntax.specs.declared.token.Token.{Token}
use Rattle.gd_syntax.specs.declared.token.Kind.{Kind}
use Rattle.gd_syntax.specs.declared.token.Kind.TheVariants.{Mark as Marked}
use Rattle.gd_syntax.specs.declared.token.Mark.{Mark}
use Rattle.gd_syntax.specs.declared.token.Mark.TheVariants as m
use Rattle.gd_syntax.specs.declared.tree.expr.Expr.{Expr}
use Rattle.gd_syntax.specs.declared.tree.expr.Literal.{Literal}
use Rattle.gd_syntax.specs.declared.tree.member.Annotation.{Annotation}
use Rattle.gd_syntax.specs.declared.tree.pattern.Pattern.{Pattern}
use Rattle.gd_syntax.specs.declared.tree.statement.AssignOp.{AssignOp}
use Rattle.gd_syntax.specs.declared.tree.statement.Branch.{Branch}
use Rattle.gd_syntax.specs.declared.tree.statement.MatchBranch.{MatchBranch}
use Rattle.gd_syntax.specs.declared.tree.statement.Simple.{Simple}
use Rattle.gd_syntax.specs.declared.tree.statement.Stmt.{Stmt}
use Rattle.gd_syntax.specs.Reading.{Reading}
use Rattle.gd_syntax.specs.declared.stops.Sought.TheVariants.{Other}
use Rattle.gd_syntax.specs.TokenReading.{max_levels, place_at}
use Rattle.gd_syntax.specs.DeclarationGrammar.{is_ignore_word}
use Rattle.gd_syntax.specs.StatementGrammar.{binds, unbound_other_by, unbound_by, unbound_form, unbound, pats_by, pats, word, return_by, message_by, assertion, assign_by, assignment, local_var, annotated_by, simple_by, simple, parted_by, line_by, line_form, line, line_block, branch, elif_by, else_by, if_stmt, for_stmt, while_stmt, match_branch, match_by, match_stmt, stmt_by, stmt, body_by, block_by, block}
use Rattle.gd_syntax.proofs.Only.{Only, only_is, only_then, only_look, only_loop, only_either, only_skip, only_due}
use Rattle.gd_syntax.proofs.OnlyPatterns.{only_other_by, only_pattern}
use Rattle.gd_syntax.proofs.OnlyDeclarations.{only_expr, only_new_name, only_type_by, only_annots, only_var, only_const}

module _ (tokens : List Token) where
  module _ (room : ℕ) (inner : Reading Pattern) (i : Only inner) where
    only_unbound_other_by : (place : Place) (k : Kind) → Only (unbound_other_by tokens room inner place k)
    only_unbound_other_by place (Marked m.Var) = only_is _
    only_unbound_other_by place k = only_other_by tokens room inner i place k

    only_unbound_by : (place : Place) (value : Option Literal) → Only (unbound_by tokens room inner place value)
    only_unbound_by place (Some value) = only_then _ _ (only_skip tokens) (λ _. only_is _)
    only_unbound_by place None = only_look _ _ (only_unbound_other_by place)

    only_unbound_form : Only (unbound_form tokens room inner)
    only_unbound_form at = only_then _ _ (only_look _ _ (only_unbound_by (place_at tokens at))) (λ tree. only_is _) at

  only_unbound : (room : ℕ) → Only (unbound tokens room)
  unfolding unbound
  only_unbound zero = only_is _
  only_unbound (suc room) = only_unbound_form (suc room) (unbound tokens room) (only_unbound room)

  only_pats_by : (bound : Bool) (sofar : List Pattern) (k : Option Mark) → Only (pats_by tokens bound sofar k)
  only_pats_by bound sofar (Some m.Comma) = only_either bound _ _ (only_is _) (only_then _ _ (only_skip tokens) (λ _. only_then _ _ (only_unbound max_levels) (λ x. only_is _)))
  only_pats_by bound sofar _ = only_is _

  pub only_pats : Only (pats tokens)
  only_pats = only_then _ _ (only_pattern tokens max_levels) (λ first. only_loop _ (λ sofar. only_look _ _ (only_pats_by (binds first) sofar)) (first ∷ []))

  only_word : (tree : Simple) → Only (word tokens tree)
  only_word tree = only_then _ _ (only_skip tokens) (λ _. only_is _)

  only_return_by : (place : Place) (k : Option Mark) → Only (return_by tokens place k)
  only_return_by place (Some m.Newline) = only_is _
  only_return_by place (Some m.Semicolon) = only_is _
  only_return_by place _ = only_then _ _ (only_expr tokens) (λ x. only_is _)

  only_message_by : (k : Option Mark) → Only (message_by tokens k)
  only_message_by (Some m.Comma) = only_then _ _ (only_skip tokens) (λ _. only_then _ _ (only_expr tokens) (λ x. only_is _))
  only_message_by _ = only_is _

  only_assertion : (place : Place) → Only (assertion tokens place)
  only_assertion place = only_then _ _ (only_skip tokens) (λ _. only_then _ _ (only_due tokens Other m.LParen) (λ _. only_then _ _ (only_expr tokens)
      (λ x. only_then _ _ (only_look _ _ only_message_by) (λ message. only_then _ _ (only_due tokens Other m.RParen) (λ _. only_is _)))))

  only_assign_by : (place : Place) (x : Expr) (op : Option AssignOp) → Only (assign_by tokens place x op)
  only_assign_by place x (Some op) = only_then _ _ (only_skip tokens) (λ _. only_then _ _ (only_expr tokens) (λ value. only_is _))
  only_assign_by place x None = only_is _

  only_assignment : (place : Place) → Only (assignment tokens place)
  only_assignment place = only_then _ _ (only_expr tokens) (λ x. only_look _ _ (only_assign_by place x))

  only_local_var : (place : Place) (before : List Annotation) → Only (local_var tokens place before)
  only_local_var place before = only_then _ _ (only_var tokens place before) (λ v. only_is _)

  only_annotated_by : (place : Place) (before : List Annotation) (k : Option Mark) → Only (annotated_by tokens place before k)
  only_annotated_by place before (Some m.Var) = only_local_var place before
  only_annotated_by place before _ = only_is _

  only_simple_by : (place : Place) (k : Option Mark) → Only (simple_by tokens place k)
  only_simple_by place (Some m.Pass) = only_word _
  only_simple_by place (Some m.Break) = only_word _
  only_simple_by place (Some m.Continue) = only_word _
  only_simple_by place (Some m.Return) = only_then _ _ (only_skip tokens) (λ _. only_look _ _ (only_return_by place))
  only_simple_by place (Some m.Var) = only_local_var place []
  only_simple_by place (Some m.At) = only_then _ _ (only_annots tokens is_ignore_word) (λ before. only_look _ _ (only_annotated_by place before))
  only_simple_by place (Some m.Const) = only_then _ _ (only_const tokens place) (λ c. only_is _)
  only_simple_by place (Some m.Assert) = only_assertion place
  only_simple_by place _ = only_assignment place

  only_simple : Only (simple tokens)
  only_simple at = only_look _ _ (only_simple_by (place_at tokens at)) at

  only_parted_by : (sofar : List Simple) (k : Option Mark) → Only (parted_by tokens sofar k)
  only_parted_by sofar (Some m.Newline) = only_is _
  only_parted_by sofar _ = only_then _ _ only_simple (λ x. only_is _)

  only_line_by : (sofar : List Simple) (k : Option Mark) → Only (line_by tokens sofar k)
  only_line_by sofar (Some m.Semicolon) = only_then _ _ (only_skip tokens) (λ _. only_look _ _ (only_parted_by sofar))
  only_line_by sofar _ = only_is _

  only_line_form : (place : Place) → Only (line_form tokens place)
  only_line_form place = only_then _ _ only_simple (λ first. only_then _ _ (only_loop _ (λ sofar. only_look _ _ (only_line_by sofar)) (first ∷ []))
      (λ all. only_then _ _ (only_due tokens Other m.Newline) (λ _. only_is _)))

  only_line : Only (line tokens)
  only_line at = only_line_form (place_at tokens at) at

  only_line_block : Only (line_block tokens)
  only_line_block = only_then _ _ only_line (λ x. only_is _)

  module _ (inner : Reading (List Stmt)) (i : Only inner) where
    only_branch : Only (branch tokens inner)
    only_branch at = only_then _ _ (only_skip tokens) (λ _. only_then _ _ (only_expr tokens) (λ x. only_then _ _ (only_due tokens Other m.Colon) (λ _. only_then _ _ i (λ body. only_is _)))) at

    only_elif_by : (sofar : List Branch) (k : Option Mark) → Only (elif_by tokens inner sofar k)
    only_elif_by sofar (Some m.Elif) = only_then _ _ only_branch (λ b. only_is _)
    only_elif_by sofar _ = only_is _

    only_else_by : (k : Option Mark) → Only (else_by tokens inner k)
    only_else_by (Some m.Else) = only_then _ _ (only_skip tokens) (λ _. only_then _ _ (only_due tokens Other m.Colon) (λ _. only_then _ _ i (λ body. only_is _)))
    only_else_by _ = only_is _

    only_if : (place : Place) → Only (if_stmt tokens inner place)
    only_if place = only_then _ _ only_branch (λ first. only_then _ _ (only_loop _ (λ sofar. only_look _ _ (only_elif_by sofar)) (first ∷ []))
        (λ all. only_then _ _ (only_look _ _ only_else_by) (λ other. only_is _)))

    only_for : (place : Place) → Only (for_stmt tokens inner place)
    only_for place = only_then _ _ (only_skip tokens) (λ _. only_then _ _ (only_new_name tokens) (λ name. only_then _ _ (only_look _ _ (only_type_by tokens Other))
        (λ t. only_then _ _ (only_due tokens Other m.In) (λ _. only_then _ _ (only_expr tokens) (λ x. only_then _ _ (only_due tokens Other m.Colon) (λ _. only_then _ _ i (λ body. only_is _)))))))

    only_while : (place : Place) → Only (while_stmt tokens inner place)
    only_while place = only_then _ _ only_branch (λ b. only_is _)

    only_match_branch : Only (match_branch tokens inner)
    only_match_branch = only_then _ _ only_pats (λ all. only_then _ _ (only_due tokens Other m.Colon) (λ _. only_then _ _ i (λ block. only_is _)))

    only_match_by : (sofar : List MatchBranch) (k : Option Mark) → Only (match_by tokens inner sofar k)
    only_match_by sofar (Some m.Dedent) = only_is _
    only_match_by sofar _ = only_then _ _ only_match_branch (λ b. only_is _)

    only_match : (place : Place) → Only (match_stmt tokens inner place)
    only_match place = only_then _ _ (only_skip tokens) (λ _. only_then _ _ (only_expr tokens) (λ x. only_then _ _ (only_due tokens Other m.Colon)
        (λ _. only_then _ _ (only_due tokens Other m.Newline) (λ _. only_then _ _ (only_due tokens Other m.Indent) (λ _. only_then _ _ (only_loop _ (λ sofar. only_look _ _ (only_match_by sofar)) [])
        (λ all. only_then _ _ (only_due tokens Other m.Dedent) (λ _. only_is _)))))))

    only_stmt_by : (place : Place) (k : Option Mark) → Only (stmt_by tokens inner place k)
    only_stmt_by place (Some m.If) = only_if place
    only_stmt_by place (Some m.For) = only_for place
    only_stmt_by place (Some m.While) = only_while place
    only_stmt_by place (Some m.Match) = only_match place
    only_stmt_by place _ = only_line

    only_stmt : Only (stmt tokens inner)
    only_stmt at = only_look _ _ (only_stmt_by (place_at tokens at)) at

    only_body_by : (sofar : List Stmt) (k : Option Mark) → Only (body_by tokens inner sofar k)
    only_body_by sofar (Some m.Dedent) = only_is _
    only_body_by sofar _ = only_then _ _ only_stmt (λ x. only_is _)

    only_block_by : (k : Option Mark) → Only (block_by tokens inner k)
    only_block_by (Some m.Newline) = only_then _ _ (only_skip tokens) (λ _. only_then _ _ (only_due tokens Other m.Indent)
        (λ _. only_then _ _ (only_loop _ (λ sofar. only_look _ _ (only_body_by sofar)) []) (λ all. only_then _ _ (only_due tokens Other m.Dedent) (λ _. only_is _))))
    only_block_by _ = only_line_block

  pub only_block : (room : ℕ) → Only (block tokens room)
  unfolding block
  only_block zero = only_is _
  only_block (suc room) = only_look _ _ (only_block_by (block tokens room) (only_block room))

-- Each reading of a statement or a block has an outcome.
use Rattle.std.proofs.Common.{ℕ, zero, suc, Bool, List, [], ◌∷◌, Option, Some, None}
use Rattle.gd_syntax.specs.declared.fault.Place.{Place}
use Rattle.gd_syntax.specs.declared.token.Token.{Token}
use Rattle.gd_syntax.specs.declared.token.Kind.{Kind}
use Rattle.gd_syntax.specs.declared.token.Kind.TheVariants.{Mark as Marked}
use Rattle.gd_syntax.specs.declared.token.Mark.{Mark}
use Rattle.gd_syntax.specs.declared.token.Mark.TheVariants as m
use Rattle.gd_syntax.specs.declared.tree.expr.Expr.{Expr}
use Rattle.gd_syntax.specs.declared.tree.expr.Literal.{Literal}
use Rattle.gd_syntax.specs.declared.tree.member.Annotation.{Annotation}
use Rattle.gd_syntax.specs.declared.tree.pattern.Pattern.{Pattern}
use Rattle.gd_syntax.specs.declared.tree.statement.AssignOp.{AssignOp}
use Rattle.gd_syntax.specs.declared.tree.statement.Branch.{Branch}
use Rattle.gd_syntax.specs.declared.tree.statement.MatchBranch.{MatchBranch}
use Rattle.gd_syntax.specs.declared.tree.statement.Simple.{Simple}
use Rattle.gd_syntax.specs.declared.tree.statement.Stmt.{Stmt}
use Rattle.gd_syntax.specs.Reading.{Reading, Then, ◌>>=◌, ◌>>◌, Look, give}
use Rattle.gd_syntax.specs.declared.stops.Sought.TheVariants.{Other}
use Rattle.gd_syntax.specs.TokenReading.{max_levels, literal_of, kind_at, mark_at, place_at, skip, Due}
use Rattle.gd_syntax.specs.PatternGrammar.{finished}
use Rattle.gd_syntax.specs.DeclarationGrammar.{expr, is_ignore_word}
use Rattle.gd_syntax.specs.StatementGrammar.{binds, unbound_other_by, unbound_by, unbound_form, unbound, pats_by, pats, word, return_by, message_by, assertion, assign_by, assignment, local_var, annotated_by, simple_by, simple, parted_by, line_by, line_form, line, line_block, branch, elif_by, else_by, if_stmt, for_stmt, while_stmt, match_branch, match_by, match_stmt, stmt_by, stmt, body_by, block_by, block}
use Rattle.grammar_laws.proofs.Exists.{Reads, Takes, Moves, taken, reads_then, takes, reads, sound_look, sound_either, sound_stops, sound_at, sound_refuse, reads_give, goes_on, ends, moves_look, Starts, starts_then, starts_mark, ends_mark, reads_loop, takes_skip, takes_due}
use Rattle.grammar_laws.proofs.ExistsPatterns.{takes_other_by, reads_finished, takes_pattern, starts_pattern}
use Rattle.grammar_laws.proofs.ExistsDeclarations.{past, form_expr, takes_expr, takes_new_name, reads_type_by, reads_annots, takes_var, takes_const}

module _ (tokens : List Token) where
  module _ (room : ℕ) (inner : Reading Pattern) (i : Takes inner) where
    takes_unbound_other_by : (place : Place) (k : Kind) → Takes (unbound_other_by tokens room inner place k)
    takes_unbound_other_by place (Marked m.Var) = sound_refuse tokens 1 Other
    takes_unbound_other_by place k = takes_other_by tokens room inner i place k

    takes_unbound_by : (place : Place) (value : Option Literal) → Takes (unbound_by tokens room inner place value)
    takes_unbound_by place (Some value) = taken _ _ (takes_skip tokens) (λ _. reads_give _)
    takes_unbound_by place None = sound_look 1 _ _ (takes_unbound_other_by place)

    takes_unbound_form : Takes (unbound_form tokens room inner)
    takes_unbound_form = sound_at 1 (λ place. Then (Look (λ to. literal_of (kind_at tokens to)) (unbound_by tokens room inner (place_at tokens place))) (finished tokens room inner))
        (λ at. taken _ _ (sound_look 1 _ _ (takes_unbound_by (place_at tokens at))) (reads_finished tokens room inner i))

  takes_unbound : (room : ℕ) → Takes (unbound tokens room)
  unfolding unbound
  takes_unbound zero = sound_stops 1 _
  takes_unbound (suc room) = takes_unbound_form (suc room) (unbound tokens room) (takes_unbound room)

  moves_pats_by : (bound : Bool) (sofar : List Pattern) (k : Option Mark) → Moves (pats_by tokens bound sofar k)
  moves_pats_by bound sofar (Some m.Comma) = goes_on _ (sound_either 1 bound _ _ (sound_refuse tokens 1 Other) (past tokens _ (taken _ _ (takes_unbound max_levels) (λ x. reads_give _))))
  moves_pats_by bound sofar _ = ends sofar

  takes_pats : Takes (pats tokens)
  takes_pats = taken _ _ (takes_pattern tokens max_levels) (λ first. reads_loop tokens _ (λ sofar. moves_look _ _ (moves_pats_by (binds first) sofar))
      (λ sofar. ends_mark tokens (pats_by tokens (binds first) sofar) (λ at next b i e. cc e)) (first ∷ []))

  takes_word : (tree : Simple) → Takes (word tokens tree)
  takes_word tree = taken _ _ (takes_skip tokens) (λ _. reads_give _)

  reads_return_by : (place : Place) (k : Option Mark) → Reads (return_by tokens place k)
  reads_return_by place (Some m.Newline) = reads_give _
  reads_return_by place (Some m.Semicolon) = reads_give _
  reads_return_by place _ = reads _ (taken _ _ (takes_expr tokens) (λ x. reads_give _))

  reads_message_by : (k : Option Mark) → Reads (message_by tokens k)
  reads_message_by (Some m.Comma) = reads _ (past tokens _ (taken _ _ (takes_expr tokens) (λ x. reads_give _)))
  reads_message_by _ = reads_give _

  takes_assertion : (place : Place) → Takes (assertion tokens place)
  takes_assertion place = past tokens _ (taken _ _ (takes_due tokens Other m.LParen) (λ _. reads _ (taken _ _ (takes_expr tokens)
      (λ x. reads_then _ _ (sound_look 0 _ _ reads_message_by) (λ message. reads _ (taken _ _ (takes_due tokens Other m.RParen) (λ _. reads_give _)))))))

  reads_assign_by : (place : Place) (x : Expr) (op : Option AssignOp) → Reads (assign_by tokens place x op)
  reads_assign_by place x (Some op) = reads _ (past tokens _ (taken _ _ (takes_expr tokens) (λ value. reads_give _)))
  reads_assign_by place x None = reads_give _

  takes_assignment : (place : Place) → Takes (assignment tokens place)
  takes_assignment place = taken _ _ (takes_expr tokens) (λ x. sound_look 0 _ _ (reads_assign_by place x))

  takes_local_var : (place : Place) (before : List Annotation) → Takes (local_var tokens place before)
  takes_local_var place before = taken _ _ (takes_var tokens place before) (λ v. reads_give _)

  takes_annotated_by : (place : Place) (before : List Annotation) (k : Option Mark) → Takes (annotated_by tokens place before k)
  takes_annotated_by place before (Some m.Var) = takes_local_var place before
  takes_annotated_by place before _ = sound_refuse tokens 1 Other

  takes_simple_by : (place : Place) (k : Option Mark) → Takes (simple_by tokens place k)
  takes_simple_by place (Some m.Pass) = takes_word _
  takes_simple_by place (Some m.Break) = takes_word _
  takes_simple_by place (Some m.Continue) = takes_word _
  takes_simple_by place (Some m.Return) = taken _ _ (takes_skip tokens) (λ _. sound_look 0 _ _ (reads_return_by place))
  takes_simple_by place (Some m.Var) = takes_local_var place []
  takes_simple_by place (Some m.At) = takes _ _ (reads_annots tokens is_ignore_word) (λ before. sound_look 1 _ _ (takes_annotated_by place before))
  takes_simple_by place (Some m.Const) = taken _ _ (takes_const tokens place) (λ c. reads_give _)
  takes_simple_by place (Some m.Assert) = takes_assertion place
  takes_simple_by place _ = takes_assignment place

  takes_simple : Takes (simple tokens)
  takes_simple = sound_at 1 (λ place. Look (mark_at tokens) (simple_by tokens (place_at tokens place))) (λ at. sound_look 1 _ _ (takes_simple_by (place_at tokens at)))

  starts_simple : Starts tokens (simple tokens)
  starts_simple at = starts_mark tokens (simple_by tokens (place_at tokens at)) (starts_then tokens _ _ (form_expr tokens).starts) at

  reads_parted_by : (sofar : List Simple) (k : Option Mark) → Reads (parted_by tokens sofar k)
  reads_parted_by sofar (Some m.Newline) = reads_give _
  reads_parted_by sofar _ = reads _ (taken _ _ takes_simple (λ x. reads_give _))

  moves_line_by : (sofar : List Simple) (k : Option Mark) → Moves (line_by tokens sofar k)
  moves_line_by sofar (Some m.Semicolon) = goes_on _ (taken _ _ (takes_skip tokens) (λ _. sound_look 0 _ _ (reads_parted_by sofar)))
  moves_line_by sofar _ = ends sofar

  takes_line_form : (place : Place) → Takes (line_form tokens place)
  takes_line_form place = taken _ _ takes_simple (λ first. reads_then _ _ (reads_loop tokens _ (λ sofar. moves_look _ _ (moves_line_by sofar))
      (λ sofar. ends_mark tokens (line_by tokens sofar) (λ at next b i e. cc e)) (first ∷ [])) (λ all. reads _ (taken _ _ (takes_due tokens Other m.Newline) (λ _. reads_give _))))

  takes_line : Takes (line tokens)
  takes_line = sound_at 1 (λ at. line_form tokens (place_at tokens at)) (λ at. takes_line_form (place_at tokens at))

  takes_line_block : Takes (line_block tokens)
  takes_line_block = taken _ _ takes_line (λ x. reads_give _)

  starts_line : Starts tokens (line tokens)
  starts_line at = starts_then tokens _ _ starts_simple at

  module _ (inner : Reading (List Stmt)) (i : Takes inner) where
    abbrev branch_form : Place → Reading Branch
    branch_form place = do
      skip tokens
      x ← expr tokens
      Due tokens Other m.Colon
      all ← inner
      give (record { place = place; condition = x; body = all })

    takes_branch_at : (place : Place) → Takes (branch_form place)
    takes_branch_at place = past tokens _ (taken _ _ (takes_expr tokens) (λ x. reads _ (taken _ _ (takes_due tokens Other m.Colon) (λ _. reads _ (taken _ _ i (λ body. reads_give _))))))

    takes_branch : Takes (branch tokens inner)
    takes_branch = sound_at 1 (λ at. branch_form (place_at tokens at)) (λ at. takes_branch_at (place_at tokens at))

    moves_elif_by : (sofar : List Branch) (k : Option Mark) → Moves (elif_by tokens inner sofar k)
    moves_elif_by sofar (Some m.Elif) = goes_on _ (taken _ _ takes_branch (λ b. reads_give _))
    moves_elif_by sofar _ = ends sofar

    reads_else_by : (k : Option Mark) → Reads (else_by tokens inner k)
    reads_else_by (Some m.Else) = reads _ (past tokens _ (taken _ _ (takes_due tokens Other m.Colon) (λ _. reads _ (taken _ _ i (λ body. reads_give _)))))
    reads_else_by _ = reads_give _

    takes_if : (place : Place) → Takes (if_stmt tokens inner place)
    takes_if place = taken _ _ takes_branch (λ first. reads_then _ _ (reads_loop tokens _ (λ sofar. moves_look _ _ (moves_elif_by sofar))
        (λ sofar. ends_mark tokens (elif_by tokens inner sofar) (λ at next b i e. cc e)) (first ∷ [])) (λ all. reads_then _ _ (sound_look 0 _ _ reads_else_by) (λ other. reads_give _)))

    takes_for : (place : Place) → Takes (for_stmt tokens inner place)
    takes_for place = past tokens _ (taken _ _ (takes_new_name tokens) (λ name. reads_then _ _ (sound_look 0 _ _ (reads_type_by tokens Other))
        (λ t. reads _ (taken _ _ (takes_due tokens Other m.In) (λ _. reads _ (taken _ _ (takes_expr tokens) (λ x. reads _ (taken _ _ (takes_due tokens Other m.Colon)
        (λ _. reads _ (taken _ _ i (λ body. reads_give _)))))))))))

    takes_while : (place : Place) → Takes (while_stmt tokens inner place)
    takes_while place = taken _ _ takes_branch (λ b. reads_give _)

    takes_match_branch : Takes (match_branch tokens inner)
    takes_match_branch = taken _ _ takes_pats (λ all. reads _ (taken _ _ (takes_due tokens Other m.Colon) (λ _. reads _ (taken _ _ i (λ block. reads_give _)))))

    moves_match_by : (sofar : List MatchBranch) (k : Option Mark) → Moves (match_by tokens inner sofar k)
    moves_match_by sofar (Some m.Dedent) = ends sofar
    moves_match_by sofar _ = goes_on _ (taken _ _ takes_match_branch (λ b. reads_give _))

    takes_match : (place : Place) → Takes (match_stmt tokens inner place)
    takes_match place = past tokens _ (taken _ _ (takes_expr tokens) (λ x. reads _ (taken _ _ (takes_due tokens Other m.Colon) (λ _. reads _ (taken _ _ (takes_due tokens Other m.Newline)
        (λ _. reads _ (taken _ _ (takes_due tokens Other m.Indent) (λ _. reads_then _ _ (reads_loop tokens _ (λ sofar. moves_look _ _ (moves_match_by sofar))
        (λ sofar. ends_mark tokens (match_by tokens inner sofar) (λ at next b z h. starts_then tokens _ _ (starts_then tokens _ _ (starts_then tokens _ _ (starts_pattern tokens max_levels))) at next _ z h)) [])
        (λ all. reads _ (taken _ _ (takes_due tokens Other m.Dedent) (λ _. reads_give _)))))))))))

    takes_stmt_by : (place : Place) (k : Option Mark) → Takes (stmt_by tokens inner place k)
    takes_stmt_by place (Some m.If) = takes_if place
    takes_stmt_by place (Some m.For) = takes_for place
    takes_stmt_by place (Some m.While) = takes_while place
    takes_stmt_by place (Some m.Match) = takes_match place
    takes_stmt_by place _ = takes_line

    takes_stmt : Takes (stmt tokens inner)
    takes_stmt = sound_at 1 (λ place. Look (mark_at tokens) (stmt_by tokens inner (place_at tokens place))) (λ at. sound_look 1 _ _ (takes_stmt_by (place_at tokens at)))

    starts_stmt : Starts tokens (stmt tokens inner)
    starts_stmt at = starts_mark tokens (stmt_by tokens inner (place_at tokens at)) starts_line at

    moves_body_by : (sofar : List Stmt) (k : Option Mark) → Moves (body_by tokens inner sofar k)
    moves_body_by sofar (Some m.Dedent) = ends sofar
    moves_body_by sofar _ = goes_on _ (taken _ _ takes_stmt (λ x. reads_give _))

    takes_block_by : (k : Option Mark) → Takes (block_by tokens inner k)
    takes_block_by (Some m.Newline) = past tokens _ (taken _ _ (takes_due tokens Other m.Indent) (λ _. reads_then _ _ (reads_loop tokens _ (λ sofar. moves_look _ _ (moves_body_by sofar))
        (λ sofar. ends_mark tokens (body_by tokens inner sofar) (λ at next b z h. starts_then tokens _ _ starts_stmt at next _ z h)) [])
        (λ all. reads _ (taken _ _ (takes_due tokens Other m.Dedent) (λ _. reads_give _)))))
    takes_block_by _ = takes_line_block

  pub takes_block : (room : ℕ) → Takes (block tokens room)
  unfolding block
  takes_block zero = sound_stops 1 _
  takes_block (suc room) = sound_look 1 _ _ (takes_block_by (block tokens room) (takes_block room))

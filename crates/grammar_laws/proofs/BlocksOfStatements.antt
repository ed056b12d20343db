-- How deep the blocks of a block that is read nest.
use Rattle.std.proofs.Common.{ℕ, zero, suc, ◌≤◌, List, [], ◌∷◌, ◌++◌, map, Option, Some, None, arith}
use Rattle.gd_syntax.specs.declared.fault.Place.{Place}
use Rattle.gd_syntax.specs.declared.token.Token.{Token}
use Rattle.gd_syntax.specs.declared.token.Mark.{Mark}
use Rattle.gd_syntax.specs.declared.token.Mark.TheVariants as m
use Rattle.gd_syntax.specs.declared.tree.statement.Branch.{Branch}
use Rattle.gd_syntax.specs.declared.tree.statement.MatchBranch.{MatchBranch}
use Rattle.gd_syntax.specs.declared.tree.statement.Stmt.{Stmt}
use Rattle.gd_syntax.specs.declared.tree.statement.Stmt.TheVariants as s
use Rattle.gd_syntax.specs.Levels.{most}
use Rattle.gd_syntax.specs.Reading.{Reading, On, Last}
use Rattle.gd_syntax.specs.TokenReading.{place_at}
use Rattle.gd_syntax.specs.StatementGrammar.{line_form, line, line_block, branch, elif_by, else_by, if_stmt, for_stmt, while_stmt, match_branch, match_by, match_stmt, stmt_by, stmt, body_by, block_by, block}
use Rattle.gd_syntax.proofs.Levels.{most_push}
use Rattle.grammar_laws.specs.Limits.{stmt_blocks, blocks}
use Rattle.grammar_laws.proofs.LimitForms.{branch_blocks, match_blocks, other_blocks, blocks-Line, blocks-If, blocks-For, blocks-While, blocks-Match}
use Rattle.grammar_laws.proofs.Gives.{Gives, gives_then, gives_after, gives_look, gives_give, gives_stops, TurnOf, gives_loop}

module _ (tokens : List Token) where
  module _ (room : ℕ) where
    abbrev Low : Stmt → Type 0
    Low x = stmt_blocks x ≤ room

    abbrev LowBranch : Branch → Type 0
    LowBranch b = branch_blocks b ≤ room

    abbrev LowMatch : MatchBranch → Type 0
    LowMatch b = match_blocks b ≤ room

    abbrev LowBody : List Stmt → Type 0
    LowBody body = blocks body ≤ room

    abbrev LowOther : Option (List Stmt) → Type 0
    LowOther other = other_blocks other ≤ room

    abbrev AreBranches : List Branch → Type 0
    AreBranches all = most (map branch_blocks all) ≤ room

    abbrev AreMatches : List MatchBranch → Type 0
    AreMatches all = most (map match_blocks all) ≤ room

    abbrev AreLow : List Stmt → Type 0
    AreLow all = most (map stmt_blocks all) ≤ room

    -- a block in which the statements are
    abbrev Outer : List Stmt → Type 0
    Outer body = blocks body ≤ suc room

    low_line_form : (place : Place) → Gives Low (line_form tokens place)
    low_line_form place = gives_after Low _ _ (λ first. gives_after Low _ _ (λ all. gives_after Low _ _ (λ _. gives_give Low (s.Line place all) (omega (arith, blocks-Line place all)))))

    low_line : Gives Low (line tokens)
    low_line at = low_line_form (place_at tokens at) at

    low_line_block : Gives Outer (line_block tokens)
    low_line_block = gives_then Low Outer _ _ low_line (λ x h. gives_give Outer (x ∷ []) (omega (arith, h)))

    module _ (inner : Reading (List Stmt)) (i : Gives LowBody inner) where
      low_branch : Gives LowBranch (branch tokens inner)
      low_branch at = gives_after LowBranch _ _ (λ _. gives_after LowBranch _ _ (λ x. gives_after LowBranch _ _
          (λ _. gives_then LowBody LowBranch _ _ i (λ all h. gives_give LowBranch (record { place = place_at tokens at; condition = x; body = all }) h)))) at

      low_elif_by : (sofar : List Branch) → AreBranches sofar → (k : Option Mark) → Gives (TurnOf AreBranches) (elif_by tokens inner sofar k)
      low_elif_by sofar low (Some m.Elif) = gives_then LowBranch (TurnOf AreBranches) _ _ low_branch
          (λ b h. gives_give (TurnOf AreBranches) (On (sofar ++ b ∷ [])) (let e = most_push branch_blocks sofar b in omega (arith, low, h, e)))
      low_elif_by sofar low _ = gives_give (TurnOf AreBranches) (Last sofar) low

      low_else_by : (k : Option Mark) → Gives LowOther (else_by tokens inner k)
      low_else_by (Some m.Else) = gives_after LowOther _ _ (λ _. gives_after LowOther _ _ (λ _. gives_then LowBody LowOther _ _ i (λ body h. gives_give LowOther (Some body) h)))
      low_else_by _ = gives_give LowOther None (omega arith)

      low_if : (place : Place) → Gives Low (if_stmt tokens inner place)
      low_if place = gives_then LowBranch Low _ _ low_branch (λ first h. gives_then AreBranches Low _ _
          (gives_loop AreBranches _ (λ sofar low. gives_look (TurnOf AreBranches) _ _ (low_elif_by sofar low)) (first ∷ []) (omega (arith, h)))
          (λ all k. gives_then LowOther Low _ _ (gives_look LowOther _ _ low_else_by) (λ other l. gives_give Low (s.If place all other) (omega (arith, k, l, blocks-If place all other)))))

      low_for : (place : Place) → Gives Low (for_stmt tokens inner place)
      low_for place = gives_after Low _ _ (λ _. gives_after Low _ _ (λ name. gives_after Low _ _ (λ t. gives_after Low _ _ (λ _. gives_after Low _ _ (λ x. gives_after Low _ _
          (λ _. gives_then LowBody Low _ _ i (λ body h. gives_give Low (s.For place name t x body) (omega (arith, h, blocks-For place name t x body)))))))))

      low_while : (place : Place) → Gives Low (while_stmt tokens inner place)
      low_while place = gives_then LowBranch Low _ _ low_branch (λ b h. gives_give Low (s.While place b.condition b.body) (omega (arith, h, blocks-While place b.condition b.body)))

      low_match_branch : Gives LowMatch (match_branch tokens inner)
      low_match_branch = gives_after LowMatch _ _ (λ all. gives_after LowMatch _ _ (λ _. gives_then LowBody LowMatch _ _ i (λ body h. gives_give LowMatch (record { patterns = all; body = body }) h)))

      low_match_by : (sofar : List MatchBranch) → AreMatches sofar → (k : Option Mark) → Gives (TurnOf AreMatches) (match_by tokens inner sofar k)
      low_match_by sofar low (Some m.Dedent) = gives_give (TurnOf AreMatches) (Last sofar) low
      low_match_by sofar low _ = gives_then LowMatch (TurnOf AreMatches) _ _ low_match_branch
          (λ b h. gives_give (TurnOf AreMatches) (On (sofar ++ b ∷ [])) (let e = most_push match_blocks sofar b in omega (arith, low, h, e)))

      low_match : (place : Place) → Gives Low (match_stmt tokens inner place)
      low_match place = gives_after Low _ _ (λ _. gives_after Low _ _ (λ x. gives_after Low _ _ (λ _. gives_after Low _ _ (λ _. gives_after Low _ _ (λ _. gives_then AreMatches Low _ _
          (gives_loop AreMatches _ (λ sofar low. gives_look (TurnOf AreMatches) _ _ (low_match_by sofar low)) [] (omega arith))
          (λ all h. gives_after Low _ _ (λ _. gives_give Low (s.Match place x all) (omega (arith, h, blocks-Match place x all)))))))))

      low_stmt_by : (place : Place) (k : Option Mark) → Gives Low (stmt_by tokens inner place k)
      low_stmt_by place (Some m.If) = low_if place
      low_stmt_by place (Some m.For) = low_for place
      low_stmt_by place (Some m.While) = low_while place
      low_stmt_by place (Some m.Match) = low_match place
      low_stmt_by place _ = low_line

      low_stmt : Gives Low (stmt tokens inner)
      low_stmt at = gives_look Low _ _ (low_stmt_by (place_at tokens at)) at

      low_body_by : (sofar : List Stmt) → AreLow sofar → (k : Option Mark) → Gives (TurnOf AreLow) (body_by tokens inner sofar k)
      low_body_by sofar low (Some m.Dedent) = gives_give (TurnOf AreLow) (Last sofar) low
      low_body_by sofar low _ = gives_then Low (TurnOf AreLow) _ _ low_stmt
          (λ x h. gives_give (TurnOf AreLow) (On (sofar ++ x ∷ [])) (let e = most_push stmt_blocks sofar x in omega (arith, low, h, e)))

      low_block_by : (k : Option Mark) → Gives Outer (block_by tokens inner k)
      low_block_by (Some m.Newline) = gives_after Outer _ _ (λ _. gives_after Outer _ _ (λ _. gives_then AreLow Outer _ _
          (gives_loop AreLow _ (λ sofar low. gives_look (TurnOf AreLow) _ _ (low_body_by sofar low)) [] (omega arith))
          (λ all h. gives_after Outer _ _ (λ _. gives_give Outer all (omega (arith, h))))))
      low_block_by _ = low_line_block

  pub low_block : (room : ℕ) → Gives (λ body. blocks body ≤ room) (block tokens room)
  unfolding block
  low_block zero = gives_stops (λ body. blocks body ≤ zero) _
  low_block (suc room) = gives_look (λ body. blocks body ≤ suc room) _ _ (low_block_by room (block tokens room) (low_block room))

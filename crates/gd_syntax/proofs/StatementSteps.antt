-- The readings of blocks and classes by the room for them, and the alternatives of statements where the next token begins
-- no other.
use Rattle.std.proofs.Common.{◌≢◌, ℕ, zero, suc, Bool, List, [], ◌∷◌, ◌++◌, Option, Some, None, refl}
use Rattle.gd_syntax.specs.declared.fault.Place.{Place}
use Rattle.gd_syntax.specs.declared.token.Token.{Token}
use Rattle.gd_syntax.specs.declared.token.Mark.{Mark}
use Rattle.gd_syntax.specs.declared.token.Mark.TheVariants as m
use Rattle.gd_syntax.specs.declared.tree.expr.Expr.{Expr}
use Rattle.gd_syntax.specs.declared.tree.member.Member.{Member}
use Rattle.gd_syntax.specs.declared.tree.pattern.Pattern.{Pattern}
use Rattle.gd_syntax.specs.declared.tree.statement.Branch.{Branch}
use Rattle.gd_syntax.specs.declared.tree.statement.MatchBranch.{MatchBranch}
use Rattle.gd_syntax.specs.declared.tree.statement.Simple.{Simple}
use Rattle.gd_syntax.specs.declared.tree.statement.Simple.TheVariants as simply
use Rattle.gd_syntax.specs.declared.tree.statement.Stmt.{Stmt}
use Rattle.gd_syntax.specs.Reading.{Outcome, Reading, ◌>>=◌, ◌>>◌, give, Look, looks, Turn, On, Last}
use Rattle.gd_syntax.specs.declared.stops.Sought.TheVariants.{Other}
use Rattle.gd_syntax.specs.TokenReading.{mark_at, Due}
use Rattle.gd_syntax.specs.DeclarationGrammar.{expr}
use Rattle.gd_syntax.specs.StatementGrammar.{unbound_form, full_unbound, unbound, pats_by, return_by, message_by, assignment, simple_by, simple, parted_by, line_by, line, line_block, elif_by, else_by, match_branch, match_by, stmt_by, stmt, body_by, too_deep, block_by, block}
use Rattle.gd_syntax.specs.MemberGrammar.{members, class_block}

module _ (tokens : List Token) where
  -- a block, where one more may be open
  pub block_is : (room at : ℕ) (o : Outcome (List Stmt)) → Look (mark_at tokens) (block_by tokens (block tokens room)) at o → block tokens (suc room) at o
  unfolding block
  block_is room at o h = h

  pub block_gives : (room at : ℕ) (o : Outcome (List Stmt)) → block tokens (suc room) at o → Look (mark_at tokens) (block_by tokens (block tokens room)) at o
  unfolding block
  block_gives room at o h = h

  -- and where none may
  pub block_full : (at : ℕ) (o : Outcome (List Stmt)) → too_deep tokens at o → block tokens zero at o
  unfolding block
  block_full at o h = h

  -- the members of an inner class
  pub class_is : (room classes at : ℕ) (o : Outcome (List Member × ℕ))
      → (do Due tokens Other m.Newline; Due tokens Other m.Indent; all ← members tokens (class_block tokens room) ([], classes); Due tokens Other m.Dedent; give all) at o
      → class_block tokens (suc room) classes at o
  unfolding class_block
  class_is room classes at o h = h

  pub class_gives : (room classes at : ℕ) (o : Outcome (List Member × ℕ)) → class_block tokens (suc room) classes at o
      → (do Due tokens Other m.Newline; Due tokens Other m.Indent; all ← members tokens (class_block tokens room) ([], classes); Due tokens Other m.Dedent; give all) at o
  unfolding class_block
  class_gives room classes at o h = h

  pub class_full : (classes at : ℕ) (o : Outcome (List Member × ℕ)) → too_deep tokens at o → class_block tokens zero classes at o
  unfolding class_block
  class_full classes at o h = h

  -- a pattern without `var`
  pub unbound_is : (room at : ℕ) (o : Outcome Pattern) → unbound_form tokens (suc room) (unbound tokens room) at o → unbound tokens (suc room) at o
  unfolding unbound
  unbound_is room at o h = h

  pub unbound_gives : (room at : ℕ) (o : Outcome Pattern) → unbound tokens (suc room) at o → unbound_form tokens (suc room) (unbound tokens room) at o
  unfolding unbound
  unbound_gives room at o h = h

  pub unbound_full : (at : ℕ) (o : Outcome Pattern) → full_unbound tokens at o → unbound tokens zero at o
  unfolding unbound
  unbound_full at o h = h

  -- ---- the next token begins no other alternative

  pats_none_by : (bound : Bool) (sofar : List Pattern) (k : Option Mark) (at : ℕ) (o : Outcome (Turn (List Pattern))) → k ≢ Some m.Comma → (give (Last sofar)) at o → pats_by tokens bound sofar k at o
  pats_none_by bound sofar (Some m.Comma) at o x h = absurd (x refl)
  pats_none_by bound sofar _ at o x h = h

  pub pats_none : (bound : Bool) (sofar : List Pattern) (at : ℕ) (o : Outcome (Turn (List Pattern))) → mark_at tokens at ≢ Some m.Comma → (give (Last sofar)) at o → Look (mark_at tokens) (pats_by tokens bound sofar) at o
  pats_none bound sofar at o x h = looks refl (pats_none_by bound sofar (mark_at tokens at) at o x h)

  return_value_by : (place : Place) (k : Option Mark) (at : ℕ) (o : Outcome Simple) → k ≢ Some m.Newline → k ≢ Some m.Semicolon → (do x ← expr tokens; give (simply.Return place (Some x))) at o → return_by tokens place k at o
  return_value_by place (Some m.Newline) at o x y h = absurd (x refl)
  return_value_by place (Some m.Semicolon) at o x y h = absurd (y refl)
  return_value_by place _ at o x y h = h

  pub return_value : (place : Place) (at : ℕ) (o : Outcome Simple) → mark_at tokens at ≢ Some m.Newline → mark_at tokens at ≢ Some m.Semicolon → (do x ← expr tokens; give (simply.Return place (Some x))) at o → Look (mark_at tokens) (return_by tokens place) at o
  return_value place at o x y h = looks refl (return_value_by place (mark_at tokens at) at o x y h)

  message_none_by : (k : Option Mark) (at : ℕ) (o : Outcome (Option Expr)) → k ≢ Some m.Comma → (give None) at o → message_by tokens k at o
  message_none_by (Some m.Comma) at o x h = absurd (x refl)
  message_none_by _ at o x h = h

  pub message_none : (at : ℕ) (o : Outcome (Option Expr)) → mark_at tokens at ≢ Some m.Comma → (give None) at o → Look (mark_at tokens) (message_by tokens) at o
  message_none at o x h = looks refl (message_none_by (mark_at tokens at) at o x h)

  simple_assignment_by : (place : Place) (k : Option Mark) (at : ℕ) (o : Outcome Simple) → k ≢ Some m.Pass → k ≢ Some m.Break → k ≢ Some m.Continue → k ≢ Some m.Return → k ≢ Some m.Var → k ≢ Some m.At → k ≢ Some m.Const → k ≢ Some m.Assert → (assignment tokens place) at o → simple_by tokens place k at o
  simple_assignment_by place (Some m.Pass) at o x y z w u v s t h = absurd (x refl)
  simple_assignment_by place (Some m.Break) at o x y z w u v s t h = absurd (y refl)
  simple_assignment_by place (Some m.Continue) at o x y z w u v s t h = absurd (z refl)
  simple_assignment_by place (Some m.Return) at o x y z w u v s t h = absurd (w refl)
  simple_assignment_by place (Some m.Var) at o x y z w u v s t h = absurd (u refl)
  simple_assignment_by place (Some m.At) at o x y z w u v s t h = absurd (v refl)
  simple_assignment_by place (Some m.Const) at o x y z w u v s t h = absurd (s refl)
  simple_assignment_by place (Some m.Assert) at o x y z w u v s t h = absurd (t refl)
  simple_assignment_by place _ at o x y z w u v s t h = h

  pub simple_assignment : (place : Place) (at : ℕ) (o : Outcome Simple) → mark_at tokens at ≢ Some m.Pass → mark_at tokens at ≢ Some m.Break → mark_at tokens at ≢ Some m.Continue → mark_at tokens at ≢ Some m.Return → mark_at tokens at ≢ Some m.Var → mark_at tokens at ≢ Some m.At → mark_at tokens at ≢ Some m.Const → mark_at tokens at ≢ Some m.Assert → (assignment tokens place) at o → Look (mark_at tokens) (simple_by tokens place) at o
  simple_assignment place at o x y z w u v s t h = looks refl (simple_assignment_by place (mark_at tokens at) at o x y z w u v s t h)

  parted_none_by : (sofar : List Simple) (k : Option Mark) (at : ℕ) (o : Outcome (Turn (List Simple))) → k ≢ Some m.Newline → (do x ← simple tokens; give (On (sofar ++ x ∷ []))) at o → parted_by tokens sofar k at o
  parted_none_by sofar (Some m.Newline) at o x h = absurd (x refl)
  parted_none_by sofar _ at o x h = h

  pub parted_none : (sofar : List Simple) (at : ℕ) (o : Outcome (Turn (List Simple))) → mark_at tokens at ≢ Some m.Newline → (do x ← simple tokens; give (On (sofar ++ x ∷ []))) at o → Look (mark_at tokens) (parted_by tokens sofar) at o
  parted_none sofar at o x h = looks refl (parted_none_by sofar (mark_at tokens at) at o x h)

  line_none_by : (sofar : List Simple) (k : Option Mark) (at : ℕ) (o : Outcome (Turn (List Simple))) → k ≢ Some m.Semicolon → (give (Last sofar)) at o → line_by tokens sofar k at o
  line_none_by sofar (Some m.Semicolon) at o x h = absurd (x refl)
  line_none_by sofar _ at o x h = h

  pub line_none : (sofar : List Simple) (at : ℕ) (o : Outcome (Turn (List Simple))) → mark_at tokens at ≢ Some m.Semicolon → (give (Last sofar)) at o → Look (mark_at tokens) (line_by tokens sofar) at o
  line_none sofar at o x h = looks refl (line_none_by sofar (mark_at tokens at) at o x h)

  module _ (inner : Reading (List Stmt)) where
    elif_none_by : (sofar : List Branch) (k : Option Mark) (at : ℕ) (o : Outcome (Turn (List Branch))) → k ≢ Some m.Elif → (give (Last sofar)) at o → elif_by tokens inner sofar k at o
    elif_none_by sofar (Some m.Elif) at o x h = absurd (x refl)
    elif_none_by sofar _ at o x h = h

    pub elif_none : (sofar : List Branch) (at : ℕ) (o : Outcome (Turn (List Branch))) → mark_at tokens at ≢ Some m.Elif → (give (Last sofar)) at o → Look (mark_at tokens) (elif_by tokens inner sofar) at o
    elif_none sofar at o x h = looks refl (elif_none_by sofar (mark_at tokens at) at o x h)

    else_none_by : (k : Option Mark) (at : ℕ) (o : Outcome (Option (List Stmt))) → k ≢ Some m.Else → (give None) at o → else_by tokens inner k at o
    else_none_by (Some m.Else) at o x h = absurd (x refl)
    else_none_by _ at o x h = h

    pub else_none : (at : ℕ) (o : Outcome (Option (List Stmt))) → mark_at tokens at ≢ Some m.Else → (give None) at o → Look (mark_at tokens) (else_by tokens inner) at o
    else_none at o x h = looks refl (else_none_by (mark_at tokens at) at o x h)

    match_further_by : (sofar : List MatchBranch) (k : Option Mark) (at : ℕ) (o : Outcome (Turn (List MatchBranch))) → k ≢ Some m.Dedent → (do b ← match_branch tokens inner; give (On (sofar ++ b ∷ []))) at o → match_by tokens inner sofar k at o
    match_further_by sofar (Some m.Dedent) at o x h = absurd (x refl)
    match_further_by sofar _ at o x h = h

    pub match_further : (sofar : List MatchBranch) (at : ℕ) (o : Outcome (Turn (List MatchBranch))) → mark_at tokens at ≢ Some m.Dedent → (do b ← match_branch tokens inner; give (On (sofar ++ b ∷ []))) at o → Look (mark_at tokens) (match_by tokens inner sofar) at o
    match_further sofar at o x h = looks refl (match_further_by sofar (mark_at tokens at) at o x h)

    body_further_by : (sofar : List Stmt) (k : Option Mark) (at : ℕ) (o : Outcome (Turn (List Stmt))) → k ≢ Some m.Dedent → (do x ← stmt tokens inner; give (On (sofar ++ x ∷ []))) at o → body_by tokens inner sofar k at o
    body_further_by sofar (Some m.Dedent) at o x h = absurd (x refl)
    body_further_by sofar _ at o x h = h

    pub body_further : (sofar : List Stmt) (at : ℕ) (o : Outcome (Turn (List Stmt))) → mark_at tokens at ≢ Some m.Dedent → (do x ← stmt tokens inner; give (On (sofar ++ x ∷ []))) at o → Look (mark_at tokens) (body_by tokens inner sofar) at o
    body_further sofar at o x h = looks refl (body_further_by sofar (mark_at tokens at) at o x h)

    block_line_by : (k : Option Mark) (at : ℕ) (o : Outcome (List Stmt)) → k ≢ Some m.Newline → (line_block tokens) at o → block_by tokens inner k at o
    block_line_by (Some m.Newline) at o x h = absurd (x refl)
    block_line_by _ at o x h = h

    pub block_line : (at : ℕ) (o : Outcome (List Stmt)) → mark_at tokens at ≢ Some m.Newline → (line_block tokens) at o → Look (mark_at tokens) (block_by tokens inner) at o
    block_line at o x h = looks refl (block_line_by (mark_at tokens at) at o x h)

    stmt_line_by : (place : Place) (k : Option Mark) (at : ℕ) (o : Outcome Stmt) → k ≢ Some m.If → k ≢ Some m.For → k ≢ Some m.While → k ≢ Some m.Match → (line tokens) at o → stmt_by tokens inner place k at o
    stmt_line_by place (Some m.If) at o x y z w h = absurd (x refl)
    stmt_line_by place (Some m.For) at o x y z w h = absurd (y refl)
    stmt_line_by place (Some m.While) at o x y z w h = absurd (z refl)
    stmt_line_by place (Some m.Match) at o x y z w h = absurd (w refl)
    stmt_line_by place _ at o x y z w h = h

    pub stmt_line : (place : Place) (at : ℕ) (o : Outcome Stmt) → mark_at tokens at ≢ Some m.If → mark_at tokens at ≢ Some m.For → mark_at tokens at ≢ Some m.While → mark_at tokens at ≢ Some m.Match → (line tokens) at o → Look (mark_at tokens) (stmt_by tokens inner place) at o
    stmt_line place at o x y z w h = looks refl (stmt_line_by place (mark_at tokens at) at o x y z w h)

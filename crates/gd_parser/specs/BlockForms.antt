-- The readings of statements, where `room` further blocks may be open inside the one that has begun.
use Rattle.std.specs.Prelude.{ℕ, ◌<◌, ◌≤◌, Bool, List, length, Option, Result, IfOk}
use Rattle.std.specs.Borrow.{Bor}
use Rattle.std.specs.declared.alloc.Global.{Global}
use Rattle.gd_syntax.specs.declared.fault.Place.{Place}
use Rattle.gd_syntax.specs.declared.fault.SolveError.{SolveError}
use Rattle.gd_syntax.specs.declared.token.Token.{Token}
use Rattle.gd_syntax.specs.declared.token.Mark.TheVariants as m
use Rattle.gd_syntax.specs.declared.tree.expr.Expr.{Expr}
use Rattle.gd_syntax.specs.declared.tree.pattern.Pattern.{Pattern}
use Rattle.gd_syntax.specs.declared.tree.statement.Branch.{Branch}
use Rattle.gd_syntax.specs.declared.tree.statement.MatchBranch.{MatchBranch}
use Rattle.gd_syntax.specs.declared.tree.statement.Simple.{Simple}
use Rattle.gd_syntax.specs.declared.tree.statement.Simple.TheVariants as simply
use Rattle.gd_syntax.specs.declared.tree.statement.Stmt.{Stmt}
use Rattle.gd_syntax.specs.Reading.{Reading, ◌>>=◌, ◌>>◌, Read, Answers, give, Turn, Look}
use Rattle.gd_syntax.specs.declared.stops.Sought.TheVariants.{Other}
use Rattle.gd_syntax.specs.TokenReading.{IsEnded, mark_at, Due}
use Rattle.gd_syntax.specs.DeclarationGrammar.{is_ignore_word, expr, annots, const}
use Rattle.gd_syntax.specs.StatementGrammar as grammar

module _ (tokens : List Token) where
  -- a further pattern of a branch, where a `var` may stand in the first
  abbrev pub pats_turn : Bool → List Pattern → Reading (Turn (List Pattern))
  pats_turn bound sofar = Look (mark_at tokens) (grammar.pats_by tokens bound sofar)

  abbrev pub local_const : Place → Reading Simple
  local_const place = do c ← const tokens place; give (simply.Const c)

  -- annotations and the variable after them
  abbrev pub annotated : Place → Reading Simple
  annotated place = do before ← annots tokens is_ignore_word; Look (mark_at tokens) (grammar.annotated_by tokens place before)

  -- an expression and the `:` after it
  abbrev pub headed : Reading Expr
  headed = do x ← expr tokens; Due tokens Other m.Colon; give x

  -- what follows the first statement of a line
  abbrev pub line_turn : List Simple → Reading (Turn (List Simple))
  line_turn sofar = Look (mark_at tokens) (grammar.line_by tokens sofar)

  module _ (room : ℕ) where
    abbrev pub inner : Reading (List Stmt)
    inner = grammar.block tokens room

    abbrev pub branch : Reading Branch
    branch = grammar.branch tokens inner

    abbrev pub elif : List Branch → Reading (Turn (List Branch))
    elif sofar = Look (mark_at tokens) (grammar.elif_by tokens inner sofar)

    abbrev pub other : Reading (Option (List Stmt))
    other = Look (mark_at tokens) (grammar.else_by tokens inner)

    abbrev pub if_stmt : Place → Reading Stmt
    if_stmt = grammar.if_stmt tokens inner

    abbrev pub for_stmt : Place → Reading Stmt
    for_stmt = grammar.for_stmt tokens inner

    abbrev pub while_stmt : Place → Reading Stmt
    while_stmt = grammar.while_stmt tokens inner

    abbrev pub match_branch : Reading MatchBranch
    match_branch = grammar.match_branch tokens inner

    abbrev pub match_turn : List MatchBranch → Reading (Turn (List MatchBranch))
    match_turn sofar = Look (mark_at tokens) (grammar.match_by tokens inner sofar)

    abbrev pub match_stmt : Place → Reading Stmt
    match_stmt = grammar.match_stmt tokens inner

    abbrev pub stmt : Reading Stmt
    stmt = grammar.stmt tokens inner

    abbrev pub body_turn : List Stmt → Reading (Turn (List Stmt))
    body_turn sofar = Look (mark_at tokens) (grammar.body_by tokens inner sofar)

    abbrev pub form : Reading (List Stmt)
    form = Look (mark_at tokens) (grammar.block_by tokens inner)

-- It reads a block wherever at most so many more may be open.
pub record NestsBlocks (most : ℕ) (pre : Global → Bor (List Token) → ℕ → ℕ → Type 0)
    (post : Global → Bor (List Token) → ℕ → ℕ → Result (List Stmt × ℕ) SolveError → Type 0) : Type 0 where
  pub callable : (alloc : Global) (tokens : Bor (List Token)) (at room : ℕ) → room ≤ most → at < length tokens.now → IsEnded tokens.now → pre alloc tokens at room
  pub reads : (alloc : Global) (tokens : Bor (List Token)) (at room : ℕ) (r : Result (List Stmt × ℕ) SolveError) → post alloc tokens at room r
      → Answers (λ found. Read found.0 found.1) r (grammar.block tokens.now room at)
  pub within : (alloc : Global) (tokens : Bor (List Token)) (at room : ℕ) (r : Result (List Stmt × ℕ) SolveError) → post alloc tokens at room r
      → IfOk r (λ found. found.1 < length tokens.now)
  pub after : (alloc : Global) (tokens : Bor (List Token)) (at room : ℕ) (r : Result (List Stmt × ℕ) SolveError) → post alloc tokens at room r
      → IfOk r (λ found. at < found.1)

-- The grammar of statements and blocks.
use Rattle.std.specs.Prelude.{◌≡◌, ℕ, zero, suc, Bool, true, false, if◌then◌else◌, List, [], ◌∷◌, ◌++◌, Option, Some, None}
use Rattle.std.specs.List.{list_any}
use Rattle.gd_syntax.specs.declared.fault.Place.{Place}
use Rattle.gd_syntax.specs.declared.fault.FaultKind.TheVariants.{NestTooDeep}
use Rattle.gd_syntax.specs.declared.token.Token.{Token}
use Rattle.gd_syntax.specs.declared.token.Kind.{Kind}
use Rattle.gd_syntax.specs.declared.token.Kind.TheVariants.{Mark as Marked}
use Rattle.gd_syntax.specs.declared.token.Mark.{Mark}
use Rattle.gd_syntax.specs.declared.token.Mark.TheVariants as m
use Rattle.gd_syntax.specs.declared.tree.expr.Expr.{Expr}
use Rattle.gd_syntax.specs.declared.tree.expr.Expr.TheOpen.{Expr-F}
use Rattle.gd_syntax.specs.declared.tree.expr.Expr.TheFolds.{fold-Expr}
use Rattle.gd_syntax.specs.declared.tree.expr.Literal.{Literal}
use Rattle.gd_syntax.specs.declared.tree.pattern.Pattern.{Pattern}
use Rattle.gd_syntax.specs.declared.tree.pattern.Pattern.TheOpen.{Pattern-F, PatternEntry-F}
use Rattle.gd_syntax.specs.declared.tree.pattern.Pattern.TheFolds.{fold-Pattern}
use Rattle.gd_syntax.specs.declared.tree.pattern.Pattern.TheVariants as p
use Rattle.gd_syntax.specs.declared.tree.pattern.PatternEntry.{PatternEntry}
use Rattle.gd_syntax.specs.declared.tree.statement.AssignOp.{AssignOp}
use Rattle.gd_syntax.specs.declared.tree.statement.AssignOp.TheVariants as op
use Rattle.gd_syntax.specs.declared.tree.statement.Branch.{Branch}
use Rattle.gd_syntax.specs.declared.tree.statement.MatchBranch.{MatchBranch}
use Rattle.gd_syntax.specs.declared.tree.statement.Simple.{Simple}
use Rattle.gd_syntax.specs.declared.tree.statement.Simple.TheVariants as simply
use Rattle.gd_syntax.specs.declared.tree.statement.Stmt.{Stmt}
use Rattle.gd_syntax.specs.declared.tree.statement.Stmt.TheVariants as s
use Rattle.gd_syntax.specs.declared.tree.member.Annotation.{Annotation}
use Rattle.gd_syntax.specs.Reading.{Stops, Reading, ◌>>=◌, ◌>>◌, give, either, Look, Turn, On, Last, Loop}
use Rattle.gd_syntax.specs.declared.stops.Sought.TheVariants.{Other}
use Rattle.gd_syntax.specs.TokenReading.{max_levels, literal_of, kind_at, mark_at, place_at, fault_at, skip, refuse, refusal_at, Due}
use Rattle.gd_syntax.specs.PatternGrammar.{is_pattern, leaf_pattern, other_pattern_by, finished, pattern}
use Rattle.gd_syntax.specs.DeclarationGrammar.{is_ignore_word, expr, new_name, type_by, annots, var, const}

-- how many blocks are open at one place at most
abbrev pub max_blocks : ℕ
max_blocks = 128

-- ---- assignments

abbrev pub target_step : Expr-F Bool → Bool
target_step (Expr-F.Name place name) = true
target_step (Expr-F.Member place a name) = true
target_step (Expr-F.Index place a i) = true
target_step _ = false

-- whether a value may be assigned to the expression
unfoldable pub is_target : Expr → Bool
is_target = fold-Expr Bool target_step

-- the operator of an assignment
abbrev pub aop : Option Mark → Option AssignOp
aop (Some m.Assign) = Some op.Set
aop (Some m.PlusAssign) = Some op.Add
aop (Some m.MinusAssign) = Some op.Sub
aop (Some m.StarAssign) = Some op.Mul
aop (Some m.SlashAssign) = Some op.Div
aop (Some m.PercentAssign) = Some op.Rem
aop (Some m.AmpAssign) = Some op.BitAnd
aop (Some m.BarAssign) = Some op.BitOr
aop (Some m.CaretAssign) = Some op.BitXor
aop (Some m.ShiftLeftAssign) = Some op.Shl
aop (Some m.ShiftRightAssign) = Some op.Shr
aop _ = None

-- the operator that goes on an assignment to the expression
abbrev pub aop_after : Expr → Option Mark → Option AssignOp
aop_after x mark = if is_target x then aop mark else None

-- ---- the patterns of a branch

abbrev pub binds_step : Pattern-F Bool Bool → Bool
binds_step (Pattern-F.Bind place name) = true
binds_step (Pattern-F.Array place all unended) = list_any (λ b. b) all
binds_step (Pattern-F.Dict place all unended) = list_any (λ b. b) all
binds_step _ = false

abbrev pub binds_value : Option Bool → Bool
binds_value (Some b) = b
binds_value None = false

abbrev pub binds_entry : PatternEntry-F Bool Bool → Bool
binds_entry e = binds_value e.value

-- whether a `var` stands in the pattern
unfoldable pub binds : Pattern → Bool
binds = fold-Pattern Bool Bool binds_step binds_entry

abbrev pub value_binds : Option Pattern → Bool
value_binds (Some x) = binds x
value_binds None = false

-- whether one stands in the entry's pattern
abbrev pub entry_binds : PatternEntry → Bool
entry_binds entry = value_binds entry.value

-- whether a pattern without `var` begins with this token
abbrev pub is_unbound : Kind → Bool
is_unbound (Marked m.Var) = false
is_unbound kind = is_pattern kind

module _ (tokens : List Token) where
  -- ---- a pattern without `var`

  module _ (room : ℕ) (inner : Reading Pattern) where
    abbrev pub unbound_other_by : Place → Kind → Reading Pattern
    unbound_other_by place (Marked m.Var) = refuse tokens Other
    unbound_other_by place kind = other_pattern_by tokens room inner place kind

    abbrev pub unbound_by : Place → Option Literal → Reading Pattern
    unbound_by place (Some value) = leaf_pattern tokens room inner (p.Literal place false value)
    unbound_by place None = Look (kind_at tokens) (unbound_other_by place)

    abbrev pub unbound_form : Reading Pattern
    unbound_form = λ at. (do tree ← Look (λ to. literal_of (kind_at tokens to)) (unbound_by (place_at tokens at)); finished tokens room inner tree) at

  abbrev pub full_unbound : Reading Pattern
  full_unbound = λ at o. o ≡ Stops (if is_unbound (kind_at tokens at) then fault_at tokens NestTooDeep at else refusal_at tokens Other at)

  unfoldable pub unbound : ℕ → Reading Pattern
  unbound zero = full_unbound
  unbound (suc room) = unbound_form (suc room) (unbound room)

  -- a further pattern of a branch; none follows one with `var`, and none has one
  abbrev pub pats_by : Bool → List Pattern → Option Mark → Reading (Turn (List Pattern))
  pats_by bound sofar (Some m.Comma) = either bound (refuse tokens Other) (do skip tokens; x ← unbound max_levels; give (On (sofar ++ x ∷ [])))
  pats_by bound sofar _ = give (Last sofar)

  abbrev pub pats : Reading (List Pattern)
  pats = do
    first ← pattern tokens max_levels
    Loop (λ sofar. Look (mark_at tokens) (pats_by (binds first) sofar)) (first ∷ [])

  -- ---- simple statements

  -- a statement that is one token
  abbrev pub word : Simple → Reading Simple
  word tree = do skip tokens; give tree

  -- what follows `return`
  abbrev pub return_by : Place → Option Mark → Reading Simple
  return_by place (Some m.Newline) = give (simply.Return place None)
  return_by place (Some m.Semicolon) = give (simply.Return place None)
  return_by place _ = do x ← expr tokens; give (simply.Return place (Some x))

  -- the message of an `assert`
  abbrev pub message_by : Option Mark → Reading (Option Expr)
  message_by (Some m.Comma) = do skip tokens; x ← expr tokens; give (Some x)
  message_by _ = give None

  abbrev pub assertion : Place → Reading Simple
  assertion place = do
    skip tokens
    Due tokens Other m.LParen
    x ← expr tokens
    message ← Look (mark_at tokens) message_by
    Due tokens Other m.RParen
    give (simply.Assert place x message)

  -- an expression is the target of the `aop` that follows it
  abbrev pub assign_by : Place → Expr → Option AssignOp → Reading Simple
  assign_by place x (Some op) = do skip tokens; value ← expr tokens; give (simply.Assign place x op value)
  assign_by place x None = give (simply.Expr place x)

  abbrev pub assignment : Place → Reading Simple
  assignment place = do x ← expr tokens; Look (λ at. aop_after x (mark_at tokens at)) (assign_by place x)

  abbrev pub local_var : Place → List Annotation → Reading Simple
  local_var place before = do v ← var tokens place before; give (simply.Var v)

  -- a variable is due after annotations
  abbrev pub annotated_by : Place → List Annotation → Option Mark → Reading Simple
  annotated_by place before (Some m.Var) = local_var place before
  annotated_by place before _ = refuse tokens Other

  abbrev pub simple_by : Place → Option Mark → Reading Simple
  simple_by place (Some m.Pass) = word (simply.Pass place)
  simple_by place (Some m.Break) = word (simply.Break place)
  simple_by place (Some m.Continue) = word (simply.Continue place)
  simple_by place (Some m.Return) = do skip tokens; Look (mark_at tokens) (return_by place)
  simple_by place (Some m.Var) = local_var place []
  simple_by place (Some m.At) = do before ← annots tokens is_ignore_word; Look (mark_at tokens) (annotated_by place before)
  simple_by place (Some m.Const) = do c ← const tokens place; give (simply.Const c)
  simple_by place (Some m.Assert) = assertion place
  simple_by place _ = assignment place

  abbrev pub simple : Reading Simple
  simple = λ at. Look (mark_at tokens) (simple_by (place_at tokens at)) at

  -- after `;` the line may end
  abbrev pub parted_by : List Simple → Option Mark → Reading (Turn (List Simple))
  parted_by sofar (Some m.Newline) = give (Last sofar)
  parted_by sofar _ = do x ← simple; give (On (sofar ++ x ∷ []))

  abbrev pub line_by : List Simple → Option Mark → Reading (Turn (List Simple))
  line_by sofar (Some m.Semicolon) = do skip tokens; Look (mark_at tokens) (parted_by sofar)
  line_by sofar _ = give (Last sofar)

  -- the simple statements of a line, and its end
  abbrev pub line_form : Place → Reading Stmt
  line_form place = do
    first ← simple
    all ← Loop (λ sofar. Look (mark_at tokens) (line_by sofar)) (first ∷ [])
    Due tokens Other m.Newline
    give (s.Line place all)

  abbrev pub line : Reading Stmt
  line = λ at. line_form (place_at tokens at) at

  -- a line as a block
  abbrev pub line_block : Reading (List Stmt)
  line_block = do x ← line; give (x ∷ [])

  -- ---- statements

  -- `inner` reads a block inside the one that has begun.
  module _ (inner : Reading (List Stmt)) where
    -- a condition and its block, after the keyword
    abbrev pub branch : Reading Branch
    branch = λ at. (do
      skip tokens
      x ← expr tokens
      Due tokens Other m.Colon
      all ← inner
      give (record { place = place_at tokens at; condition = x; body = all })) at

    abbrev pub elif_by : List Branch → Option Mark → Reading (Turn (List Branch))
    elif_by sofar (Some m.Elif) = do b ← branch; give (On (sofar ++ b ∷ []))
    elif_by sofar _ = give (Last sofar)

    abbrev pub else_by : Option Mark → Reading (Option (List Stmt))
    else_by (Some m.Else) = do skip tokens; Due tokens Other m.Colon; body ← inner; give (Some body)
    else_by _ = give None

    abbrev pub if_stmt : Place → Reading Stmt
    if_stmt place = do
      first ← branch
      all ← Loop (λ sofar. Look (mark_at tokens) (elif_by sofar)) (first ∷ [])
      other ← Look (mark_at tokens) else_by
      give (s.If place all other)

    abbrev pub for_stmt : Place → Reading Stmt
    for_stmt place = do
      skip tokens
      name ← new_name tokens
      t ← Look (mark_at tokens) (type_by tokens Other)
      Due tokens Other m.In
      x ← expr tokens
      Due tokens Other m.Colon
      body ← inner
      give (s.For place name t x body)

    abbrev pub while_stmt : Place → Reading Stmt
    while_stmt place = do b ← branch; give (s.While place b.condition b.body)

    abbrev pub match_branch : Reading MatchBranch
    match_branch = do all ← pats; Due tokens Other m.Colon; block ← inner; give (record { patterns = all; body = block })

    abbrev pub match_by : List MatchBranch → Option Mark → Reading (Turn (List MatchBranch))
    match_by sofar (Some m.Dedent) = give (Last sofar)
    match_by sofar _ = do b ← match_branch; give (On (sofar ++ b ∷ []))

    abbrev pub match_stmt : Place → Reading Stmt
    match_stmt place = do
      skip tokens
      x ← expr tokens
      Due tokens Other m.Colon
      Due tokens Other m.Newline
      Due tokens Other m.Indent
      all ← Loop (λ sofar. Look (mark_at tokens) (match_by sofar)) []
      Due tokens Other m.Dedent
      give (s.Match place x all)

    abbrev pub stmt_by : Place → Option Mark → Reading Stmt
    stmt_by place (Some m.If) = if_stmt place
    stmt_by place (Some m.For) = for_stmt place
    stmt_by place (Some m.While) = while_stmt place
    stmt_by place (Some m.Match) = match_stmt place
    stmt_by place _ = line

    abbrev pub stmt : Reading Stmt
    stmt = λ at. Look (mark_at tokens) (stmt_by (place_at tokens at)) at

    abbrev pub body_by : List Stmt → Option Mark → Reading (Turn (List Stmt))
    body_by sofar (Some m.Dedent) = give (Last sofar)
    body_by sofar _ = do x ← stmt; give (On (sofar ++ x ∷ []))

    -- a block on the line of its `:`, or indented below it
    abbrev pub block_by : Option Mark → Reading (List Stmt)
    block_by (Some m.Newline) = do
      skip tokens
      Due tokens Other m.Indent
      all ← Loop (λ sofar. Look (mark_at tokens) (body_by sofar)) []
      Due tokens Other m.Dedent
      give all
    block_by _ = line_block

  -- where no further block or class may be open, it is too deep at its first token
  abbrev pub too_deep : {A : Type 0} → Reading A
  too_deep = λ at o. o ≡ Stops (fault_at tokens NestTooDeep at)

  -- a block, where so many more may be open
  unfoldable pub block : ℕ → Reading (List Stmt)
  block zero = too_deep
  block (suc room) = Look (mark_at tokens) (block_by (block room))

-- The grammar of expressions, one level per precedence.
use Rattle.std.specs.Prelude.{◌≡◌, ◌≢◌, ℕ, zero, suc, ◌+◌, ◌-◌, nat_le, ◌==◌, Bool, true, false, ◌||◌, if◌then◌else◌, List, [], ◌∷◌, ◌++◌, Option, Some, None}
use Rattle.gd_syntax.specs.declared.fault.Place.{Place}
use Rattle.gd_syntax.specs.declared.fault.FaultKind.TheVariants.{NestTooDeep}
use Rattle.gd_syntax.specs.declared.token.Token.{Token}
use Rattle.gd_syntax.specs.declared.token.Kind.{Kind}
use Rattle.gd_syntax.specs.declared.token.Kind.TheVariants.{Mark as Marked, Name, Text}
use Rattle.gd_syntax.specs.declared.token.Mark.{Mark}
use Rattle.gd_syntax.specs.declared.token.Mark.TheVariants as m
use Rattle.gd_syntax.specs.declared.tree.type_name.Identifier.{Identifier}
use Rattle.gd_syntax.specs.declared.tree.expr.Literal.{Literal}
use Rattle.gd_syntax.specs.declared.tree.expr.TreeOp.{TreeOp}
use Rattle.gd_syntax.specs.declared.tree.expr.TreeOp.TheVariants as op
use Rattle.gd_syntax.specs.declared.tree.expr.TreePrefix.{TreePrefix}
use Rattle.gd_syntax.specs.declared.tree.expr.Expr.{Expr}
use Rattle.gd_syntax.specs.declared.tree.expr.Expr.TheVariants as e
use Rattle.gd_syntax.specs.Levels.{levels}
use Rattle.gd_syntax.specs.Operators.{PREFIX, NOT, OR, TERNARY, AS, level_of, operator_of, prefix_of, is_not}
use Rattle.gd_syntax.specs.Reading.{Outcome, Read, Stops, Reading, ◌>>=◌, ◌>>◌, give, either, Look, Turn, On, Last, Loop}
use Rattle.gd_syntax.specs.declared.stops.Sought.TheVariants.{Operand, Node, LoadPath, Other}
use Rattle.gd_syntax.specs.Refusals.{is_load}
use Rattle.gd_syntax.specs.TokenReading.{any_name, plain_name, is_plain, literal_of, kind_at, mark_at, place_at, fault_at, skip, refuse, refusal_at, Due, OneOf, path_text, fits, list}
use Rattle.gd_syntax.specs.TypeGrammar.{type_name}

-- whether an operand begins with this token that is no literal
abbrev pub is_other_operand : Kind → Bool
is_other_operand (Name text) = is_plain text || is_load text
is_other_operand (Marked m.This) = true
is_other_operand (Marked m.LParen) = true
is_other_operand (Marked m.LBracket) = true
is_other_operand (Marked m.LBrace) = true
is_other_operand (Marked m.Preload) = true
is_other_operand (Marked m.Super) = true
is_other_operand (Marked m.Dollar) = true
is_other_operand _ = false

abbrev pub is_operand_by : Kind → Option Literal → Bool
is_operand_by kind (Some value) = true
is_operand_by kind None = is_other_operand kind

-- whether an operand begins with this token
abbrev pub is_operand : Kind → Bool
is_operand kind = is_operand_by kind (literal_of kind)

-- whether a form of at most this level begins with this token
abbrev pub begins : ℕ → Kind → Bool
begins n (Marked m.Tilde) = true
begins n (Marked m.Plus) = true
begins n (Marked m.Minus) = true
begins n (Marked m.Not) = nat_le NOT n
begins n (Marked m.Bang) = nat_le NOT n
begins n kind = is_operand kind

-- whether a further part of a postfix form begins with this token
abbrev pub is_part : Option Mark → Bool
is_part (Some m.LBracket) = true
is_part (Some m.Dot) = true
is_part (Some m.LParen) = true
is_part _ = false

-- whether the two tokens begin an entry `name = value`
abbrev pub is_field : Kind → Option Mark → Bool
is_field (Name text) (Some m.Assign) = is_plain text
is_field _ _ = false

-- whether the two tokens go on a node path
abbrev pub is_step : Option Mark → Option (List ℕ) → Bool
is_step (Some m.Slash) (Some name) = true
is_step _ _ = false

-- A form is read where there is room for one level at least, so a leaf always fits. `inner k n` reads a form of at most
-- the level n that is part of k + 1 forms which have begun here.
module _ (tokens : List Token) (room : ℕ) (inner : ℕ → ℕ → Reading Expr) where
  -- any expression, as a part of the form that has begun
  abbrev pub whole : Reading Expr
  whole = inner 0 AS

  abbrev pub leaf : Expr → Reading Expr
  leaf tree = do skip tokens; give tree

  -- ---- operands

  abbrev pub paren : Place → Reading Expr
  paren place = do fits tokens room 2; skip tokens; x ← whole; Due tokens Other m.RParen; give (e.Paren place x)

  abbrev pub array : Place → Reading Expr
  array place = do skip tokens; all ← list tokens whole m.RBracket; give (e.Array place all)

  -- `key: value`
  abbrev pub entry : Reading (Expr × Expr)
  entry = do key ← whole; Due tokens Other m.Colon; value ← whole; give (key, value)

  -- the name of an entry `name = value`, of which the value is still due
  abbrev pub field_name_by : Place → Option (List ℕ) → Reading Identifier
  field_name_by place (Some name) = do fits tokens room 2; skip tokens; give (record { place = place; name = name })
  field_name_by place None = refuse tokens Other

  abbrev pub field_name : Reading Identifier
  field_name = λ at. Look (λ to. plain_name (kind_at tokens to)) (field_name_by (place_at tokens at)) at

  -- `name = value`
  abbrev pub field : Reading (Identifier × Expr)
  field = do key ← field_name; Due tokens Other m.Assign; value ← whole; give (key, value)

  -- the entries are all of the sort of the first
  abbrev pub dict_by : Place → Bool → Reading Expr
  dict_by place true = do all ← list tokens field m.RBrace; give (e.Table place all)
  dict_by place false = do all ← list tokens entry m.RBrace; give (e.Dict place all)

  abbrev pub dict : Place → Reading Expr
  dict place = do skip tokens; Look (λ at. is_field (kind_at tokens at) (mark_at tokens (at + 1))) (dict_by place)

  abbrev pub preload : Place → Reading Expr
  preload place = do skip tokens; Due tokens Other m.LParen; path ← path_text tokens Other; Due tokens Other m.RParen; give (e.Preload place path)

  abbrev pub load : Place → Reading Expr
  load place = do skip tokens; Due tokens Other m.LParen; path ← path_text tokens LoadPath; Due tokens LoadPath m.RParen; give (e.Load place path)

  -- a further name of a node path
  abbrev pub step_by : List (List ℕ) → Bool → Reading (Turn (List (List ℕ)))
  step_by sofar true = do skip tokens; name ← OneOf tokens plain_name Other; give (On (sofar ++ name ∷ []))
  step_by sofar false = give (Last sofar)

  abbrev pub step : List (List ℕ) → Reading (Turn (List (List ℕ)))
  step sofar = Look (λ at. is_step (mark_at tokens at) (plain_name (kind_at tokens (at + 1)))) (step_by sofar)

  abbrev pub node_by : Place → Kind → Reading Expr
  node_by place (Text text) = leaf (e.NodeText place text)
  node_by place _ = do first ← OneOf tokens plain_name Node; names ← Loop step (first ∷ []); give (e.NodePath place names)

  abbrev pub node : Place → Reading Expr
  node place = do skip tokens; Look (kind_at tokens) (node_by place)

  -- what follows `super`
  abbrev pub super_by : Place → Option Mark → Reading Expr
  super_by place (Some m.LParen) = do skip tokens; args ← list tokens whole m.RParen; give (e.Super place args)
  super_by place (Some m.Dot) = do
    skip tokens
    name ← OneOf tokens any_name Other
    Due tokens Other m.LParen
    args ← list tokens whole m.RParen
    give (e.SuperCall place name args)
  super_by place _ = refuse tokens Other

  abbrev pub super : Place → Reading Expr
  super place = do skip tokens; Look (mark_at tokens) (super_by place)

  abbrev pub named : Place → List ℕ → Reading Expr
  named place text = either (is_plain text) (leaf (e.Name place text)) (either (is_load text) (load place) (refuse tokens Operand))

  -- an operand that is no literal
  abbrev pub other_by : Place → Kind → Reading Expr
  other_by place (Name text) = named place text
  other_by place (Marked m.This) = leaf (e.This place)
  other_by place (Marked m.LParen) = paren place
  other_by place (Marked m.LBracket) = array place
  other_by place (Marked m.LBrace) = dict place
  other_by place (Marked m.Preload) = preload place
  other_by place (Marked m.Super) = super place
  other_by place (Marked m.Dollar) = node place
  other_by place _ = refuse tokens Operand

  abbrev pub operand_by : Place → Option Literal → Reading Expr
  operand_by place (Some value) = leaf (e.Literal place value)
  operand_by place None = Look (kind_at tokens) (other_by place)

  abbrev pub operand : Reading Expr
  operand = λ at. Look (λ to. literal_of (kind_at tokens to)) (operand_by (place_at tokens at)) at

  -- ---- one level each. A form that goes on has the place of its first token, `place`, and what is read of it, `a`.

  -- a further part of a postfix form
  abbrev pub part_by : Place → Expr → Option Mark → Reading (Turn Expr)
  part_by place a (Some m.LBracket) = do fits tokens room (levels a + 1); skip tokens; i ← whole; Due tokens Other m.RBracket; give (On (e.Index place a i))
  part_by place a (Some m.Dot) = do fits tokens room (levels a + 1); skip tokens; name ← OneOf tokens any_name Other; give (On (e.Member place a name))
  part_by place a (Some m.LParen) = do fits tokens room (levels a + 1); skip tokens; args ← list tokens whole m.RParen; give (On (e.Call place a args))
  part_by place a _ = give (Last a)

  abbrev pub part : Place → Expr → Reading (Turn Expr)
  part place a = Look (mark_at tokens) (part_by place a)

  abbrev pub postfix : Reading Expr
  postfix = λ at. (do a ← operand; Loop (part (place_at tokens at)) a) at

  -- what follows `is`
  abbrev pub kind_test_by : Place → Expr → Option Mark → Reading (Turn Expr)
  kind_test_by place a (Some m.Not) = do skip tokens; t ← type_name tokens Other; give (On (e.IsNot place a t))
  kind_test_by place a _ = do t ← type_name tokens Other; give (On (e.Is place a t))

  abbrev pub test_by : Place → Expr → Option Mark → Reading (Turn Expr)
  test_by place a (Some m.Is) = do fits tokens room (levels a + 1); skip tokens; Look (mark_at tokens) (kind_test_by place a)
  test_by place a _ = give (Last a)

  abbrev pub test : Place → Expr → Reading (Turn Expr)
  test place a = Look (mark_at tokens) (test_by place a)

  -- the level `is`
  abbrev pub type_test : Reading Expr
  type_test = λ at. (do a ← postfix; Loop (test (place_at tokens at)) a) at

  abbrev pub prefix_by : Place → Option TreePrefix → Reading Expr
  prefix_by place (Some op) = do fits tokens room 2; skip tokens; x ← inner 0 PREFIX; give (e.Prefix place op x)
  prefix_by place None = type_test

  abbrev pub prefix : Reading Expr
  prefix = λ at. Look (λ to. prefix_of (mark_at tokens to)) (prefix_by (place_at tokens at)) at

  -- an operator of the level n and its right operand; without an operator of one token it is `not in`
  abbrev pub operation_by : ℕ → Place → Expr → Option TreeOp → Reading (Turn Expr)
  operation_by n place a (Some op) = do fits tokens room (levels a + 1); skip tokens; b ← inner 0 (n - 1); give (On (e.Binary place op a b))
  operation_by n place a None = do
    fits tokens room (levels a + 2)
    skip tokens
    Due tokens Other m.In
    b ← inner 1 (n - 1)
    give (On (e.Not place (e.Binary place op.Within a b)))

  abbrev pub operation : ℕ → Place → Expr → Reading (Turn Expr)
  operation n place a = Look (λ at. operator_of (mark_at tokens at)) (operation_by n place a)

  pub data BinaryTurn (n : ℕ) (place : Place) (a : Expr) : ℕ → Outcome (Turn Expr) → Type 0 where
    operated : {at : ℕ} {o : Outcome (Turn Expr)} → level_of (mark_at tokens at) ≡ n → operation n place a at o → BinaryTurn n place a at o
    ends : {at : ℕ} → level_of (mark_at tokens at) ≢ n → BinaryTurn n place a at (Read (Last a) at)

  abbrev pub binary : ℕ → Reading Expr → Reading Expr
  binary n tighter = λ at. (do a ← tighter; Loop (BinaryTurn n (place_at tokens at)) a) at

  abbrev pub negation_by : Place → Reading Expr → Bool → Reading Expr
  negation_by place tighter true = do fits tokens room 2; skip tokens; x ← inner 0 NOT; give (e.Not place x)
  negation_by place tighter false = tighter

  -- the level `not`
  abbrev pub negation : Reading Expr → Reading Expr
  negation tighter = λ at. Look (λ to. is_not (mark_at tokens to)) (negation_by (place_at tokens at) tighter) at

  -- the levels from prefix operators to `or`
  unfoldable pub level : ℕ → Reading Expr
  level zero = prefix
  level (suc n) = either (n == 8) (negation (level n)) (binary (suc n) (level n))

  abbrev pub ternary_by : Place → Expr → Option Mark → Reading Expr
  ternary_by place a (Some m.If) = do
    fits tokens room (levels a + 1)
    skip tokens
    c ← inner 0 OR
    Due tokens Other m.Else
    b ← inner 0 TERNARY
    give (e.Ternary place a c b)
  ternary_by place a _ = give a

  abbrev pub ternary : Reading Expr
  ternary = λ at. (do a ← level OR; Look (mark_at tokens) (ternary_by (place_at tokens at) a)) at

  abbrev pub cast_by : Place → Expr → Option Mark → Reading (Turn Expr)
  cast_by place a (Some m.As) = do fits tokens room (levels a + 1); skip tokens; t ← type_name tokens Other; give (On (e.As place a t))
  cast_by place a _ = give (Last a)

  -- the level `as`
  abbrev pub cast : Reading Expr
  cast = λ at. (do a ← ternary; Loop (λ b. Look (mark_at tokens) (cast_by (place_at tokens at) b)) a) at

  -- a form of at most this level
  unfoldable pub form : ℕ → Reading Expr
  form n = either (n == AS) cast (either (n == TERNARY) ternary (level n))

module _ (tokens : List Token) where
  -- Where no form may begin any more, a token that could begin one is too deep.
  abbrev pub full : ℕ → Reading Expr
  full n = λ at o. o ≡ Stops (if begins n (kind_at tokens at) then fault_at tokens NestTooDeep at else refusal_at tokens Operand at)

  -- a form of at most the level n that is part of k further forms, where there is room for so many levels
  unfoldable pub deeper : ℕ → ℕ → ℕ → Reading Expr
  deeper zero k n = full n
  deeper (suc room) zero n = form tokens (suc room) (deeper room) n
  deeper (suc room) (suc k) n = deeper room k n

  -- an expression of at most this level, where there is room for so many levels
  abbrev pub expression : ℕ → ℕ → Reading Expr
  expression room n = deeper room 0 n

-- The readings of the grammar, where a part of a form is an expression with one form more open round it.
use Rattle.std.specs.Prelude.{ℕ, ◌+◌, ◌-◌, List}
use Rattle.gd_syntax.specs.declared.fault.Place.{Place}
use Rattle.gd_syntax.specs.declared.token.Token.{Token}
use Rattle.gd_syntax.specs.declared.token.Mark.{Mark}
use Rattle.gd_syntax.specs.declared.tree.type_name.Identifier.{Identifier}
use Rattle.gd_syntax.specs.declared.tree.expr.Expr.{Expr}
use Rattle.gd_syntax.specs.Operators.{AS}
use Rattle.gd_syntax.specs.Reading.{Reading, Turn, Look, Loop}
use Rattle.gd_syntax.specs.TokenReading.{kind_at, mark_at, place_at, Item}
use Rattle.gd_syntax.specs.TokenReading as tokenwise
use Rattle.gd_syntax.specs.ExprGrammar as grammar

module _ (tokens : List Token) (room : ℕ) where
  abbrev pub inner : ℕ → ℕ → Reading Expr
  inner = grammar.deeper tokens (room - 1)

  abbrev pub entry : Reading (Expr × Expr)
  entry = grammar.entry tokens room inner

  abbrev pub field_name : Reading Identifier
  field_name = grammar.field_name tokens room inner

  abbrev pub field : Reading (Identifier × Expr)
  field = grammar.field tokens room inner

  -- ---- lists, where what is named `.._before` ends before the closing bracket

  abbrev pub args : Mark → Reading (List Expr)
  args closing = tokenwise.list tokens (inner 0 AS) closing

  abbrev pub args_before : Mark → List Expr → Reading (List Expr)
  args_before closing = Loop (Item tokens (inner 0 AS) closing)

  abbrev pub entries : Mark → Reading (List (Expr × Expr))
  entries closing = tokenwise.list tokens entry closing

  abbrev pub entries_before : Mark → List (Expr × Expr) → Reading (List (Expr × Expr))
  entries_before closing = Loop (Item tokens entry closing)

  abbrev pub fields : Mark → Reading (List (Identifier × Expr))
  fields closing = tokenwise.list tokens field closing

  abbrev pub fields_before : Mark → List (Identifier × Expr) → Reading (List (Identifier × Expr))
  fields_before closing = Loop (Item tokens field closing)

  -- ---- operands

  -- an operand that is no literal
  abbrev pub other : Reading Expr
  other = λ at. Look (kind_at tokens) (grammar.other_by tokens room inner (place_at tokens at)) at

  abbrev pub after_brace : Place → Reading Expr
  after_brace place = Look (λ at. grammar.is_field (kind_at tokens at) (mark_at tokens (at + 1))) (grammar.dict_by tokens room inner place)

  abbrev pub after_super : Place → Reading Expr
  after_super place = Look (mark_at tokens) (grammar.super_by tokens room inner place)

  abbrev pub step : List (List ℕ) → Reading (Turn (List (List ℕ)))
  step = grammar.step tokens room inner

  abbrev pub after_dollar : Place → Reading Expr
  after_dollar place = Look (kind_at tokens) (grammar.node_by tokens room inner place)

  abbrev pub operand : Reading Expr
  operand = grammar.operand tokens room inner

  -- ---- levels

  abbrev pub part : Place → Expr → Reading (Turn Expr)
  part = grammar.part tokens room inner

  abbrev pub postfix : Reading Expr
  postfix = grammar.postfix tokens room inner

  abbrev pub kind_test : Place → Expr → Reading (Turn Expr)
  kind_test place a = Look (mark_at tokens) (grammar.kind_test_by tokens room inner place a)

  abbrev pub test : Place → Expr → Reading (Turn Expr)
  test = grammar.test tokens room inner

  abbrev pub type_test : Reading Expr
  type_test = grammar.type_test tokens room inner

  abbrev pub prefix : Reading Expr
  prefix = grammar.prefix tokens room inner

  abbrev pub operation : ℕ → Place → Expr → Reading (Turn Expr)
  operation = grammar.operation tokens room inner

  abbrev pub binary_turn : ℕ → Place → Expr → Reading (Turn Expr)
  binary_turn = grammar.BinaryTurn tokens room inner

  abbrev pub level : ℕ → Reading Expr
  level = grammar.level tokens room inner

  abbrev pub ternary : Reading Expr
  ternary = grammar.ternary tokens room inner

  abbrev pub cast_turn : Place → Expr → Reading (Turn Expr)
  cast_turn place a = Look (mark_at tokens) (grammar.cast_by tokens room inner place a)

  abbrev pub cast : Reading Expr
  cast = grammar.cast tokens room inner

  abbrev pub form : ℕ → Reading Expr
  form = grammar.form tokens room inner

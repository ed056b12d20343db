-- What statements do.
use Rattle.std.specs.Prelude.{ℕ, zero, suc, ◌+◌, ℤ, ◌+ℤ◌, Bool, true, false, if◌then◌else◌, List, [], ◌∷◌, ◌++◌, map, take, length, slice_get, bytes_eq, encode_utf8_all, Option, Some, None, option_map, Result, Ok, Err}
use Rattle.std.specs.Char.{encode_utf8}
use Rattle.folder_meaning.specs.declared.script_type.ScriptType.{ScriptType}
use Rattle.folder_meaning.specs.declared.script_type.ScriptType.TheVariants.{Variant}
use Rattle.gd_syntax.specs.declared.fault.Place.{Place}
use Rattle.gd_syntax.specs.declared.tree.expr.Expr.{Expr}
use Rattle.gd_syntax.specs.declared.tree.expr.TreeOp.{TreeOp}
use Rattle.gd_syntax.specs.declared.tree.expr.TreeOp.TheVariants as op
use Rattle.gd_syntax.specs.declared.tree.statement.AssignOp.{AssignOp}
use Rattle.gd_syntax.specs.declared.tree.statement.AssignOp.TheVariants as assign
use Rattle.gd_syntax.specs.declared.tree.statement.Simple.{Simple}
use Rattle.gd_syntax.specs.declared.tree.statement.Simple.TheVariants as simply
use Rattle.gd_syntax.specs.declared.tree.statement.Stmt.{Stmt}
use Rattle.gd_syntax.specs.declared.tree.statement.Stmt.TheOpen.{Stmt-F, Branch-F, MatchBranch-F}
use Rattle.gd_syntax.specs.declared.tree.statement.Stmt.TheFolds.{fold-Stmt}
use Rattle.gd_syntax.specs.declared.tree.type_name.Declared.{Declared}
use Rattle.gd_syntax.specs.declared.tree.type_name.Declared.TheVariants as declared
use Rattle.gd_syntax.specs.declared.tree.type_name.Identifier.{Identifier}
use Rattle.variant_values.specs.declared.cells.Cell.{Cell}
use Rattle.variant_values.specs.declared.classes.ClassTag.{ClassTag}
use Rattle.variant_values.specs.declared.faults.RunFault.TheVariants.{NullAccess, FreedAccess, NoMember, BadType, AssertFailed}
use Rattle.variant_values.specs.declared.values.Serial.{Serial}
use Rattle.variant_values.specs.declared.values.Value.{Value}
use Rattle.variant_values.specs.declared.values.Value.TheVariants.{Null, Int, Str, Dict, Object}
use Rattle.variant_values.specs.Changes.{Done, weighed}
use Rattle.variant_values.specs.Heaps.{cell_at, items_of, with_field}
use Rattle.variant_values.specs.Indexing.{index_of, index_put}
use Rattle.script_meaning.specs.State.{Local, opens, opens_constant, World, Frame, frame_with, Spot, Stop, Failed, Spent, ◌>>=◌, and_then, step, sweep, with_heap, received}
use Rattle.script_meaning.specs.Projects.{Project, Field, Meant, AField, member_meant}
use Rattle.script_meaning.specs.Meanings.{Around, Here, Moment, Site, site_of, Given-to, Means, Target, ToName, ToMember, ToIndex, Walk, Numbers, Items, Characters, heap_at, gives, gives_by, gives_then, fails}
use Rattle.script_meaning.specs.Types.{fits_at_run, default_of}
use Rattle.script_meaning.specs.Members.{local_of, class_in, name_value, member_of}
use Rattle.script_meaning.specs.Exprs.{truth_of, applied, expr}
use Rattle.script_meaning.specs.Patterns.{Matched, Matches, any_matches, pattern}

-- Between two units a frame holds nothing but its locals.
pub record Now : Type 0 where
  pub locals : List Local
  pub world : World

-- Where a statement leads.
pub data Flow : Type 0 where
  Next : (now : Now) → Flow
  Broke : (now : Now) → Flow
  Continued : (now : Now) → Flow
  -- the value is held by the calling frame
  Returned : (value : Value) (now : Now) → Flow

-- a statement may stop in a fault or for want of a step
abbrev pub Flowing : Type 0
Flowing = Result Flow Stop

-- What a statement does.
abbrev pub Runs : Type 0
Runs = Around → Now → Flowing

-- ---- units and blocks

-- At the end of a unit or a block: what the frame held beside its locals is dropped, and the sweep is done.
abbrev pub settled : List Frame → Around → List Local → World → Now
settled outer a locals w = record { locals = locals; world = sweep (outer ++ frame_with a.self locals [] ∷ []) w }

-- at a block's end the locals that it opened are dropped
abbrev pub cut : List Frame → Around → ℕ → Now → Now
cut outer a n s = settled outer a (take n s.locals) s.world

-- A block ends, wherever it leads; n locals were open before it. A returned value is held by the calling frame meanwhile.
abbrev pub close : Around → ℕ → Flow → Flow
close a n (Next s) = Next (cut a.outer a n s)
close a n (Broke s) = Broke (cut a.outer a n s)
close a n (Continued s) = Continued (cut a.outer a n s)
close a n (Returned v s) = Returned v (cut (received v a.outer) a n s)

-- what comes next is done where a statement ended in the ordinary way
abbrev pub and_go : (Now → Flowing) → Flow → Flowing
and_go go (Next s) = go s
and_go go (Broke s) = Ok (Broke s)
and_go go (Continued s) = Ok (Continued s)
and_go go (Returned v s) = Ok (Returned v s)

-- statements, one after the other
abbrev pub sequence : List Runs → Runs
sequence [] a s = Ok (Next s)
sequence (t ∷ ts) a s = do
  flow ← t a s
  and_go (sequence ts a) flow

-- a block in which these locals are open from the start
abbrev pub block_with : List Local → List Runs → Runs
block_with new ts a s = do
  flow ← sequence ts a (record s { locals = s.locals ++ new })
  Ok (close a (length s.locals) flow)

-- a block that opens no locals of its own
abbrev pub block : List Runs → Runs
block ts a s = block_with [] ts a s

-- one of two ways on
abbrev pub choose : Bool → (Now → Flowing) → (Now → Flowing) → Now → Flowing
choose true a b s = a s
choose false a b s = b s

-- the block of `else`
abbrev pub otherwise : Option (List Runs) → Runs
otherwise None a s = Ok (Next s)
otherwise (Some body) a s = block body a s

-- ---- loops

-- where a turn of a loop leads
abbrev pub next_turn : (Now → Flowing) → Flow → Flowing
next_turn more (Next s) = more s
next_turn more (Continued s) = more s
next_turn more (Broke s) = Ok (Next s)
next_turn more (Returned v s) = Ok (Returned v s)

-- what a walk gives next, and what it has to give then
abbrev pub item_walked : Serial → ℕ → Option Value → Option (Value × Walk)
item_walked of i None = None
item_walked of i (Some v) = Some (v, Items of (i + 1))

-- the next whole number, of which so many are left
abbrev pub number_walked : ℤ → ℤ → ℕ → Option (Value × Walk)
number_walked n by zero = None
number_walked n by (suc left) = Some (Int n, Numbers (record { first = n +ℤ by; count = left; by = by }))

-- the length of an array is read at each test
abbrev pub next_of : List (Option Cell) → Walk → Option (Value × Walk)
next_of cells (Numbers span) = number_walked span.first span.by span.count
next_of cells (Items of i) = item_walked of i (slice_get (items_of (cell_at cells of.0)) i)
next_of cells (Characters []) = None
next_of cells (Characters (c ∷ cs)) = Some (Str (encode_utf8 c), Characters cs)

-- a turn, where the walk gives a value
abbrev pub turn_by : (Value → Walk → Now → Flowing) → Option (Value × Walk) → Now → Flowing
turn_by turn None s = Ok (Next s)
turn_by turn (Some (v, walk)) s = turn v walk s

-- one turn of a `for`: its variable is opened, and goes at the end of the turn
abbrev pub turn_of : Around → Result (List Local) Stop → List Runs → (Now → Flowing) → Now → Flowing
turn_of a opening body more now = do
  new ← opening
  flow ← block_with new body a now
  next_turn more flow

-- The turns of a `for`, of which there are no more than steps are left. Each begins with a step.
abbrev pub walked : Around → Spot → (Value → World → Result (List Local) Stop) → List Runs → ℕ → Walk → Now → Flowing
walked a spot opening body zero walk s = Err (Spent spot s.world)
walked a spot opening body (suc left) walk s =
    let more : Walk → Now → Flowing = walked a spot opening body left in
    and_then (step spot s.world) (λ w. turn_by (λ v rest now. turn_of a (opening v now.world) body (more rest) now) (next_of w.cells walk) (record s { world = w }))

-- The turns of a `while`, of which there are no more than steps are left. Each begins with a step.
abbrev pub turns : Around → Spot → (World → Now → (Bool → Now → Flowing) → Flowing) → List Runs → ℕ → Now → Flowing
turns a spot tested body zero s = Err (Spent spot s.world)
turns a spot tested body (suc left) s =
    let more : Now → Flowing = turns a spot tested body left in
    and_then (step spot s.world) (λ w. tested w s (λ goes_on now. choose goes_on (λ at. and_then (block body a at) (next_turn more)) (λ at. Ok (Next at)) now))

-- ---- values that are received

-- where something with a declared type receives a value of another type
abbrev pub admits : Bool → Spot → World → Result (Unit {0}) Stop
admits true spot w = Ok tt
admits false spot w = Err (Failed BadType spot w)

-- ---- assignments

-- What an assignment leaves.
abbrev pub Stored : Type 0
Stored = Result (List Local × World) Stop

-- the world after a change of the heap
abbrev pub stored : Done → Site → Moment → Result World Stop
stored (Ok (x, heap)) at m = Ok (with_heap m.world heap)
stored (Err kind) at m = fails kind at m

-- what an assignment leaves that changes no local
abbrev pub with_locals : List Local → Result World Stop → Stored
with_locals locals (Ok w) = Ok (locals, w)
with_locals locals (Err stop) = Err stop

-- the locals with another value of the one of that name
abbrev pub set_local : List Local → List ℕ → Value → List Local
set_local [] name v = []
set_local (l ∷ ls) name v = if bytes_eq l.name name then record l { value = v } ∷ ls else l ∷ set_local ls name v

-- a field by its place, and its type
abbrev pub field_meant : List Field → Option Meant → Option (ℕ × ScriptType)
field_meant fields (Some (AField i)) = option_map (λ f. (i, f.type)) (slice_get fields i)
field_meant fields meant = None

-- the operator before `=`; with `=` alone none is applied
abbrev pub assign_op : AssignOp → TreeOp
assign_op assign.Set = op.Add
assign_op assign.Add = op.Add
assign_op assign.Sub = op.Sub
assign_op assign.Mul = op.Mul
assign_op assign.Div = op.Div
assign_op assign.Rem = op.Rem
assign_op assign.BitAnd = op.BitAnd
assign_op assign.BitOr = op.BitOr
assign_op assign.BitXor = op.BitXor
assign_op assign.Shl = op.Shl
assign_op assign.Shr = op.Shr

-- ---- parts of statements

-- the value of a declaration, where there is one
abbrev pub initial : Declared → Option Expr
initial (declared.Typed type_name value) = value
initial (declared.Inferred value) = Some value

-- a unit of a frame begins
abbrev pub start : Now → Moment
start s = record { held = []; world = s.world }

-- the value of an expression that may be missing, which is null then
abbrev pub value_or_null : Option Means → Given-to Value
value_or_null (Some e) h m = e.value h m
value_or_null None h m = gives Null m

-- the message is evaluated before the condition is judged
abbrev pub asserted : Means → Option Means → Given-to Value
asserted c message h m = do
  x ← c.value h m
  y ← value_or_null message h x.1
  elim (truth_of x.0 y.1) [ true ↦ Ok (Null, y.1) | false ↦ fails AssertFailed (site_of h) y.1 ]

-- a returned value is held by the calling frame before the unit of its `return` ends
abbrev pub returned : Around → Value → Now → Flow
returned a v s = Returned v (settled (received v a.outer) a s.locals s.world)

-- the locals of `for` and `match` that have no name
abbrev pub hidden : List Value → List Local
hidden vs = map (λ v. record { name = []; type = Variant; constant = None; value = v }) vs

-- A branch of an `if`: the place of its word, its condition and its block.
pub record BranchRuns : Type 0 where
  pub place : Place
  pub condition : Means
  pub body : List Runs

-- A branch of a `match`: its patterns and its block.
pub record MatchRuns : Type 0 where
  pub patterns : List Matches
  pub body : List Runs

-- the branch that runs, and what its patterns bind
abbrev pub Picked : Type 0
Picked = Option (List Local × List Runs)

-- where a branch did not match, the others are tried
abbrev pub pick_by : Matched → List Runs → Given-to Picked → Given-to Picked
pick_by (Some ls) body rest h m = Ok (Some (ls, body), m)
pick_by None body rest h m = rest h m

-- the first branch that matches is picked
abbrev pub picked : List MatchRuns → Value → Given-to Picked
picked [] v h m = Ok (None, m)
picked (b ∷ bs) v h m = do
  x ← any_matches b.patterns v h m
  pick_by x.0 b.body (picked bs v) h x.1

-- the unit of the head ends, and the block of the branch runs with what its patterns bind
abbrev pub run_picked : Picked → Around → List Local → World → Flowing
run_picked None a locals w = Ok (Next (settled a.outer a locals w))
run_picked (Some (ls, body)) a locals w = do
  flow ← sequence body a (settled a.outer a (locals ++ ls) w)
  Ok (close a (length locals) flow)

module _ (project : Project) where
  -- a line of the file of the class in whose code the frame is
  abbrev pub spot_at : Around → ℕ → Spot
  spot_at a line = record { file = project.file a.class; line = line }

  -- the unit at a line
  abbrev pub unit_at : Around → ℕ → Now → Here
  unit_at a line s = record { around = a; spot = spot_at a line; locals = s.locals }

  -- what is done in a unit that begins with a step
  abbrev pub begun : {A : Type 0} → Around → ℕ → Now → (Here → Moment → Result A Stop) → Result A Stop
  begun a line s go = do
    w ← step (spot_at a line) s.world
    go (unit_at a line s) (record { held = []; world = w })

  -- ---- values that are received

  -- A value that something with a declared type receives is checked, unless it surely fits.
  abbrev pub received_by : Bool → ScriptType → Value → Spot → World → Result (Unit {0}) Stop
  received_by true type v spot w = Ok tt
  received_by false type v spot w = admits (fits_at_run w.cells type v) spot w

  -- the same of the value of the expression at a place
  abbrev pub receives : ScriptType → Place → Value → Here → Moment → Result (Unit {0}) Stop
  receives type place v h m = received_by (project.fits_at h.around.class place) type v h.spot m.world

  -- an expression whose value something with a declared type receives
  abbrev pub received_value : ScriptType → Means → Given-to Value
  received_value type e h m = do
    x ← e.value h m
    fits ← receives type e.place x.0 h x.1
    Ok x

  -- what a variable is declared with: its initialiser, or the default of its type
  abbrev pub declared_value : ScriptType → Option Means → Given-to Value
  declared_value type (Some e) h m = received_value type e h m
  declared_value type None h m = gives_then (default_of type (heap_at (site_of h) m)) (site_of h) m

  -- what a function returns; without a value it is null
  abbrev pub returned_value : ScriptType → Option Means → Given-to Value
  returned_value type (Some e) h m = received_value type e h m
  returned_value type None h m = gives Null m

  -- the variable of a turn of a `for`, whose value is checked where the variable has a type
  abbrev pub turn_opens : Around → Spot → List ℕ → ScriptType → Place → Value → World → Result (List Local) Stop
  turn_opens a spot name type subject v w = do
    fits ← received_by (project.fits_at a.class subject) type v spot w
    Ok (opens name type v)

  -- ---- assignments

  -- a field of an object, by its place among all of them and its type
  abbrev pub put_field : Value → Option (ℕ × ScriptType) → Bool → Value → Site → Moment → Result World Stop
  put_field (Object s) (Some (i, type)) fits v at m = do
    taken ← received_by fits type v at.spot m.world
    stored (weighed (with_field (heap_at at m) s.0 i v) tt) at m
  put_field of place fits v at m = fails NoMember at m

  -- a member of an object that lives, or has gone
  abbrev pub put_in_object : Option ClassTag → Value → List ℕ → Bool → Value → Site → Moment → Result World Stop
  put_in_object None of name fits v at m = fails FreedAccess at m
  put_in_object (Some class) of name fits v at m = put_field of (field_meant (project.fields class) (member_meant project class name)) fits v at m

  -- `v.name = ..`, which of a dictionary is the value of a key
  abbrev pub put_member : Value → List ℕ → Bool → Value → Site → Moment → Result World Stop
  put_member Null name fits v at m = fails NullAccess at m
  put_member (Dict s) name fits v at m = stored (index_put (heap_at at m) (Dict s) (Str (encode_utf8_all name)) v) at m
  put_member (Object s) name fits v at m = put_in_object (class_in m (Object s)) (Object s) name fits v at m
  put_member of name fits v at m = fails NoMember at m

  -- `v[w] = ..`, which variant values define
  abbrev pub put_index : Value → Value → Value → Site → Moment → Result World Stop
  put_index of index v at m = stored (index_put (heap_at at m) of index v) at m

  -- a plain name that is no local is a field of `self`
  abbrev pub put_own : Option Meant → Bool → Value → Site → Moment → Result World Stop
  put_own meant fits v at m = put_field at.self (field_meant (project.fields at.class) meant) fits v at m

  -- `name = ..`: a local, or else a field
  abbrev pub put_name : Option Local → List ℕ → Bool → Value → Here → Moment → Stored
  put_name (Some l) name fits v h m = do
    taken ← received_by fits l.type v h.spot m.world
    Ok (set_local h.locals name v, m.world)
  put_name None name fits v h m = with_locals h.locals (put_own (member_meant project h.around.class name) fits v (site_of h) m)

  -- what the target names is set, after all parts were evaluated
  abbrev pub put : Target → Bool → Value → Here → Moment → Stored
  put (ToName name) fits v h m = put_name (local_of h.locals name) name fits v h m
  put (ToMember of name) fits v h m = with_locals h.locals (put_member of name fits v (site_of h) m)
  put (ToIndex of index) fits v h m = with_locals h.locals (put_index of index v (site_of h) m)

  -- the value of a target before
  abbrev pub old_value : Target → Given-to Value
  old_value (ToName name) h m = name_value project name h m
  old_value (ToMember of name) h m = member_of project of name (site_of h) m
  old_value (ToIndex of index) h m = gives_by (index_of m.world.cells of index) (site_of h) m

  -- what is to be stored: with an operator the old value is read before the right side
  abbrev pub new_value : AssignOp → Target → Means → Given-to Value
  new_value assign.Set target e h m = e.value h m
  new_value op target e h m = do
    x ← old_value target h m
    y ← e.value h x.1
    applied project (assign_op op) x.0 y.0 (site_of h) y.1

  -- the parts of the target, then its old value for an operator, then the right side, and then it is stored
  abbrev pub assigned : Means → AssignOp → Means → Here → Moment → Stored
  assigned to op e h m = do
    t ← to.target h m
    x ← new_value op t.0 e h t.1
    put t.0 (project.fits_at h.around.class e.place) x.0 h x.1

  -- ---- simple statements, at a line

  -- `pass`
  abbrev pub run_pass : ℕ → Runs
  run_pass line a s = begun a line s λ h m. Ok (Next (settled a.outer a s.locals m.world))

  -- `break`: the innermost loop ends
  abbrev pub run_break : ℕ → Runs
  run_break line a s = begun a line s λ h m. Ok (Broke (settled a.outer a s.locals m.world))

  -- `continue`: its next turn begins
  abbrev pub run_continue : ℕ → Runs
  run_continue line a s = begun a line s λ h m. Ok (Continued (settled a.outer a s.locals m.world))

  -- `return`: its value is checked against the type that the function declares for its result
  abbrev pub run_return : ℕ → Option Means → Runs
  run_return line e a s = begun a line s λ h m. do
    x ← returned_value a.result e h m
    Ok (returned a x.0 (record s { world = x.1.world }))

  -- a local variable is open from the end of its unit on
  abbrev pub run_var : ℕ → Identifier → Option Means → Runs
  run_var line name e a s = begun a line s λ h m. do
    x ← declared_value (project.type_at a.class name.place) e h m
    Ok (Next (settled a.outer a (s.locals ++ opens name.name (project.type_at a.class name.place) x.0) x.1.world))

  -- A local constant is made anew at each read, and not by its declaration.
  abbrev pub run_const : ℕ → Identifier → Runs
  run_const line name a s = begun a line s λ h m. Ok (Next (settled a.outer a (s.locals ++ opens_constant name.name (project.constant_at a.class name.place)) m.world))

  -- `assert`
  abbrev pub run_assert : ℕ → Means → Option Means → Runs
  run_assert line c message a s = begun a line s λ h m. do
    x ← asserted c message h m
    Ok (Next (settled a.outer a s.locals x.1.world))

  -- an assignment
  abbrev pub run_assign : ℕ → Means → AssignOp → Means → Runs
  run_assign line to op e a s = begun a line s λ h m. do
    x ← assigned to op e h m
    Ok (Next (settled a.outer a x.0 x.1))

  -- an expression, whose value is dropped
  abbrev pub run_expr : ℕ → Means → Runs
  run_expr line e a s = begun a line s λ h m. do
    x ← e.value h m
    Ok (Next (settled a.outer a s.locals x.1.world))

  -- ---- statements with blocks, at a line

  -- the unit of a test, which has its step behind it
  abbrev pub tested : Around → ℕ → Means → World → Now → (Bool → Now → Flowing) → Flowing
  tested a line c w s go = do
    x ← c.value (unit_at a line s) (record { held = []; world = w })
    go (truth_of x.0 x.1) (settled a.outer a s.locals x.1.world)

  -- each branch is tested at its own line, and without a step
  abbrev pub branches : List BranchRuns → Option (List Runs) → Runs
  branches [] other a s = otherwise other a s
  branches (b ∷ bs) other a s = tested a b.place.line b.condition s.world s λ holds now. choose holds (block b.body a) (branches bs other a) now

  -- `if` begins with the one step of the statement
  abbrev pub run_if : ℕ → List BranchRuns → Option (List Runs) → Runs
  run_if line all other a s = begun a line s λ h m. branches all other a (record s { world = m.world })

  -- `while` begins with a step, and each test takes one more
  abbrev pub run_while : ℕ → Means → List Runs → Runs
  run_while line c body a s = begun a line s λ h m. turns a h.spot (tested a line c) body m.world.left (record s { world = m.world })

  -- what is walked stands in locals without a name until the statement ends
  abbrev pub run_for : ℕ → Identifier → Means → List Runs → Runs
  run_for line name subject body a s = begun a line s λ h m. do
    x ← subject.walk h m
    flow ← walked a h.spot (turn_opens a h.spot name.name (project.type_at a.class name.place) subject.place) body x.1.world.left x.0.0 (settled a.outer a (s.locals ++ hidden x.0.1) x.1.world)
    Ok (close a (length s.locals) flow)

  -- the subject stands in a local without a name, and the patterns belong to the unit of the head
  abbrev pub run_match : ℕ → Means → List MatchRuns → Runs
  run_match line subject all a s = begun a line s λ h m. do
    x ← subject.value h m
    y ← picked all x.0 h x.1
    flow ← run_picked y.0 a (s.locals ++ hidden (x.0 ∷ [])) y.1.world
    Ok (close a (length s.locals) flow)

  -- ---- trees

  -- what an expression means in this project
  abbrev pub expr_of : Expr → Means
  expr_of e = expr project e

  -- a statement that opens no block
  abbrev pub simple : Simple → Runs
  simple (simply.Pass place) = run_pass place.line
  simple (simply.Break place) = run_break place.line
  simple (simply.Continue place) = run_continue place.line
  simple (simply.Return place e) = run_return place.line (option_map expr_of e)
  simple (simply.Var v) = run_var v.place.line v.name (option_map expr_of (initial v.declared))
  simple (simply.Const c) = run_const c.place.line c.name
  simple (simply.Assert place c message) = run_assert place.line (expr_of c) (option_map expr_of message)
  simple (simply.Assign place to op e) = run_assign place.line (expr_of to) op (expr_of e)
  simple (simply.Expr place e) = run_expr place.line (expr_of e)

  -- a branch of an `if`, over the meanings of the statements in it
  abbrev pub branch_step : Branch-F Runs BranchRuns MatchRuns → BranchRuns
  branch_step b = record { place = b.place; condition = expr_of b.condition; body = b.body }

  -- a branch of a `match`, over the meanings of the statements in it
  abbrev pub match_step : MatchBranch-F Runs BranchRuns MatchRuns → MatchRuns
  match_step b = record { patterns = map (pattern project) b.patterns; body = b.body }

  -- one layer of a statement, over the meanings of those in it
  abbrev pub stmt_step : Stmt-F Runs BranchRuns MatchRuns → Runs
  stmt_step (Stmt-F.Line place all) = sequence (map simple all)
  stmt_step (Stmt-F.If place all other) = run_if place.line all other
  stmt_step (Stmt-F.While place c body) = run_while place.line (expr_of c) body
  stmt_step (Stmt-F.For place name type_name subject body) = run_for place.line name (expr_of subject) body
  stmt_step (Stmt-F.Match place subject all) = run_match place.line (expr_of subject) all

  -- what a statement does
  unfoldable pub stmt : Stmt → Runs
  stmt = fold-Stmt Runs BranchRuns MatchRuns stmt_step branch_step match_step

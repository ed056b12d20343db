-- What expressions do.
use Rattle.std.specs.Prelude.{ℕ, ℤ, pos, Bool, true, false, not, if◌then◌else◌, List, [], ◌∷◌, map, codes, bytes_eq, encode_utf8_all, chars, Option, Some, None, Ok, Err}
use Rattle.std.specs.List.{join_by}
use Rattle.folder_meaning.specs.Operators.{value_op, value_prefix}
use Rattle.gd_syntax.specs.declared.fault.Place.{Place}
use Rattle.gd_syntax.specs.declared.tree.expr.Expr.{Expr}
use Rattle.gd_syntax.specs.declared.tree.expr.Expr.TheOpen.{Expr-F}
use Rattle.gd_syntax.specs.declared.tree.expr.Expr.TheFolds.{fold-Expr}
use Rattle.gd_syntax.specs.declared.tree.expr.Literal.{Literal}
use Rattle.gd_syntax.specs.declared.tree.expr.Literal.TheVariants as literal
use Rattle.gd_syntax.specs.declared.tree.expr.TreeOp.{TreeOp}
use Rattle.gd_syntax.specs.declared.tree.expr.TreeOp.TheVariants as op
use Rattle.gd_syntax.specs.declared.tree.expr.TreePrefix.{TreePrefix}
use Rattle.gd_syntax.specs.declared.tree.type_name.TypeName.{TypeName}
use Rattle.gd_syntax.specs.declared.tree.type_name.TypeName.TheVariants.{Named, Void}
use Rattle.native_calls.specs.Globals.{Span, span_in}
use Rattle.variant_values.specs.declared.classes.ElementTag.{ElementTag}
use Rattle.variant_values.specs.declared.faults.RunFault.TheVariants.{NoMember, BadArgs, BadOperands, ElementType}
use Rattle.variant_values.specs.declared.values.Value.{Value}
use Rattle.variant_values.specs.declared.values.Value.TheVariants.{Null, Bool as Truth, Int, Str, Array, Dict}
use Rattle.variant_values.specs.Changes.{Given, new_array}
use Rattle.variant_values.specs.Comparisons.{is_true}
use Rattle.variant_values.specs.DictMethods.{keys_of}
use Rattle.variant_values.specs.ElementTypes.{all_taken}
use Rattle.variant_values.specs.Indexing.{index_of}
use Rattle.variant_values.specs.Operations.{operated}
use Rattle.variant_values.specs.Operators.{unary_of}
use Rattle.script_meaning.specs.State.{◌>>=◌, joined}
use Rattle.script_meaning.specs.Projects.{Project, Argument, values_of}
use Rattle.script_meaning.specs.Types.{is_of_type, taken_as}
use Rattle.script_meaning.specs.Constants.{new_dict_of}
use Rattle.script_meaning.specs.Meanings.{Moment, Given-to, site_of, At-site, Callee, Global, Target, ToName, ToIndex, Numbers, Items, Characters, Walked, Means, heap_at, gives, gives_by, gives_then, fails, changed}
use Rattle.script_meaning.specs.Members.{as_callee, as_holder, name_value, name_holder, name_callee, member_value, member_holder, member_callee, member_target}
use Rattle.script_meaning.specs.Methods.{native_call, invoked, super_called}

-- ---- values of tokens, and truth

abbrev pub literal_value : Literal → Value
literal_value literal.Null = Null
literal_value (literal.Bool b) = Truth b
literal_value (literal.Int n) = Int n
literal_value (literal.Text text) = Str (encode_utf8_all text)

abbrev pub truth_of : Value → Moment → Bool
truth_of v m = is_true m.world.cells v

-- ---- what is walked

abbrev pub to_number : ℤ → ℕ
to_number (pos n) = n
to_number n = 0

-- the numbers from 0 below n, of which there are none where n is below 1
abbrev pub below : ℤ → Span
below n = record { first = pos 0; count = to_number n; by = pos 1 }

-- the keys of a dictionary as they are at the start, in an array of their own
abbrev pub keys_walked : Value → Given → At-site Walked
keys_walked of (Ok (Array a, heap)) s m = Ok ((Items a 0, of ∷ Array a ∷ []), record (changed m heap) { held = joined (Array a) m.held })
keys_walked of (Ok (v, heap)) s m = fails BadOperands s m
keys_walked of (Err kind) s m = fails kind s m

-- what a `for` over a value walks, and the hidden locals meanwhile
abbrev pub walk_over : Value → At-site Walked
walk_over (Int n) s m = Ok ((Numbers (below n), []), m)
walk_over (Array a) s m = Ok ((Items a 0, Array a ∷ []), m)
walk_over (Str text) s m = Ok ((Characters (chars text), []), m)
walk_over (Dict d) s m = keys_walked (Dict d) (keys_of (heap_at s m) d.0) s m
walk_over v s m = fails BadOperands s m

-- the numbers of a `range` that makes no array
abbrev pub span_walked : Option Span → At-site Walked
span_walked (Some span) s m = Ok ((Numbers span, []), m)
span_walked None s m = fails BadArgs s m

-- ---- forms

-- what is no target
abbrev pub no_target : Given-to Target
no_target h m = fails BadOperands (site_of h) m

abbrev pub walked_plain : Given-to Value → Given-to Walked
walked_plain value h m = do
  x ← value h m
  walk_over x.0 (site_of h) x.1

-- a form that has a value and is nothing else
abbrev pub valued : Place → Given-to Value → Means
valued place value = record {
  place = place;
  name = None;
  value = value;
  holder = λ h m. as_holder (value h m);
  callee = λ h m. as_callee (value h m);
  target = no_target;
  walk = walked_plain value;
}

-- a value that is there without any computing
abbrev pub fixed : Place → Value → Means
fixed place v = valued place (λ h m. gives v m)

-- from left to right
abbrev pub values : List Means → Given-to (List Value)
values [] h m = Ok ([], m)
values (e ∷ es) h m = do
  x ← e.value h m
  y ← values es h x.1
  Ok (x.0 ∷ y.0, y.1)

abbrev pub pairs : List (Means × Means) → Given-to (List (Value × Value))
pairs [] h m = Ok ([], m)
pairs (e ∷ es) h m = do
  x ← e.0.value h m
  y ← e.1.value h x.1
  z ← pairs es h y.1
  Ok ((x.0, y.0) ∷ z.0, z.1)

abbrev pub chosen : {A : Type 0} → Bool → Given-to A → Given-to A → Given-to A
chosen true a b h m = a h m
chosen false a b h m = b h m

abbrev pub as_truth : Given-to Value → Given-to Value
as_truth value h m = do
  x ← value h m
  gives (Truth (truth_of x.0 x.1)) x.1

abbrev pub gives_truth : Bool → Given-to Value
gives_truth b h m = gives (Truth b) m

-- ---- containers

-- Items of an array with an element type are checked, in order, after all of them are there.
abbrev pub array_of : Option ElementTag → List Value → At-site Value
array_of of vs s m = if all_taken m.world.cells of vs then gives_then (new_array (heap_at s m) vs of) s m else fails ElementType s m

abbrev pub dict_value : Given-to (List (Value × Value)) → Given-to Value
dict_value parts h m = do
  x ← parts h m
  gives_then (new_dict_of (heap_at (site_of h) x.1) x.0) (site_of h) x.1

-- the entries of `{name = v}`
abbrev pub keyed : List ℕ → Means → Means × Means
keyed name e = (fixed e.place (Str (encode_utf8_all name)), e)

abbrev pub index_value : Means → Means → Given-to Value
index_value a i h m = do
  x ← a.value h m
  y ← i.value h x.1
  gives_by (index_of y.1.world.cells x.0 y.0) (site_of h) y.1

abbrev pub index_target : Means → Means → Given-to Target
index_target a i h m = do
  x ← a.value h m
  y ← i.value h x.1
  Ok (ToIndex x.0 y.0, y.1)

abbrev pub index_means : Place → Means → Means → Means
index_means place a i = record (valued place (index_value a i)) { target = index_target a i }

-- ---- operators on one operand, and choices

abbrev pub ternary_value : Means → Means → Means → Given-to Value
ternary_value a c b h m = do
  x ← c.value h m
  chosen (truth_of x.0 x.1) a.value b.value h x.1

abbrev pub prefix_value : TreePrefix → Means → Given-to Value
prefix_value op a h m = do
  x ← a.value h m
  gives_by (unary_of (value_prefix op) x.0) (site_of h) x.1

abbrev pub not_value : Means → Given-to Value
not_value a h m = do
  x ← a.value h m
  gives (Truth (not (truth_of x.0 x.1))) x.1

-- ---- types

abbrev pub place_of_type : TypeName → Place
place_of_type (Named place names element) = place
place_of_type (Void place) = place

-- parentheses change nothing, but that what stands in them is no target and no `range` directly after `in`
abbrev pub paren_means : Place → Means → Means
paren_means place a = record { place = place; name = None; value = a.value; holder = a.holder; callee = a.callee; target = no_target; walk = walked_plain a.value }

-- the names of a path, parted by `/`
abbrev pub path_text : List (List ℕ) → List ℕ
path_text names = join_by (λ name. name) (codes "/") names

-- whether a call is one of the global `range`, by its name
abbrev pub is_range_call : Callee → Option (List ℕ) → Bool
is_range_call (Global name) (Some word) = bytes_eq name (codes "range")
is_range_call callee word = false

module _ (project : Project) where
  abbrev pub applied : TreeOp → Value → Value → At-site Value
  applied op v w s m = gives_then (operated project.names (heap_at s m) (value_op op) v w) s m

  -- `and` and `or` look at their second operand only where the first does not decide
  abbrev pub binary_value : TreeOp → Means → Means → Given-to Value
  binary_value op.And a b h m = do
    x ← a.value h m
    chosen (truth_of x.0 x.1) (as_truth b.value) (gives_truth false) h x.1
  binary_value op.Or a b h m = do
    x ← a.value h m
    chosen (truth_of x.0 x.1) (gives_truth true) (as_truth b.value) h x.1
  binary_value op a b h m = do
    x ← a.value h m
    y ← b.value h x.1
    applied op x.0 y.0 (site_of h) y.1

  -- ---- names and members

  abbrev pub name_means : Place → List ℕ → Means
  name_means place name = record {
    place = place;
    name = Some name;
    value = name_value project name;
    holder = name_holder project name;
    callee = name_callee project name;
    target = λ h m. Ok (ToName name, m);
    walk = walked_plain (name_value project name);
  }

  abbrev pub member_means : Place → Means → List ℕ → Means
  member_means place a name = record {
    place = place;
    name = None;
    value = member_value project a.holder name;
    holder = member_holder project place a.holder name;
    callee = member_callee project a.holder name;
    target = member_target project a.value name;
    walk = walked_plain (member_value project a.holder name);
  }

  -- ---- calls

  -- the arguments, from left to right
  abbrev pub arguments : List Means → Given-to (List Argument)
  arguments [] h m = Ok ([], m)
  arguments (e ∷ es) h m = do
    x ← e.value h m
    y ← arguments es h x.1
    Ok (record { value = x.0; fits = project.fits_at h.around.class e.place } ∷ y.0, y.1)

  abbrev pub call_value : Means → List Means → Given-to Value
  call_value f args h m = do
    x ← f.callee h m
    y ← arguments args h x.1
    invoked project x.0 y.0 (site_of h) y.1

  -- a call of the global `range` directly after `in` makes no array
  abbrev pub call_walk : Means → List Means → Given-to Walked
  call_walk f args h m = do
    x ← f.callee h m
    y ← arguments args h x.1
    chosen (is_range_call x.0 f.name) (λ at now. span_walked (span_in (values_of y.0)) (site_of at) now) (walked_plain (λ at now. invoked project x.0 y.0 (site_of at) now)) h y.1

  abbrev pub call_means : Place → Means → List Means → Means
  call_means place f args = record (valued place (call_value f args)) { walk = call_walk f args }

  abbrev pub super_value : List ℕ → List Means → Given-to Value
  super_value name args h m = do
    x ← arguments args h m
    super_called project name x.0 (site_of h) x.1

  -- `super(..)` is a call of the function that runs, of the class above
  abbrev pub super_of_same : List Means → Given-to Value
  super_of_same args h m = super_value h.around.function args h m

  -- ---- containers, types, files and nodes

  abbrev pub array_value : Place → List Means → Given-to Value
  array_value place all h m = do
    x ← values all h m
    array_of (project.element_at h.around.class place) x.0 (site_of h) x.1

  abbrev pub is_value : Means → TypeName → Given-to Bool
  is_value a type h m = do
    x ← a.value h m
    Ok (is_of_type x.1.world.cells (project.type_at h.around.class (place_of_type type)) x.0, x.1)

  abbrev pub type_test : (Bool → Bool) → Means → TypeName → Given-to Value
  type_test answer a type h m = do
    x ← is_value a type h m
    gives (Truth (answer x.0)) x.1

  abbrev pub as_value : Means → TypeName → Given-to Value
  as_value a type h m = do
    x ← a.value h m
    gives_by (taken_as x.1.world.cells (project.type_at h.around.class (place_of_type type)) x.0) (site_of h) x.1

  -- the class or the scene of a file; a project that loads has each file that is named
  abbrev pub file_by : Option Value → At-site Value
  file_by (Some v) s m = gives v m
  file_by None s m = fails NoMember s m

  abbrev pub file_value : List ℕ → Given-to Value
  file_value path h m = file_by (project.resource h.around.class path) (site_of h) m

  -- `$path` is a call of `self`'s `get_node`, which has its clause when nodes have theirs
  abbrev pub node_value : List ℕ → Given-to Value
  node_value path h m = native_call project h.around.self (codes "get_node") (record { value = Str (encode_utf8_all path); fits = true } ∷ []) (site_of h) m

  -- ---- one layer of an expression

  abbrev pub expr_step : Expr-F Means → Means
  expr_step (Expr-F.Literal place value) = fixed place (literal_value value)
  expr_step (Expr-F.Name place name) = name_means place name
  expr_step (Expr-F.This place) = valued place (λ h m. gives h.around.self m)
  expr_step (Expr-F.Paren place a) = paren_means place a
  expr_step (Expr-F.Array place all) = valued place (array_value place all)
  expr_step (Expr-F.Dict place all) = valued place (dict_value (pairs all))
  expr_step (Expr-F.Table place all) = valued place (dict_value (pairs (map (λ e. keyed e.0.name e.1) all)))
  expr_step (Expr-F.Preload place path) = valued place (file_value path.text)
  expr_step (Expr-F.Load place path) = valued place (file_value path.text)
  expr_step (Expr-F.NodePath place names) = valued place (node_value (path_text names))
  expr_step (Expr-F.NodeText place path) = valued place (node_value path)
  expr_step (Expr-F.Super place args) = valued place (super_of_same args)
  expr_step (Expr-F.SuperCall place name args) = valued place (super_value name args)
  expr_step (Expr-F.Index place a i) = index_means place a i
  expr_step (Expr-F.Member place a name) = member_means place a name
  expr_step (Expr-F.Call place f args) = call_means place f args
  expr_step (Expr-F.Is place a type) = valued place (type_test (λ b. b) a type)
  expr_step (Expr-F.IsNot place a type) = valued place (type_test not a type)
  expr_step (Expr-F.Prefix place op a) = valued place (prefix_value op a)
  expr_step (Expr-F.Binary place op a b) = valued place (binary_value op a b)
  expr_step (Expr-F.Not place a) = valued place (not_value a)
  expr_step (Expr-F.Ternary place a c b) = valued place (ternary_value a c b)
  expr_step (Expr-F.As place a type) = valued place (as_value a type)

  -- what an expression is
  unfoldable pub expr : Expr → Means
  expr = fold-Expr Means expr_step

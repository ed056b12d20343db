-- Expressions keep a law: a lemma a form, and then every tree.
use Rattle.std.proofs.Common.{ℕ, Bool, true, false, not, List, [], ◌∷◌, map, sym, subst, Option, Some, None, Ok, Err}
use Rattle.std.specs.Prelude.{codes, encode_utf8_all, if◌then◌else◌}
use Rattle.std.specs.List.{AllByRecursion}
use Rattle.folder_meaning.specs.declared.script_type.ScriptType.{ScriptType}
use Rattle.folder_meaning.specs.declared.script_type.ScriptType.TheVariants as of_type
use Rattle.gd_syntax.specs.declared.fault.Place.{Place}
use Rattle.gd_syntax.specs.declared.tree.expr.Expr.{Expr}
use Rattle.gd_syntax.specs.declared.tree.expr.Expr.TheOpen.{Expr-F}
use Rattle.gd_syntax.specs.declared.tree.expr.Expr.TheFolds.{fold-roll-Expr, ind-Expr, map-Expr}
use Rattle.gd_syntax.specs.declared.tree.expr.Literal.{Literal}
use Rattle.gd_syntax.specs.declared.tree.expr.Literal.TheVariants as literal
use Rattle.gd_syntax.specs.declared.tree.expr.TreeOp.{TreeOp}
use Rattle.gd_syntax.specs.declared.tree.expr.TreeOp.TheVariants as op
use Rattle.gd_syntax.specs.declared.tree.expr.TreePrefix.{TreePrefix}
use Rattle.gd_syntax.specs.declared.tree.type_name.Identifier.{Identifier}
use Rattle.gd_syntax.specs.declared.tree.type_name.TypeName.{TypeName}
use Rattle.native_calls.specs.Globals.{Span, span_in}
use Rattle.variant_values.specs.declared.classes.ElementTag.{ElementTag}
use Rattle.variant_values.specs.declared.faults.RunFault.TheVariants.{NoMember, BadArgs, BadOperands, BadType, ElementType}
use Rattle.folder_meaning.specs.Operators.{value_op, value_prefix}
use Rattle.variant_values.specs.declared.operators.UnaryOp.{UnaryOp}
use Rattle.variant_values.specs.declared.values.Value.{Value}
use Rattle.variant_values.specs.declared.values.Value.TheVariants.{Null, Bool as Truth, Int, Str, Array, Dict, Object, Callable, Signal, Class, Scene, Weak}
use Rattle.variant_values.specs.Changes.{Given, new_array}
use Rattle.variant_values.specs.DictMethods.{keys_of}
use Rattle.variant_values.specs.ElementTypes.{all_taken}
use Rattle.variant_values.specs.Indexing.{index_of}
use Rattle.variant_values.specs.Operations.{operated}
use Rattle.variant_values.specs.Operators.{unary_of}
use Rattle.script_meaning.specs.State.{and_then}
use Rattle.script_meaning.specs.Projects.{Project, Argument, values_of}
use Rattle.script_meaning.specs.Types.{fits_at_run, is_object_of, taken_as}
use Rattle.script_meaning.specs.Constants.{new_dict_of}
use Rattle.script_meaning.specs.Meanings.{Here, Moment, Given-to, Site, Callee, Walked, Means, changed, fails, frames_of, gives, gives_by, gives_then, heap_at, site_of}
use Rattle.script_meaning.specs.Members.{name_value}
use Rattle.script_meaning.specs.Methods.{invoked}
use Rattle.script_meaning.specs.Exprs.{applied, arguments, array_value, as_truth, as_value, binary_value, call_means, call_value, call_walk, chosen, dict_value, expr, expr_step, file_by, file_value, fixed, gives_truth, index_means, index_target, index_value, is_range_call, is_value, keyed, keys_walked, literal_value, member_means, name_means, no_target, node_value, not_value, pairs, paren_means, path_text, place_of_type, prefix_value, span_walked, super_value, ternary_value, truth_of, type_test, valued, values, walk_over, walked_plain}
use Rattle.script_laws.specs.Knowing.{IsPlain}
use Rattle.script_laws.proofs.Law.{Law, GivesKnown, KnownIn}
use Rattle.script_laws.proofs.Moments.{At, AtSite, Good, Keeps, Passed, Ready, all_known, bind, carry, done, failed, follow, given, given_by, given_then, grown, on, plain}
use Rattle.script_laws.proofs.MemberLaws.{CalleeReady, HolderReady, IsLawful, TargetReady, called_by, carry_callee, held_by, member_called, member_held, member_targeted, member_valued, name_called, name_held, name_valued}
use Rattle.script_laws.proofs.CallLaws.{AllReady, invoked_given, self_native, super_given}

module _ (L : Law) where
  -- what hidden locals hold while something is walked
  abbrev pub WalkReady : Site → Walked → Moment → Type 0
  WalkReady s walk m = AllReady L s walk.1 m

  abbrev pub PairsReady : Site → List (Value × Value) → Moment → Type 0
  PairsReady s vs m = AllByRecursion (λ p. Ready L s p.0 m × Ready L s p.1 m) vs

  abbrev pub ArgumentsReady : Site → List Argument → Moment → Type 0
  ArgumentsReady s args m = AllReady L s (values_of args) m

  abbrev pub Any : {A : Type 0} → Site → A → Moment → Type 0
  Any s a m = Unit {0}

  -- an expression keeps the law, however it is read
  pub record IsKept (e : Means) : Type 0 where
    pub value : Keeps L false (Ready L) e.value
    pub holder : Keeps L false (HolderReady L) e.holder
    pub callee : Keeps L false (CalleeReady L) e.callee
    pub target : Keeps L false (TargetReady L) e.target
    pub walk : Keeps L false WalkReady e.walk

  abbrev PairKept : Means × Means → Type 0
  PairKept e = IsKept e.0 × IsKept e.1

  abbrev pub AllKept : List Means → Type 0
  AllKept es = AllByRecursion IsKept es

  -- ---- walks

  keys_given : {s : Site} {m : Moment} (of : Value) (r : Given) → AtSite L s m.world → Ready L s of m → GivesKnown L.Fine L.Known L.Then m.world r → Good L false s m (WalkReady s) (keys_walked of r s m)
  keys_given {s} {m} of (Ok (Array a, g)) at k r =
      let p : Passed L false s m (changed m g) = grown L g at r.given.0 in
      let q = (given L p.at r.given.1).good in
      record { good = (follow L p q.0, (carry L (follow L p q.0) k, (q.1, tt))) }
  keys_given of (Ok (Null, g)) at k r = failed L BadOperands at
  keys_given of (Ok (Truth b, g)) at k r = failed L BadOperands at
  keys_given of (Ok (Int n, g)) at k r = failed L BadOperands at
  keys_given of (Ok (Str t, g)) at k r = failed L BadOperands at
  keys_given of (Ok (Dict a, g)) at k r = failed L BadOperands at
  keys_given of (Ok (Object a, g)) at k r = failed L BadOperands at
  keys_given of (Ok (Callable a n, g)) at k r = failed L BadOperands at
  keys_given of (Ok (Signal a n, g)) at k r = failed L BadOperands at
  keys_given of (Ok (Class a, g)) at k r = failed L BadOperands at
  keys_given of (Ok (Scene a n, g)) at k r = failed L BadOperands at
  keys_given of (Ok (Weak a, g)) at k r = failed L BadOperands at
  keys_given of (Err kind) at k r = failed L kind at

  pub walk_given : {s : Site} {m : Moment} (v : Value) → AtSite L s m.world → Ready L s v m → Good L false s m (WalkReady s) (walk_over v s m)
  walk_given (Int n) at k = done L at tt
  walk_given (Array a) at k = done L at (k, tt)
  walk_given (Str t) at k = done L at tt
  walk_given {s} {m} (Dict d) at k = keys_given (Dict d) (keys_of (heap_at s m) d.0) at k (L.keys (frames_of s m) m.world d.0 at.fine)
  walk_given Null at k = failed L BadOperands at
  walk_given (Truth b) at k = failed L BadOperands at
  walk_given (Object a) at k = failed L BadOperands at
  walk_given (Callable a n) at k = failed L BadOperands at
  walk_given (Signal a n) at k = failed L BadOperands at
  walk_given (Class a) at k = failed L BadOperands at
  walk_given (Scene a n) at k = failed L BadOperands at
  walk_given (Weak a) at k = failed L BadOperands at

  pub walked_kept : (e : Given-to Value) → Keeps L false (Ready L) e → Keeps L false WalkReady (walked_plain e)
  walked_kept e k h m at = bind L (e h m) _ (k h m at) (λ v n p r. walk_given v p.at r)

  span_given : {s : Site} {m : Moment} (o : Option Span) → AtSite L s m.world → Good L false s m (WalkReady s) (span_walked o s m)
  span_given (Some span) at = done L at tt
  span_given None at = failed L BadArgs at

  -- ---- parts of forms

  target_refused : Keeps L false (TargetReady L) no_target
  target_refused h m at = failed L BadOperands at.site

  -- a form that has a value and is nothing else
  pub valued_kept : (place : Place) (e : Given-to Value) → Keeps L false (Ready L) e → IsKept (valued place e)
  valued_kept place e k = record {
    value = k;
    holder = λ h m at. held_by L (e h m) (k h m at);
    callee = λ h m at. called_by L (e h m) (k h m at);
    target = target_refused;
    walk = walked_kept e k;
  }

  pub fixed_kept : (place : Place) (v : Value) → IsPlain v → IsKept (fixed place v)
  fixed_kept place v p = valued_kept place (λ h m. gives v m) (λ h m at. plain L at.site p)

  literal_plain : (l : Literal) → IsPlain (literal_value l)
  literal_plain literal.Null = tt
  literal_plain (literal.Bool b) = tt
  literal_plain (literal.Int n) = tt
  literal_plain (literal.Text t) = tt

  pub values_kept : (es : List Means) → AllKept es → Keeps L false (AllReady L) (values es)
  values_kept [] k h m at = done L at.site tt
  values_kept (e ∷ es) k h m at =
      bind L (e.value h m) _ (k.0.value h m at) (λ v n p r. bind L (values es h n) _ (values_kept es k.1 h n (on L at p)) (λ vs o q rs. done L q.at (carry L q r, rs)))

  pairs_kept : (es : List (Means × Means)) → AllByRecursion PairKept es → Keeps L false PairsReady (pairs es)
  pairs_kept [] k h m at = done L at.site tt
  pairs_kept (e ∷ es) k h m at =
      bind L (e.0.value h m) _ (k.0.0.value h m at) (λ v n p r. bind L (e.1.value h n) _ (k.0.1.value h n (on L at p)) (λ u o q t.
      bind L (pairs es h o) _ (pairs_kept es k.1 h o (on L (on L at p) q)) (λ vs l z rs. done L z.at ((carry L (follow L q z) r, carry L z t), rs))))

  -- a choice
  pub chosen_kept : {A : Type 0} (K : Site → A → Moment → Type 0) (b : Bool) (x y : Given-to A) → Keeps L false K x → Keeps L false K y → Keeps L false K (chosen b x y)
  chosen_kept K true x y k l h m at = k h m at
  chosen_kept K false x y k l h m at = l h m at

  truth_kept : (e : Given-to Value) → Keeps L false (Ready L) e → Keeps L false (Ready L) (as_truth e)
  truth_kept e k h m at = bind L (e h m) _ (k h m at) (λ v n p r. plain L p.at tt)

  gives_truth_kept : (b : Bool) → Keeps L false (Ready L) (gives_truth b)
  gives_truth_kept b h m at = plain L at.site tt

  array_if : {s : Site} {m : Moment} (b : Bool) (vs : List Value) (of : Option ElementTag) → AtSite L s m.world → AllReady L s vs m → Good L false s m (Ready L s) (if b then gives_then (new_array (heap_at s m) vs of) s m else fails ElementType s m)
  array_if {s} {m} true vs of at k = given_then L (new_array (heap_at s m) vs of) at (L.array (frames_of s m) m.world vs of at.fine (all_known L s m vs k))
  array_if false vs of at k = failed L ElementType at

  pairs_known : (s : Site) (m : Moment) (vs : List (Value × Value)) → PairsReady s vs m → AllByRecursion (λ p. L.Known m.world p.0 × L.Known m.world p.1) vs
  pairs_known s m [] k = tt
  pairs_known s m (v ∷ vs) k = ((k.0.0.known, k.0.1.known), pairs_known s m vs k.1)

  dict_kept : (parts : Given-to (List (Value × Value))) → Keeps L false PairsReady parts → Keeps L false (Ready L) (dict_value parts)
  dict_kept parts k h m at = bind L (parts h m) _ (k h m at) (λ vs n p r. given_then L (new_dict_of (heap_at (site_of h) n) vs) p.at (L.dict (frames_of (site_of h) n) n.world vs p.at.fine (pairs_known (site_of h) n vs r)))

  index_kept : (a i : Means) → IsKept a → IsKept i → Keeps L false (Ready L) (index_value a i)
  index_kept a i k l h m at = bind L (a.value h m) _ (k.value h m at) (λ v n p r. bind L (i.value h n) _ (l.value h n (on L at p)) (λ u o q t.
      given_by L (index_of o.world.cells v u) q.at (L.index o.world v u q.at.fine (carry L q r).known t.known)))

  index_targeted : (a i : Means) → IsKept a → IsKept i → Keeps L false (TargetReady L) (index_target a i)
  index_targeted a i k l h m at = bind L (a.value h m) _ (k.value h m at) (λ v n p r. bind L (i.value h n) _ (l.value h n (on L at p)) (λ u o q t. done L q.at (carry L q r, t)))

  index_form : (place : Place) (a i : Means) → IsKept a → IsKept i → IsKept (index_means place a i)
  index_form place a i k l =
      let v : IsKept (valued place (index_value a i)) = valued_kept place (index_value a i) (index_kept a i k l) in
      record { value = v.value; holder = v.holder; callee = v.callee; target = index_targeted a i k l; walk = v.walk }

  ternary_kept : (a c b : Means) → IsKept a → IsKept c → IsKept b → Keeps L false (Ready L) (ternary_value a c b)
  ternary_kept a c b k l j h m at = bind L (c.value h m) _ (l.value h m at) (λ v n p r. chosen_kept (Ready L) (truth_of v n) a.value b.value k.value j.value h n (on L at p))

  pub unary_given : {c : Bool} {s : Site} {m : Moment} (o : UnaryOp) (v : Value) → AtSite L s m.world → Good L c s m (Ready L s) (gives_by (unary_of o v) s m)
  unary_given o (Int n) at = plain L at tt
  unary_given o Null at = failed L BadOperands at
  unary_given o (Truth b) at = failed L BadOperands at
  unary_given o (Str t) at = failed L BadOperands at
  unary_given o (Array a) at = failed L BadOperands at
  unary_given o (Dict a) at = failed L BadOperands at
  unary_given o (Object a) at = failed L BadOperands at
  unary_given o (Callable a n) at = failed L BadOperands at
  unary_given o (Signal a n) at = failed L BadOperands at
  unary_given o (Class a) at = failed L BadOperands at
  unary_given o (Scene a n) at = failed L BadOperands at
  unary_given o (Weak a) at = failed L BadOperands at

  prefix_kept : (o : TreePrefix) (a : Means) → IsKept a → Keeps L false (Ready L) (prefix_value o a)
  prefix_kept o a k h m at = bind L (a.value h m) _ (k.value h m at) (λ v n p r. unary_given (value_prefix o) v p.at)

  not_kept : (a : Means) → IsKept a → Keeps L false (Ready L) (not_value a)
  not_kept a k h m at = bind L (a.value h m) _ (k.value h m at) (λ v n p r. plain L p.at tt)

  -- `as` gives the value itself, or null
  as_if : {s : Site} {m : Moment} (b : Bool) (v : Value) → AtSite L s m.world → Ready L s v m → Good L false s m (Ready L s) (gives_by (Ok (if b then v else Null)) s m)
  as_if true v at k = given L at k.known
  as_if false v at k = plain L at tt

  as_or : {s : Site} {m : Moment} (b : Bool) (v : Value) → AtSite L s m.world → Ready L s v m → Good L false s m (Ready L s) (gives_by (if b then Ok v else Err BadType) s m)
  as_or true v at k = given L at k.known
  as_or false v at k = failed L BadType at

  as_given : {s : Site} {m : Moment} (type : ScriptType) (v : Value) → AtSite L s m.world → Ready L s v m → Good L false s m (Ready L s) (gives_by (taken_as m.world.cells type v) s m)
  as_given {s} {m} (of_type.Instance class) v at k = as_if (is_object_of m.world.cells class v) v at k
  as_given {s} {m} type v at k = as_or (fits_at_run m.world.cells type v) v at k

  -- ---- forms that ask the project

  module _ (project : Project) (lawful : IsLawful L project) where
    pub applied_given : {s : Site} {m : Moment} (o : TreeOp) (v u : Value) → AtSite L s m.world → Ready L s v m → Ready L s u m → Good L false s m (Ready L s) (applied project o v u s m)
    applied_given {s} {m} o v u at k l = given_then L (operated project.names (heap_at s m) (value_op o) v u) at (L.operates (frames_of s m) m.world project.names (value_op o) v u at.fine k.known l.known)

    module _ (a b : Means) (k : IsKept a) (l : IsKept b) where
      strict : (o : TreeOp) → Keeps L false (Ready L) (λ h m. and_then (a.value h m) (λ x. and_then (b.value h x.1) (λ y. applied project o x.0 y.0 (site_of h) y.1)))
      strict o h m at = bind L (a.value h m) _ (k.value h m at) (λ v n p r. bind L (b.value h n) _ (l.value h n (on L at p)) (λ u z q t. applied_given o v u q.at (carry L q r) t))

      pub binary_kept : (o : TreeOp) → Keeps L false (Ready L) (binary_value project o a b)
      binary_kept op.And h m at = bind L (a.value h m) _ (k.value h m at) (λ v n p r. chosen_kept (Ready L) (truth_of v n) (as_truth b.value) (gives_truth false) (truth_kept b.value l.value) (gives_truth_kept false) h n (on L at p))
      binary_kept op.Or h m at = bind L (a.value h m) _ (k.value h m at) (λ v n p r. chosen_kept (Ready L) (truth_of v n) (gives_truth true) (as_truth b.value) (gives_truth_kept true) (truth_kept b.value l.value) h n (on L at p))
      binary_kept op.Add h m at = strict op.Add h m at
      binary_kept op.Sub h m at = strict op.Sub h m at
      binary_kept op.Mul h m at = strict op.Mul h m at
      binary_kept op.Div h m at = strict op.Div h m at
      binary_kept op.Rem h m at = strict op.Rem h m at
      binary_kept op.Shl h m at = strict op.Shl h m at
      binary_kept op.Shr h m at = strict op.Shr h m at
      binary_kept op.BitAnd h m at = strict op.BitAnd h m at
      binary_kept op.BitXor h m at = strict op.BitXor h m at
      binary_kept op.BitOr h m at = strict op.BitOr h m at
      binary_kept op.Eq h m at = strict op.Eq h m at
      binary_kept op.Ne h m at = strict op.Ne h m at
      binary_kept op.Lt h m at = strict op.Lt h m at
      binary_kept op.Gt h m at = strict op.Gt h m at
      binary_kept op.Le h m at = strict op.Le h m at
      binary_kept op.Ge h m at = strict op.Ge h m at
      binary_kept op.Within h m at = strict op.Within h m at

    pub name_kept : (place : Place) (name : List ℕ) → IsKept (name_means project place name)
    name_kept place name = record {
      value = name_valued L project lawful false name;
      holder = name_held L project lawful false name;
      callee = name_called L project lawful false name;
      target = λ h m at. done L at.site tt;
      walk = walked_kept (name_value project name) (name_valued L project lawful false name);
    }

    pub member_kept : (place : Place) (a : Means) (name : List ℕ) → IsKept a → IsKept (member_means project place a name)
    member_kept place a name k = record {
      value = member_valued L project lawful false a.holder name k.holder;
      holder = member_held L project lawful false place a.holder name k.holder;
      callee = member_called L project lawful false a.holder name k.holder;
      target = member_targeted L project lawful false a.value name k.value;
      walk = walked_kept _ (member_valued L project lawful false a.holder name k.holder);
    }

    paren_kept : (place : Place) (a : Means) → IsKept a → IsKept (paren_means place a)
    paren_kept place a k = record { value = k.value; holder = k.holder; callee = k.callee; target = target_refused; walk = walked_kept a.value k.value }

    pub arguments_kept : (es : List Means) → AllKept es → Keeps L false ArgumentsReady (arguments project es)
    arguments_kept [] k h m at = done L at.site tt
    arguments_kept (e ∷ es) k h m at =
        bind L (e.value h m) _ (k.0.value h m at) (λ v n p r. bind L (arguments project es h n) _ (arguments_kept es k.1 h n (on L at p)) (λ vs o q rs. done L q.at (carry L q r, rs)))

    call_kept : (f : Means) (es : List Means) → IsKept f → AllKept es → Keeps L false (Ready L) (call_value project f es)
    call_kept f es k l h m at =
        bind L (f.callee h m) _ (k.callee h m at) (λ x n p r. bind L (arguments project es h n) _ (arguments_kept es l h n (on L at p)) (λ vs o q rs. invoked_given L project q.at x vs (carry_callee L x q r) rs))

    call_walked : (f : Means) (es : List Means) → IsKept f → AllKept es → Keeps L false WalkReady (call_walk project f es)
    call_walked f es k l h m at =
        bind L (f.callee h m) _ (k.callee h m at) (λ x n p r. bind L (arguments project es h n) _ (arguments_kept es l h n (on L at p)) (λ vs o q rs.
        walk_if (is_range_call x f.name) h o x vs (on L (on L at p) q) (carry_callee L x q r) rs))
      where
        walk_if : (b : Bool) (h : Here) (m : Moment) (x : Callee) (vs : List Argument) → At L h m.world → CalleeReady L (site_of h) x m → ArgumentsReady (site_of h) vs m
            → Good L false (site_of h) m (WalkReady (site_of h)) (chosen b (λ at now. span_walked (span_in (values_of vs)) (site_of at) now) (walked_plain (λ at now. invoked project x vs (site_of at) now)) h m)
        walk_if true h m x vs at r rs = span_given (span_in (values_of vs)) at.site
        walk_if false h m x vs at r rs = bind L (invoked project x vs (site_of h) m) _ (invoked_given L project at.site x vs r rs) (λ v n p t. walk_given v p.at t)

    call_form : (place : Place) (f : Means) (es : List Means) → IsKept f → AllKept es → IsKept (call_means project place f es)
    call_form place f es k l =
        let v : IsKept (valued place (call_value project f es)) = valued_kept place (call_value project f es) (call_kept f es k l) in
        record { value = v.value; holder = v.holder; callee = v.callee; target = v.target; walk = call_walked f es k l }

    super_kept : (name : List ℕ) (es : List Means) → AllKept es → Keeps L false (Ready L) (super_value project name es)
    super_kept name es k h m at = bind L (arguments project es h m) _ (arguments_kept es k h m at) (λ vs n p rs. super_given L project p.at name vs rs)

    array_kept : (place : Place) (es : List Means) → AllKept es → Keeps L false (Ready L) (array_value project place es)
    array_kept place es k h m at = bind L (values es h m) _ (values_kept es k h m at) (λ vs n p rs. array_if (all_taken n.world.cells (project.element_at h.around.class place) vs) vs (project.element_at h.around.class place) p.at rs)

    test_kept : (answer : Bool → Bool) (a : Means) (type : TypeName) → IsKept a → Keeps L false (Ready L) (type_test project answer a type)
    test_kept answer a type k h m at = bind L (is_value project a type h m) _ (bind L {K = Ready L (site_of h)} {J = Any (site_of h)} (a.value h m) _ (k.value h m at) (λ v n p r. done L p.at tt)) (λ b n p r. plain L p.at tt)

    as_kept : (a : Means) (type : TypeName) → IsKept a → Keeps L false (Ready L) (as_value project a type)
    as_kept a type k h m at = bind L (a.value h m) _ (k.value h m at) (λ v n p r. as_given (project.type_at h.around.class (place_of_type type)) v p.at r)

    file_given : {s : Site} {m : Moment} (o : Option Value) → AtSite L s m.world → KnownIn L.Fine L.Known L.Then m.world o → Good L false s m (Ready L s) (file_by project o s m)
    file_given (Some v) at k = given L at k
    file_given None at k = failed L NoMember at

    file_kept : (path : List ℕ) → Keeps L false (Ready L) (file_value project path)
    file_kept path h m at = file_given (project.resource h.around.class path) at.site (lawful.resources h.around.class path m.world)

    node_kept : (path : List ℕ) → Keeps L false (Ready L) (node_value project path)
    node_kept path h m at = self_native L project at.site (codes "get_node") (record { value = Str (encode_utf8_all path); fits = true } ∷ []) (record { known = L.plain m.world (Str (encode_utf8_all path)) tt; held = tt }, tt)

    -- ---- trees

    abbrev pub ExprKept : Expr → Type 0
    ExprKept e = IsKept (expr project e)

    abbrev KeptExpr : Type 0
    KeptExpr = (e : Expr) × ExprKept e

    all_of : (es : List KeptExpr) → AllKept (map (expr project) (map (λ e. e.0) es))
    all_of [] = tt
    all_of (e ∷ es) = (e.1, all_of es)

    pairs_of : (es : List (KeptExpr × KeptExpr)) → AllByRecursion PairKept (map (λ (x : Expr × Expr). (expr project x.0, expr project x.1)) (map (λ (x : KeptExpr × KeptExpr). (x.0.0, x.1.0)) es))
    pairs_of [] = tt
    pairs_of (e ∷ es) = ((e.0.1, e.1.1), pairs_of es)

    named_of : (es : List (Identifier × KeptExpr)) → AllByRecursion PairKept (map (λ (e : Identifier × Means). keyed e.0.name e.1) (map (λ (x : Identifier × Expr). (x.0, expr project x.1)) (map (λ (x : Identifier × KeptExpr). (x.0, x.1.0)) es)))
    named_of [] = tt
    named_of (e ∷ es) = ((fixed_kept _ (Str (encode_utf8_all e.0.name)) tt, e.1.1), named_of es)

    layer_kept : (y : Expr-F KeptExpr) → IsKept (expr_step project (map-Expr Expr Means (expr project) (map-Expr KeptExpr Expr (λ e. e.0) y)))
    layer_kept (Expr-F.Literal place value) = fixed_kept place (literal_value value) (literal_plain value)
    layer_kept (Expr-F.Name place name) = name_kept place name
    layer_kept (Expr-F.This place) = valued_kept place _ (λ h m at. given L at.site at.site.self)
    layer_kept (Expr-F.Paren place a) = paren_kept place (expr project a.0) a.1
    layer_kept (Expr-F.Array place all) = valued_kept place _ (array_kept place (map (expr project) (map (λ e. e.0) all)) (all_of all))
    layer_kept (Expr-F.Dict place all) = valued_kept place _ (dict_kept _ (pairs_kept _ (pairs_of all)))
    layer_kept (Expr-F.Table place all) = valued_kept place _ (dict_kept _ (pairs_kept _ (named_of all)))
    layer_kept (Expr-F.Preload place path) = valued_kept place _ (file_kept path.text)
    layer_kept (Expr-F.Load place path) = valued_kept place _ (file_kept path.text)
    layer_kept (Expr-F.NodePath place names) = valued_kept place _ (node_kept (path_text names))
    layer_kept (Expr-F.NodeText place path) = valued_kept place _ (node_kept path)
    layer_kept (Expr-F.Super place args) = valued_kept place _ (λ h m at. super_kept h.around.function (map (expr project) (map (λ e. e.0) args)) (all_of args) h m at)
    layer_kept (Expr-F.SuperCall place name args) = valued_kept place _ (super_kept name (map (expr project) (map (λ e. e.0) args)) (all_of args))
    layer_kept (Expr-F.Index place a i) = index_form place (expr project a.0) (expr project i.0) a.1 i.1
    layer_kept (Expr-F.Member place a name) = member_kept place (expr project a.0) name a.1
    layer_kept (Expr-F.Call place f args) = call_form place (expr project f.0) (map (expr project) (map (λ e. e.0) args)) f.1 (all_of args)
    layer_kept (Expr-F.Is place a type) = valued_kept place _ (test_kept (λ b. b) (expr project a.0) type a.1)
    layer_kept (Expr-F.IsNot place a type) = valued_kept place _ (test_kept not (expr project a.0) type a.1)
    layer_kept (Expr-F.Prefix place o a) = valued_kept place _ (prefix_kept o (expr project a.0) a.1)
    layer_kept (Expr-F.Binary place o a b) = valued_kept place _ (binary_kept (expr project a.0) (expr project b.0) a.1 b.1 o)
    layer_kept (Expr-F.Not place a) = valued_kept place _ (not_kept (expr project a.0) a.1)
    layer_kept (Expr-F.Ternary place a c b) = valued_kept place _ (ternary_kept (expr project a.0) (expr project c.0) (expr project b.0) a.1 c.1 b.1)
    layer_kept (Expr-F.As place a type) = valued_kept place _ (as_kept (expr project a.0) type a.1)

    pub expr_kept : (e : Expr) → ExprKept e
    unfolding expr
    expr_kept = ind-Expr ExprKept (λ x y is. subst IsKept (sym (fold-roll-Expr Means (expr_step project) x)) (subst (λ z. IsKept (expr_step project (map-Expr Expr Means (expr project) z))) is (layer_kept y)))

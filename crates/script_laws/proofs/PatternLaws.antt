-- Patterns keep a law: they run no code, and what they bind is known.
use Rattle.std.proofs.Common.{ℕ, Bool, true, false, cond, List, [], ◌∷◌, ◌++◌, length, map, sym, subst, Option, Some, None, Result, Ok, Err}
use Rattle.std.specs.Prelude.{if◌then◌else◌}
use Rattle.std.specs.List.{AllByRecursion}
use Rattle.std.specs.Map.{lookup}
use Rattle.gd_syntax.specs.declared.fault.Place.{Place}
use Rattle.gd_syntax.specs.declared.tree.expr.Literal.{Literal}
use Rattle.gd_syntax.specs.declared.tree.pattern.Pattern.{Pattern}
use Rattle.gd_syntax.specs.declared.tree.pattern.PatternEntry.{PatternEntry}
use Rattle.gd_syntax.specs.declared.tree.pattern.Pattern.TheOpen.{Pattern-F, PatternEntry-F}
use Rattle.gd_syntax.specs.declared.tree.pattern.Pattern.TheFolds.{fold-roll-Pattern, fold-roll-PatternEntry, fold-PatternEntry, ind-Pattern, map-Pattern, map-PatternEntry}
use Rattle.variant_values.specs.declared.faults.RunFault.{RunFault}
use Rattle.variant_values.specs.declared.operators.UnaryOp.TheVariants as unary
use Rattle.variant_values.specs.declared.values.Key.{Key}
use Rattle.variant_values.specs.declared.values.Value.{Value}
use Rattle.variant_values.specs.declared.values.Value.TheVariants.{Null, Bool as Truth, Int, Str, Array, Dict, Object, Callable, Signal, Class, Scene, Weak}
use Rattle.variant_values.specs.Comparisons.{same_value}
use Rattle.variant_values.specs.Heaps.{cell_at, entries_of, items_of}
use Rattle.variant_values.specs.Keys.{same_key}
use Rattle.variant_values.specs.Operators.{unary_of}
use Rattle.script_meaning.specs.State.{Local, World}
use Rattle.script_meaning.specs.Projects.{Project}
use Rattle.script_meaning.specs.Meanings.{Here, Moment, Given-to, Means, gives_by, site_of}
use Rattle.script_meaning.specs.Exprs.{literal_value, member_means, name_means}
use Rattle.script_meaning.specs.Patterns.{KeyMatches, Matched, Matches, and_match, any_matches, array_matches, bound_before, dict_matches, entries_match, entry_step, fits_keys, fits_length, found_by, items_match, literal_matches, members_means, or_match, path_matches, pattern, pattern_step, test_by, value_matches}
use Rattle.script_laws.proofs.Law.{Law, Grows, KnownIn}
use Rattle.script_laws.proofs.Moments.{At, Good, Keeps, Locals, Ready, Values, bind, done, failed, on}
use Rattle.script_laws.proofs.MemberLaws.{HolderReady, IsLawful, member_held, member_valued, name_held, name_valued}
use Rattle.script_laws.proofs.ExprLaws.{unary_given}

module _ (L : Law) where
  abbrev pub Bound : Matched → Moment → Type 0
  Bound None m = Unit {0}
  Bound (Some ls) m = Locals L m.world ls

  -- a pattern keeps the law calmly
  pub record IsMatch (p : Matches) : Type 0 where
    pub match : (v : Value) (h : Here) (m : Moment) → At L h m.world → L.Known m.world v → Good L true (site_of h) m Bound (p v h m)

  abbrev IsOptional : Option Matches → Type 0
  IsOptional None = Unit {0}
  IsOptional (Some p) = IsMatch p

  pub record IsKeyMatch (p : KeyMatches) : Type 0 where
    pub match : IsOptional p.value

  -- what is known stays known
  values_stay : (w u : World) (vs : List Value) → Grows L.Fine L.Known L.Then w u → Values L w vs → Values L u vs
  values_stay w u [] g k = tt
  values_stay w u (v ∷ vs) g k = (g.stays v k.0, values_stay w u vs g k.1)

  pub locals_stay : (w u : World) (ls : List Local) → Grows L.Fine L.Known L.Then w u → Locals L w ls → Locals L u ls
  locals_stay w u [] g k = tt
  locals_stay w u (l ∷ ls) g k = ((g.stays l.value k.0.0, k.0.1), locals_stay w u ls g k.1)

  pub locals_both : (w : World) (ls more : List Local) → Locals L w ls → Locals L w more → Locals L w (ls ++ more)
  locals_both w [] more k r = r
  locals_both w (l ∷ ls) more k r = (k.0, locals_both w ls more k.1 r)

  both_bound : (m : Moment) (ls : List Local) (o : Matched) → Locals L m.world ls → Bound o m → Bound (bound_before ls o) m
  both_bound m ls None k r = tt
  both_bound m ls (Some more) k r = locals_both m.world ls more k r

  and_kept : (h : Here) (m : Moment) (o : Matched) (rest : Given-to Matched) → At L h m.world → Bound o m → (At L h m.world → Good L true (site_of h) m Bound (rest h m)) → Good L true (site_of h) m Bound (and_match o rest h m)
  and_kept h m None rest at k r = done L at.site tt
  and_kept h m (Some ls) rest at k r = bind L (rest h m) _ (r at) (λ o n p q. done L p.at (both_bound n ls o (locals_stay m.world n.world ls p.goes k) q))

  if_bound : (m : Moment) (b : Bool) → Bound (if b then Some [] else None) m
  if_bound m true = tt
  if_bound m false = tt

  test_kept : (h : Here) (m : Moment) (r : Result Bool RunFault) → At L h m.world → Good L true (site_of h) m Bound (test_by r h m)
  test_kept h m (Ok b) at = done L at.site (if_bound m b)
  test_kept h m (Err kind) at = failed L kind at.site

  items_kept : (ps : List Matches) (vs : List Value) (h : Here) (m : Moment) → AllByRecursion IsMatch ps → At L h m.world → Values L m.world vs → Good L true (site_of h) m Bound (items_match ps vs h m)
  items_kept [] vs h m k at r = done L at.site tt
  items_kept (p ∷ ps) [] h m k at r = done L at.site tt
  items_kept (p ∷ ps) (v ∷ vs) h m k at r =
      bind L (p v h m) _ (k.0.match v h m at r.0) (λ o n q b. and_kept h n o (items_match ps vs) (on L at q) b (λ now. items_kept ps vs h n k.1 now (values_stay m.world n.world vs q.goes r.1)))

  array_kept : (ps : List Matches) (unended : Bool) (v : Value) (h : Here) (m : Moment) → AllByRecursion IsMatch ps → At L h m.world → Good L true (site_of h) m Bound (array_matches ps unended v h m)
  array_kept ps unended (Array s) h m k at =
      let vs = items_of (cell_at m.world.cells s.0) in
      and_kept h m (if fits_length unended (length ps) (length vs) then Some [] else None) (items_match ps vs) at (if_bound m (fits_length unended (length ps) (length vs))) (λ now. items_kept ps vs h m k now (L.items m.world s.0 now.site.fine))
  array_kept ps unended Null h m k at = done L at.site tt
  array_kept ps unended (Truth b) h m k at = done L at.site tt
  array_kept ps unended (Int n) h m k at = done L at.site tt
  array_kept ps unended (Str t) h m k at = done L at.site tt
  array_kept ps unended (Dict a) h m k at = done L at.site tt
  array_kept ps unended (Object a) h m k at = done L at.site tt
  array_kept ps unended (Callable a n) h m k at = done L at.site tt
  array_kept ps unended (Signal a n) h m k at = done L at.site tt
  array_kept ps unended (Class a) h m k at = done L at.site tt
  array_kept ps unended (Scene a n) h m k at = done L at.site tt
  array_kept ps unended (Weak a) h m k at = done L at.site tt

  value_kept : (p : Option Matches) (o : Option Value) (h : Here) (m : Moment) → IsOptional p → At L h m.world → KnownIn L.Fine L.Known L.Then m.world o → Good L true (site_of h) m Bound (value_matches p o h m)
  value_kept None None h m k at r = done L at.site tt
  value_kept (Some p) None h m k at r = done L at.site tt
  value_kept None (Some v) h m k at r = done L at.site tt
  value_kept (Some p) (Some v) h m k at r = k.match v h m at r

  abbrev Entries : World → List (Key × Value) → Type 0
  Entries w es = AllByRecursion (λ e. L.Known w e.1) es

  entries_stay : (w u : World) (es : List (Key × Value)) → Grows L.Fine L.Known L.Then w u → Entries w es → Entries u es
  entries_stay w u [] g k = tt
  entries_stay w u (e ∷ es) g k = (g.stays e.1 k.0, entries_stay w u es g k.1)

  found_if : (w : World) (b : Bool) (v : Value) (o : Option Value) → L.Known w v → KnownIn L.Fine L.Known L.Then w o → KnownIn L.Fine L.Known L.Then w (cond b (Some v) o)
  found_if w true v o k r = k
  found_if w false v o k r = r

  look_up : (w : World) (es : List (Key × Value)) (q : Key) → Entries w es → KnownIn L.Fine L.Known L.Then w (lookup (same_key q) es)
  look_up w [] q k = tt
  look_up w (e ∷ es) q k = found_if w (same_key q e.0) e.1 (lookup (same_key q) es) k.0 (look_up w es q k.1)

  found : (w : World) (es : List (Key × Value)) (q : Result Key RunFault) → Entries w es → KnownIn L.Fine L.Known L.Then w (found_by es q)
  found w es (Ok q) k = look_up w es q k
  found w es (Err kind) k = tt

  entries_kept : (ps : List KeyMatches) (es : List (Key × Value)) (h : Here) (m : Moment) → AllByRecursion IsKeyMatch ps → At L h m.world → Entries m.world es → Good L true (site_of h) m Bound (entries_match ps es h m)
  entries_kept [] es h m k at r = done L at.site tt
  entries_kept (p ∷ ps) es h m k at r =
      bind L (value_matches p.value (found_by es p.key) h m) _ (value_kept p.value (found_by es p.key) h m k.0.match at (found m.world es p.key r))
      (λ o n q b. and_kept h n o (entries_match ps es) (on L at q) b (λ now. entries_kept ps es h n k.1 now (entries_stay m.world n.world es q.goes r)))

  dict_kept : (ps : List KeyMatches) (unended : Bool) (v : Value) (h : Here) (m : Moment) → AllByRecursion IsKeyMatch ps → At L h m.world → Good L true (site_of h) m Bound (dict_matches ps unended v h m)
  dict_kept ps unended (Dict s) h m k at =
      let es = entries_of (cell_at m.world.cells s.0) in
      and_kept h m (if fits_keys unended ps es then Some [] else None) (entries_match ps es) at (if_bound m (fits_keys unended ps es)) (λ now. entries_kept ps es h m k now (L.entries m.world s.0 now.site.fine))
  dict_kept ps unended Null h m k at = done L at.site tt
  dict_kept ps unended (Truth b) h m k at = done L at.site tt
  dict_kept ps unended (Int n) h m k at = done L at.site tt
  dict_kept ps unended (Str t) h m k at = done L at.site tt
  dict_kept ps unended (Array a) h m k at = done L at.site tt
  dict_kept ps unended (Object a) h m k at = done L at.site tt
  dict_kept ps unended (Callable a n) h m k at = done L at.site tt
  dict_kept ps unended (Signal a n) h m k at = done L at.site tt
  dict_kept ps unended (Class a) h m k at = done L at.site tt
  dict_kept ps unended (Scene a n) h m k at = done L at.site tt
  dict_kept ps unended (Weak a) h m k at = done L at.site tt

  literal_kept : (minus : Bool) (l : Literal) (v : Value) (h : Here) (m : Moment) → At L h m.world → Good L true (site_of h) m Bound (literal_matches minus l v h m)
  literal_kept false l v h m at = test_kept h m (same_value m.world.cells v (literal_value l)) at
  literal_kept true l v h m at = bind L (gives_by (unary_of unary.Neg (literal_value l)) (site_of h) m) _ (unary_given L {c = true} unary.Neg (literal_value l) at.site) (λ x n p r. test_kept h n (same_value n.world.cells v x) (on L at p))

  or_kept : (h : Here) (m : Moment) (o : Matched) (rest : Given-to Matched) → At L h m.world → Bound o m → Good L true (site_of h) m Bound (rest h m) → Good L true (site_of h) m Bound (or_match o rest h m)
  or_kept h m (Some ls) rest at k r = done L at.site k
  or_kept h m None rest at k r = r

  pub any_kept : (ps : List Matches) (v : Value) (h : Here) (m : Moment) → AllByRecursion IsMatch ps → At L h m.world → L.Known m.world v → Good L true (site_of h) m Bound (any_matches ps v h m)
  any_kept [] v h m k at r = done L at.site tt
  any_kept (p ∷ ps) v h m k at r = bind L (p v h m) _ (k.0.match v h m at r) (λ o n q b. or_kept h n o (any_matches ps v) (on L at q) b (any_kept ps v h n k.1 (on L at q) (q.goes.stays v r)))

  -- ---- names between dots

  record IsCalm (e : Means) : Type 0 where
    pub value : Keeps L true (Ready L) e.value
    pub holder : Keeps L true (HolderReady L) e.holder

  module _ (project : Project) (lawful : IsLawful L project) where
    members_calm : (place : Place) (a : Means) (names : List (List ℕ)) → IsCalm a → IsCalm (members_means project place a names)
    members_calm place a [] k = k
    members_calm place a (name ∷ names) k = members_calm place (member_means project place a name) names (record {
      value = member_valued L project lawful true a.holder name k.holder;
      holder = member_held L project lawful true place a.holder name k.holder;
    })

    path_kept : (place : Place) (names : List (List ℕ)) (v : Value) (h : Here) (m : Moment) → At L h m.world → Good L true (site_of h) m Bound (path_matches project place names v h m)
    path_kept place [] v h m at = done L at.site tt
    path_kept place (name ∷ names) v h m at =
        let k = members_calm place (name_means project place name) names (record { value = name_valued L project lawful true name; holder = name_held L project lawful true name }) in
        bind L ((members_means project place (name_means project place name) names).value h m) _ (k.value h m at) (λ x n p r. test_kept h n (same_value n.world.cells v x) (on L at p))

    -- ---- trees

    abbrev pub PatternKept : Pattern → Type 0
    PatternKept p = IsMatch (pattern project p)

    abbrev entry : PatternEntry → KeyMatches
    entry = fold-PatternEntry Matches KeyMatches (pattern_step project) entry_step

    abbrev EntryKept : PatternEntry → Type 0
    EntryKept p = IsKeyMatch (entry p)

    abbrev KeptPattern : Type 0
    KeptPattern = (p : Pattern) × PatternKept p

    abbrev KeptEntry : Type 0
    KeptEntry = (p : PatternEntry) × EntryKept p

    patterns_of : (ps : List KeptPattern) → AllByRecursion IsMatch (map (pattern project) (map (λ (p : KeptPattern). p.0) ps))
    patterns_of [] = tt
    patterns_of (p ∷ ps) = (p.1, patterns_of ps)

    entries_of_kept : (ps : List KeptEntry) → AllByRecursion IsKeyMatch (map entry (map (λ (p : KeptEntry). p.0) ps))
    entries_of_kept [] = tt
    entries_of_kept (p ∷ ps) = (p.1, entries_of_kept ps)

    abbrev bare : Pattern-F KeptPattern KeptEntry → Pattern-F Pattern PatternEntry
    bare y = map-Pattern KeptPattern KeptEntry Pattern PatternEntry (λ p. p.0) (λ p. p.0) y

    abbrev bare_entry : PatternEntry-F KeptPattern KeptEntry → PatternEntry-F Pattern PatternEntry
    bare_entry y = map-PatternEntry KeptPattern KeptEntry Pattern PatternEntry (λ p. p.0) (λ p. p.0) y

    layer_kept : (y : Pattern-F KeptPattern KeptEntry) → IsMatch (pattern_step project (map-Pattern Pattern PatternEntry Matches KeyMatches (pattern project) entry (bare y)))
    layer_kept (Pattern-F.Wildcard place) = record { match = λ v h m at r. done L at.site tt }
    layer_kept (Pattern-F.Bind place name) = record { match = λ v h m at r. done L at.site ((r, tt), tt) }
    layer_kept (Pattern-F.Literal place minus l) = record { match = λ v h m at r. literal_kept minus l v h m at }
    layer_kept (Pattern-F.Path place names) = record { match = λ v h m at r. path_kept place names v h m at }
    layer_kept (Pattern-F.Array place all unended) = record { match = λ v h m at r. array_kept _ unended v h m (patterns_of all) at }
    layer_kept (Pattern-F.Dict place all unended) = record { match = λ v h m at r. dict_kept _ unended v h m (entries_of_kept all) at }

    entry_by : (place : Place) (key : Literal) (o : Option KeptPattern) → IsOptional (entry_step (map-PatternEntry Pattern PatternEntry Matches KeyMatches (pattern project) entry (bare_entry (record { place = place; key = key; value = o })))).value
    entry_by place key None = tt
    entry_by place key (Some p) = p.1

    entry_layer : (y : PatternEntry-F KeptPattern KeptEntry) → IsKeyMatch (entry_step (map-PatternEntry Pattern PatternEntry Matches KeyMatches (pattern project) entry (bare_entry y)))
    entry_layer y = record { match = entry_by y.place y.key y.value }

    pub pattern_kept : (p : Pattern) → PatternKept p
    unfolding pattern
    pattern_kept = ind-Pattern PatternKept EntryKept
        (λ x y is. subst IsMatch (sym (fold-roll-Pattern Matches KeyMatches (pattern_step project) entry_step x)) (subst (λ z. IsMatch (pattern_step project (map-Pattern Pattern PatternEntry Matches KeyMatches (pattern project) entry z))) is (layer_kept y)))
        (λ x y is. subst IsKeyMatch (sym (fold-roll-PatternEntry Matches KeyMatches (pattern_step project) entry_step x)) (subst (λ z. IsKeyMatch (entry_step (map-PatternEntry Pattern PatternEntry Matches KeyMatches (pattern project) entry z))) is (entry_layer y)))

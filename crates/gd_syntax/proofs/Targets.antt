-- Which expressions are targets, and in which patterns a `var` stands.
use Rattle.std.proofs.Common.{◌≡◌, ℕ, Bool, true, false, ◌||◌, List, [], ◌∷◌, map, rules, refl, ap}
use Rattle.std.specs.List.{list_any}
use Rattle.gd_syntax.specs.declared.fault.Place.{Place}
use Rattle.gd_syntax.specs.declared.tree.type_name.Identifier.{Identifier}
use Rattle.gd_syntax.specs.declared.tree.type_name.PathText.{PathText}
use Rattle.gd_syntax.specs.declared.tree.type_name.TypeName.{TypeName}
use Rattle.gd_syntax.specs.declared.tree.expr.Literal.{Literal}
use Rattle.gd_syntax.specs.declared.tree.expr.Expr.{Expr, the_lemmas}
use Rattle.gd_syntax.specs.declared.tree.expr.Expr.TheVariants as e
use Rattle.gd_syntax.specs.declared.tree.expr.TreeOp.{TreeOp}
use Rattle.gd_syntax.specs.declared.tree.expr.TreePrefix.{TreePrefix}
use Rattle.gd_syntax.specs.declared.tree.pattern.Pattern.{Pattern, the_lemmas as pattern_lemmas}
use Rattle.gd_syntax.specs.declared.tree.pattern.Pattern.TheVariants as p
use Rattle.gd_syntax.specs.declared.tree.pattern.Pattern.TheFolds.{fold-PatternEntry}
use Rattle.gd_syntax.specs.declared.tree.pattern.Pattern.TheViews.{outs-struct-PatternEntry}
use Rattle.gd_syntax.specs.declared.tree.pattern.PatternEntry.{PatternEntry}
use Rattle.gd_syntax.specs.StatementGrammar.{is_target, binds_step, binds_entry, binds, entry_binds}

pub target-Literal : (place : Place) (value : Literal) → is_target (e.Literal place value) ≡ false
unfolding is_target
target-Literal place value = search (rules, the_lemmas)

pub target-Name : (place : Place) (name : List ℕ) → is_target (e.Name place name) ≡ true
unfolding is_target
target-Name place name = search (rules, the_lemmas)

pub target-This : (place : Place) → is_target (e.This place) ≡ false
unfolding is_target
target-This place = search (rules, the_lemmas)

pub target-Paren : (place : Place) (a : Expr) → is_target (e.Paren place a) ≡ false
unfolding is_target
target-Paren place a = search (rules, the_lemmas)

pub target-Array : (place : Place) (all : List Expr) → is_target (e.Array place all) ≡ false
unfolding is_target
target-Array place all = search (rules, the_lemmas)

pub target-Dict : (place : Place) (all : List (Expr × Expr)) → is_target (e.Dict place all) ≡ false
unfolding is_target
target-Dict place all = search (rules, the_lemmas)

pub target-Table : (place : Place) (all : List (Identifier × Expr)) → is_target (e.Table place all) ≡ false
unfolding is_target
target-Table place all = search (rules, the_lemmas)

pub target-Preload : (place : Place) (path : PathText) → is_target (e.Preload place path) ≡ false
unfolding is_target
target-Preload place path = search (rules, the_lemmas)

pub target-Load : (place : Place) (path : PathText) → is_target (e.Load place path) ≡ false
unfolding is_target
target-Load place path = search (rules, the_lemmas)

pub target-NodePath : (place : Place) (names : List (List ℕ)) → is_target (e.NodePath place names) ≡ false
unfolding is_target
target-NodePath place names = search (rules, the_lemmas)

pub target-NodeText : (place : Place) (text : List ℕ) → is_target (e.NodeText place text) ≡ false
unfolding is_target
target-NodeText place text = search (rules, the_lemmas)

pub target-Super : (place : Place) (args : List Expr) → is_target (e.Super place args) ≡ false
unfolding is_target
target-Super place args = search (rules, the_lemmas)

pub target-SuperCall : (place : Place) (name : List ℕ) (args : List Expr) → is_target (e.SuperCall place name args) ≡ false
unfolding is_target
target-SuperCall place name args = search (rules, the_lemmas)

pub target-Index : (place : Place) (a b : Expr) → is_target (e.Index place a b) ≡ true
unfolding is_target
target-Index place a b = search (rules, the_lemmas)

pub target-Member : (place : Place) (a : Expr) (name : List ℕ) → is_target (e.Member place a name) ≡ true
unfolding is_target
target-Member place a name = search (rules, the_lemmas)

pub target-Call : (place : Place) (a : Expr) (args : List Expr) → is_target (e.Call place a args) ≡ false
unfolding is_target
target-Call place a args = search (rules, the_lemmas)

pub target-Is : (place : Place) (a : Expr) (t : TypeName) → is_target (e.Is place a t) ≡ false
unfolding is_target
target-Is place a t = search (rules, the_lemmas)

pub target-IsNot : (place : Place) (a : Expr) (t : TypeName) → is_target (e.IsNot place a t) ≡ false
unfolding is_target
target-IsNot place a t = search (rules, the_lemmas)

pub target-Prefix : (place : Place) (op : TreePrefix) (a : Expr) → is_target (e.Prefix place op a) ≡ false
unfolding is_target
target-Prefix place op a = search (rules, the_lemmas)

pub target-Binary : (place : Place) (op : TreeOp) (a b : Expr) → is_target (e.Binary place op a b) ≡ false
unfolding is_target
target-Binary place op a b = search (rules, the_lemmas)

pub target-Not : (place : Place) (a : Expr) → is_target (e.Not place a) ≡ false
unfolding is_target
target-Not place a = search (rules, the_lemmas)

pub target-Ternary : (place : Place) (a c b : Expr) → is_target (e.Ternary place a c b) ≡ false
unfolding is_target
target-Ternary place a c b = search (rules, the_lemmas)

pub target-As : (place : Place) (a : Expr) (t : TypeName) → is_target (e.As place a t) ≡ false
unfolding is_target
target-As place a t = search (rules, the_lemmas)

pub ruleset target_laws = (target-Literal, target-Name, target-This, target-Paren, target-Array, target-Dict, target-Table, target-Preload, target-Load, target-NodePath, target-NodeText, target-Super, target-SuperCall, target-Index, target-Member, target-Call, target-Is, target-IsNot, target-Prefix, target-Binary, target-Not, target-Ternary, target-As)

pub binds-Wildcard : (place : Place) → binds (p.Wildcard place) ≡ false
unfolding binds
binds-Wildcard place = search (rules, pattern_lemmas)

pub binds-Bind : (place : Place) (name : Identifier) → binds (p.Bind place name) ≡ true
unfolding binds
binds-Bind place name = search (rules, pattern_lemmas)

pub binds-Literal : (place : Place) (negative : Bool) (value : Literal) → binds (p.Literal place negative value) ≡ false
unfolding binds
binds-Literal place negative value = search (rules, pattern_lemmas)

pub binds-Path : (place : Place) (names : List (List ℕ)) → binds (p.Path place names) ≡ false
unfolding binds
binds-Path place names = search (rules, pattern_lemmas)

any_map : {A B : Type 0} (test : B → Bool) (g : A → B) (all : List A) → list_any test (map g all) ≡ list_any (λ x. test (g x)) all
any_map test g [] = refl
any_map test g (x ∷ all) = ap (λ b. test (g x) || b) (any_map test g all)

pub binds-Array : (place : Place) (all : List Pattern) (unended : Bool) → binds (p.Array place all unended) ≡ list_any binds all
unfolding binds
binds-Array place all unended = search (rules, pattern_lemmas, any_map)

fold-entry : (entry : PatternEntry) → fold-PatternEntry Bool Bool binds_step binds_entry entry ≡ entry_binds entry
unfolding binds
fold-entry entry = search (rules, pattern_lemmas, outs-struct-PatternEntry)

fold-entries : (all : List PatternEntry) → list_any (fold-PatternEntry Bool Bool binds_step binds_entry) all ≡ list_any entry_binds all
fold-entries [] = refl
fold-entries (entry ∷ all) = cc (fold-entry entry, fold-entries all)

pub binds-Dict : (place : Place) (all : List PatternEntry) (unended : Bool) → binds (p.Dict place all unended) ≡ list_any entry_binds all
unfolding binds
binds-Dict place all unended = search (rules, pattern_lemmas, any_map, fold-entries)

-- How many levels each pattern has.
use Rattle.std.proofs.Common.{◌≡◌, ℕ, suc, max, Bool, List, [], ◌∷◌, map, rules, refl, ap}
use Rattle.gd_syntax.specs.declared.fault.Place.{Place}
use Rattle.gd_syntax.specs.declared.tree.type_name.Identifier.{Identifier}
use Rattle.gd_syntax.specs.declared.tree.expr.Literal.{Literal}
use Rattle.gd_syntax.specs.declared.tree.pattern.Pattern.{Pattern, the_lemmas as pattern_lemmas}
use Rattle.gd_syntax.specs.declared.tree.pattern.Pattern.TheVariants as p
use Rattle.gd_syntax.specs.declared.tree.pattern.Pattern.TheFolds.{fold-PatternEntry}
use Rattle.gd_syntax.specs.declared.tree.pattern.Pattern.TheViews.{outs-struct-PatternEntry}
use Rattle.gd_syntax.specs.declared.tree.pattern.PatternEntry.{PatternEntry}
use Rattle.gd_syntax.specs.Levels.{most}
use Rattle.grammar_laws.specs.PatternLevels.{pattern_levels, entry_levels, levels_step, entry_step}

pub levels-Wildcard : (place : Place) → pattern_levels (p.Wildcard place) ≡ 1
unfolding pattern_levels
levels-Wildcard place = search (rules, pattern_lemmas)

pub levels-Bind : (place : Place) (name : Identifier) → pattern_levels (p.Bind place name) ≡ 1
unfolding pattern_levels
levels-Bind place name = search (rules, pattern_lemmas)

pub levels-Literal : (place : Place) (negative : Bool) (value : Literal) → pattern_levels (p.Literal place negative value) ≡ 1
unfolding pattern_levels
levels-Literal place negative value = search (rules, pattern_lemmas)

pub levels-Path : (place : Place) (names : List (List ℕ)) → pattern_levels (p.Path place names) ≡ 1
unfolding pattern_levels
levels-Path place names = search (rules, pattern_lemmas)

most_map : {A B : Type 0} (f : B → ℕ) (g : A → B) (all : List A) → most (map f (map g all)) ≡ most (map (λ x. f (g x)) all)
most_map f g [] = refl
most_map f g (x ∷ all) = ap (λ n. max (f (g x)) n) (most_map f g all)

pub levels-Array : (place : Place) (all : List Pattern) (unended : Bool) → pattern_levels (p.Array place all unended) ≡ suc (most (map pattern_levels all))
unfolding pattern_levels
levels-Array place all unended = search (rules, pattern_lemmas, most_map)

fold-entry : (entry : PatternEntry) → fold-PatternEntry ℕ ℕ levels_step entry_step entry ≡ entry_levels entry
unfolding pattern_levels
fold-entry entry = search (rules, pattern_lemmas, outs-struct-PatternEntry)

fold-entries : (all : List PatternEntry) → map (fold-PatternEntry ℕ ℕ levels_step entry_step) all ≡ map entry_levels all
fold-entries [] = refl
fold-entries (entry ∷ all) = cc (fold-entry entry, fold-entries all)

pub levels-Dict : (place : Place) (all : List PatternEntry) (unended : Bool) → pattern_levels (p.Dict place all unended) ≡ suc (most (map entry_levels all))
unfolding pattern_levels
levels-Dict place all unended = search (rules, pattern_lemmas, fold-entries)

-- What the limits speak of, form by form.
use Rattle.std.proofs.Common.{◌≡◌, ℕ, suc, ◌+◌, nat_le, max, Bool, true, false, ◌&&◌, List, [], ◌∷◌, ◌++◌, length, map, Option, Some, None, rules, refl, ap, arith}
use Rattle.std.specs.List.{list_all}
use Rattle.std.proofs.lemmas.List.{length-map}
use Rattle.gd_syntax.specs.declared.fault.Place.{Place}
use Rattle.gd_syntax.specs.declared.tree.type_name.Identifier.{Identifier}
use Rattle.gd_syntax.specs.declared.tree.type_name.TypeName.{TypeName}
use Rattle.gd_syntax.specs.declared.tree.expr.Expr.{Expr}
use Rattle.gd_syntax.specs.declared.tree.statement.Simple.{Simple}
use Rattle.gd_syntax.specs.declared.tree.statement.Branch.{Branch}
use Rattle.gd_syntax.specs.declared.tree.statement.MatchBranch.{MatchBranch}
use Rattle.gd_syntax.specs.declared.tree.statement.Stmt.{Stmt, the_lemmas as stmt_lemmas}
use Rattle.gd_syntax.specs.declared.tree.statement.Stmt.TheVariants as s
use Rattle.gd_syntax.specs.declared.tree.statement.Stmt.TheFolds.{fold-Branch, fold-MatchBranch}
use Rattle.gd_syntax.specs.declared.tree.statement.Stmt.TheViews.{outs-struct-Branch, outs-struct-MatchBranch}
use Rattle.gd_syntax.specs.declared.tree.member.Class.{Class}
use Rattle.gd_syntax.specs.declared.tree.member.Const.{Const}
use Rattle.gd_syntax.specs.declared.tree.member.Enum.{Enum}
use Rattle.gd_syntax.specs.declared.tree.member.Func.{Func}
use Rattle.gd_syntax.specs.declared.tree.member.Signal.{Signal}
use Rattle.gd_syntax.specs.declared.tree.member.Var.{Var}
use Rattle.gd_syntax.specs.declared.tree.member.Member.{the_lemmas as member_lemmas}
use Rattle.gd_syntax.specs.declared.tree.member.Member.TheVariants as tree
use Rattle.gd_syntax.specs.declared.tree.member.Member.TheViews.{outs-struct-Class}
use Rattle.gd_syntax.specs.Levels.{most}
use Rattle.grammar_laws.specs.Limits.{total, stmt_step, branch_step, match_step, stmt_blocks, blocks, class_depth, class_count, keeps}

-- ---- statements

abbrev pub branch_blocks : Branch → ℕ
branch_blocks b = blocks b.body

abbrev pub match_blocks : MatchBranch → ℕ
match_blocks b = blocks b.body

abbrev pub other_blocks : Option (List Stmt) → ℕ
other_blocks None = 0
other_blocks (Some body) = blocks body

pub blocks-Line : (place : Place) (all : List Simple) → stmt_blocks (s.Line place all) ≡ 0
unfolding stmt_blocks
blocks-Line place all = search (rules, stmt_lemmas)

fold-branch : (b : Branch) → fold-Branch ℕ ℕ ℕ stmt_step branch_step match_step b ≡ branch_blocks b
unfolding stmt_blocks
fold-branch b = search (rules, stmt_lemmas, outs-struct-Branch)

fold-branches : (all : List Branch) → map (fold-Branch ℕ ℕ ℕ stmt_step branch_step match_step) all ≡ map branch_blocks all
fold-branches [] = refl
fold-branches (b ∷ all) = cc (fold-branch b, fold-branches all)

fold-match : (b : MatchBranch) → fold-MatchBranch ℕ ℕ ℕ stmt_step branch_step match_step b ≡ match_blocks b
unfolding stmt_blocks
fold-match b = search (rules, stmt_lemmas, outs-struct-MatchBranch)

fold-matches : (all : List MatchBranch) → map (fold-MatchBranch ℕ ℕ ℕ stmt_step branch_step match_step) all ≡ map match_blocks all
fold-matches [] = refl
fold-matches (b ∷ all) = cc (fold-match b, fold-matches all)

pub blocks-If : (place : Place) (branches : List Branch) (other : Option (List Stmt)) → stmt_blocks (s.If place branches other) ≡ max (most (map branch_blocks branches)) (other_blocks other)
unfolding stmt_blocks
blocks-If place branches None = search (rules, stmt_lemmas, fold-branches)
blocks-If place branches (Some body) = search (rules, stmt_lemmas, fold-branches)

pub blocks-For : (place : Place) (name : Identifier) (t : Option TypeName) (x : Expr) (body : List Stmt) → stmt_blocks (s.For place name t x body) ≡ blocks body
unfolding stmt_blocks
blocks-For place name t x body = search (rules, stmt_lemmas)

pub blocks-While : (place : Place) (x : Expr) (body : List Stmt) → stmt_blocks (s.While place x body) ≡ blocks body
unfolding stmt_blocks
blocks-While place x body = search (rules, stmt_lemmas)

pub blocks-Match : (place : Place) (x : Expr) (branches : List MatchBranch) → stmt_blocks (s.Match place x branches) ≡ most (map match_blocks branches)
unfolding stmt_blocks
blocks-Match place x branches = search (rules, stmt_lemmas, fold-matches)

-- ---- members

pub depth-Pass : (place : Place) → class_depth (tree.Pass place) ≡ 0
unfolding class_depth
depth-Pass place = search (rules, member_lemmas)

pub depth-Var : (v : Var) → class_depth (tree.Var v) ≡ 0
unfolding class_depth
depth-Var v = search (rules, member_lemmas)

pub depth-Const : (c : Const) → class_depth (tree.Const c) ≡ 0
unfolding class_depth
depth-Const c = search (rules, member_lemmas)

pub depth-Enum : (x : Enum) → class_depth (tree.Enum x) ≡ 0
unfolding class_depth
depth-Enum x = search (rules, member_lemmas)

pub depth-Signal : (x : Signal) → class_depth (tree.Signal x) ≡ 0
unfolding class_depth
depth-Signal x = search (rules, member_lemmas)

pub depth-Func : (f : Func) → class_depth (tree.Func f) ≡ 0
unfolding class_depth
depth-Func f = search (rules, member_lemmas)

pub depth-Class : (c : Class) → class_depth (tree.Class c) ≡ suc (most (map class_depth c.members))
unfolding class_depth
depth-Class c = search (rules, member_lemmas, outs-struct-Class)

pub count-Pass : (place : Place) → class_count (tree.Pass place) ≡ 0
unfolding class_count
count-Pass place = search (rules, member_lemmas)

pub count-Var : (v : Var) → class_count (tree.Var v) ≡ 0
unfolding class_count
count-Var v = search (rules, member_lemmas)

pub count-Const : (c : Const) → class_count (tree.Const c) ≡ 0
unfolding class_count
count-Const c = search (rules, member_lemmas)

pub count-Enum : (x : Enum) → class_count (tree.Enum x) ≡ 0
unfolding class_count
count-Enum x = search (rules, member_lemmas)

pub count-Signal : (x : Signal) → class_count (tree.Signal x) ≡ 0
unfolding class_count
count-Signal x = search (rules, member_lemmas)

pub count-Func : (f : Func) → class_count (tree.Func f) ≡ 0
unfolding class_count
count-Func f = search (rules, member_lemmas)

pub count-Class : (c : Class) → class_count (tree.Class c) ≡ suc (total (map class_count c.members))
unfolding class_count
count-Class c = search (rules, member_lemmas, outs-struct-Class)

pub keeps-Pass : (place : Place) → keeps (tree.Pass place) ≡ true
unfolding keeps
keeps-Pass place = search (rules, member_lemmas)

pub keeps-Var : (v : Var) → keeps (tree.Var v) ≡ true
unfolding keeps
keeps-Var v = search (rules, member_lemmas)

pub keeps-Const : (c : Const) → keeps (tree.Const c) ≡ true
unfolding keeps
keeps-Const c = search (rules, member_lemmas)

pub keeps-Enum : (x : Enum) → keeps (tree.Enum x) ≡ true
unfolding keeps
keeps-Enum x = search (rules, member_lemmas)

pub keeps-Signal : (x : Signal) → keeps (tree.Signal x) ≡ nat_le (length x.params) 64
unfolding keeps
keeps-Signal x = search (rules, member_lemmas)

pub keeps-Func : (f : Func) → keeps (tree.Func f) ≡ (nat_le (length f.params) 64 && nat_le (blocks f.body) 128)
unfolding keeps
keeps-Func f = search (rules, member_lemmas)

all_map : {A B : Type 0} (test : B → Bool) (g : A → B) (all : List A) → list_all test (map g all) ≡ list_all (λ x. test (g x)) all
all_map test g [] = refl
all_map test g (x ∷ all) = ap (λ b. test (g x) && b) (all_map test g all)

pub keeps-Class : (c : Class) → keeps (tree.Class c) ≡ (nat_le (length c.members) 4096 && list_all keeps c.members)
unfolding keeps
keeps-Class c = search (rules, member_lemmas, outs-struct-Class, all_map, length-map)

-- ---- lists that an item is added to

pub total_push : {A : Type 0} (f : A → ℕ) (all : List A) (x : A) → total (map f (all ++ x ∷ [])) ≡ total (map f all) + f x
total_push f [] x = omega arith
total_push f (y ∷ all) x = let ih = total_push f all x in omega (arith, ih)

push_case : {A : Type 0} (test : A → Bool) (y : A) (all : List A) (x : A) (b : Bool) → (b && list_all test all) ≡ true → (list_all test all ≡ true → list_all test (all ++ x ∷ []) ≡ true) → (b && list_all test (all ++ x ∷ [])) ≡ true
push_case test y all x true h more = more h
push_case test y all x false h more = absurd (cc)

pub all_push : {A : Type 0} (test : A → Bool) (all : List A) (x : A) → list_all test all ≡ true → test x ≡ true → list_all test (all ++ x ∷ []) ≡ true
all_push test [] x h is = rw is refl
all_push test (y ∷ all) x h is = push_case test y all x (test y) h (λ rest. all_push test all x rest is)

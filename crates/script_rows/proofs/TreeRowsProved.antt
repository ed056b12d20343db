-- Worked runs of whole trees: a tree means what its parts mean together, and that is computed.
use Rattle.std.proofs.Common.{◌≡◌, ℕ, pos, List, [], ◌∷◌, map, true, false, refl, ap, ◌∙◌, rules}
use Rattle.std.specs.Prelude.{codes}
use Rattle.gd_syntax.specs.declared.tree.expr.Literal.TheVariants as literal
use Rattle.gd_syntax.specs.declared.tree.member.Func.{Func}
use Rattle.gd_syntax.specs.declared.tree.member.Var.{Var}
use Rattle.gd_syntax.specs.declared.tree.member.Member.{Member, the_lemmas as member_lemmas}
use Rattle.gd_syntax.specs.declared.tree.member.Member.TheVariants as m
use Rattle.gd_syntax.specs.declared.tree.statement.Stmt.{Stmt}
use Rattle.folder_meaning.specs.declared.script_type.ScriptType.TheVariants.{Variant}
use Rattle.script_meaning.specs.Projects.{Project}
use Rattle.script_meaning.specs.OneClass.{functions, vars, field_of, one_class, project_of, own_means, own as own_class}
use Rattle.script_meaning.specs.Runs.{run_of, whole_text}
use Rattle.script_meaning.specs.Statements.{Runs, stmt, sequence}
use Rattle.script_meaning.specs.Tables.{ClassMeans, bodies_of_rows}
use Rattle.script_meaning.proofs.Made.{made}
use Rattle.script_rows.specs.Scripts.{at, identifier, path_of, lit, num, txt, name, call, does, walks, matches, match_branch, literal_pattern, wildcard}
use Rattle.script_rows.specs.TreeRows.{init_of, loop_tree, match_tree, tree_writes, TreeRows}
use Rattle.script_rows.proofs.Compute.{everything}

abbrev members : Stmt → List Member
members body = m.Func (init_of (body ∷ [])) ∷ []

functions_are : (body : Stmt) → functions (members body) ≡ init_of (body ∷ []) ∷ []
functions_are body = search (rules, member_lemmas)

vars_are : (body : Stmt) → vars (members body) ≡ []
vars_are body = search (rules, member_lemmas)

abbrev names : Project
names = one_class (path_of 0) [] (codes "_init" ∷ [])

names_are : (body : Stmt) → project_of (path_of 0) (members body) ≡ names
names_are body =
    ap (λ (vs : List Var). one_class (path_of 0) (map field_of vs) (map (λ (f : Func). f.name.name) (functions (members body)))) (vars_are body)
    ∙ ap (λ (fs : List Func). one_class (path_of 0) [] (map (λ (f : Func). f.name.name) fs)) (functions_are body)

-- what `_init` does that has this body
abbrev meant : Runs → ClassMeans
meant body = record { class = own_class; starts = []; functions = (codes "_init", record { name = codes "_init"; line = 1; is_static = false; params = []; result = Variant; body = body ∷ [] }) ∷ [] }

means_are : (body : Stmt) → own_means names (members body) ≡ meant (stmt names body)
means_are body = rw (functions_are body) (rw (vars_are body) refl)

abbrev writes : ℕ → Project → ClassMeans → List ℕ
writes steps P code = whole_text path_of (run_of P (bodies_of_rows (code ∷ [])) own_class steps)

-- a tree writes what the meaning of its one statement does
tree_is : (body : Stmt) (means : Runs) (steps : ℕ) → stmt names body ≡ means → tree_writes body steps ≡ writes steps names (meant means)
tree_is body means steps is = ap (λ P. writes steps P (own_means P (members body))) (names_are body) ∙ ap (writes steps names) (means_are body ∙ ap meant is)

abbrev loop_means : Runs
loop_means = walks names (at 2 2) (identifier (at 2 6) (codes "i")) (num names (at 2 11) (pos 3)) (sequence (does names (at 2 14) (call names (at 2 14) (name names (at 2 14) (codes "print")) (name names (at 2 20) (codes "i") ∷ [])) ∷ []) ∷ [])

loop_is : stmt names loop_tree ≡ loop_means
loop_is = simp made refl

abbrev print_means : ℕ → List ℕ → List Runs
print_means line text = sequence (does names (at line 6) (call names (at line 6) (name names (at line 6) (codes "print")) (txt names (at line 12) text ∷ [])) ∷ []) ∷ []

abbrev match_means : Runs
match_means = matches names (at 2 2) (lit names (at 2 8) (literal.Bool true)) (match_branch (literal_pattern names (at 3 3) false (literal.Int (pos 1)) ∷ []) (print_means 3 (codes "i")) ∷ match_branch (wildcard names (at 4 3) ∷ []) (print_means 4 (codes "w")) ∷ [])

match_is : stmt names match_tree ≡ match_means
match_is = simp made refl

loop_computed : writes 10000000 names (meant loop_means) ≡ codes "0\n1\n2\ndone steps 9 left 0\n"
unfolding everything
loop_computed = refl

spent_computed : writes 8 names (meant loop_means) ≡ codes "0\n1\n2\nspent res://m.gd:2 steps 8\n"
unfolding everything
spent_computed = refl

match_computed : writes 100 names (meant match_means) ≡ codes "w\ndone steps 3 left 0\n"
unfolding everything
match_computed = refl

pub tree_rows : TreeRows
tree_rows = record {
  row_loop = tree_is loop_tree loop_means 10000000 loop_is ∙ loop_computed;
  row_loop_spent = tree_is loop_tree loop_means 8 loop_is ∙ spent_computed;
  row_match = tree_is match_tree match_means 100 match_is ∙ match_computed;
}

-- Worked runs of whole trees, as a parser gives them.
use Rattle.std.specs.Prelude.{◌≡◌, ℕ, pos, List, [], ◌∷◌, codes, true, false, None}
use Rattle.gd_syntax.specs.declared.tree.expr.Expr.TheVariants as e
use Rattle.gd_syntax.specs.declared.tree.expr.Literal.TheVariants as literal
use Rattle.gd_syntax.specs.declared.tree.member.Func.{Func}
use Rattle.gd_syntax.specs.declared.tree.member.Member.TheVariants as m
use Rattle.gd_syntax.specs.declared.tree.pattern.Pattern.TheVariants as p
use Rattle.gd_syntax.specs.declared.tree.statement.Simple.TheVariants as simply
use Rattle.gd_syntax.specs.declared.tree.statement.Stmt.{Stmt}
use Rattle.gd_syntax.specs.declared.tree.statement.Stmt.TheVariants as s
use Rattle.script_meaning.specs.OneClass.{script_run}
use Rattle.script_meaning.specs.Runs.{whole_text}
use Rattle.script_rows.specs.Scripts.{at, path_of}

-- func _init():
abbrev pub init_of : List Stmt → Func
init_of body = record { place = at 1 1; annotations = []; is_static = false; name = record { place = at 1 6; name = codes "_init" }; params = []; result = None; body = body }

--     for i in 3: print(i)
abbrev pub loop_tree : Stmt
loop_tree = s.For (at 2 2) (record { place = at 2 6; name = codes "i" }) None (e.Literal (at 2 11) (literal.Int (pos 3)))
    (s.Line (at 2 14) (simply.Expr (at 2 14) (e.Call (at 2 14) (e.Name (at 2 14) (codes "print")) (e.Name (at 2 20) (codes "i") ∷ [])) ∷ []) ∷ [])

--     match true:
--         1: print("i")
--         _: print("w")
abbrev pub match_tree : Stmt
match_tree = s.Match (at 2 2) (e.Literal (at 2 8) (literal.Bool true))
    (record {
      patterns = p.Literal (at 3 3) false (literal.Int (pos 1)) ∷ [];
      body = s.Line (at 3 6) (simply.Expr (at 3 6) (e.Call (at 3 6) (e.Name (at 3 6) (codes "print")) (e.Literal (at 3 12) (literal.Text (codes "i")) ∷ [])) ∷ []) ∷ [];
    }
    ∷ record {
      patterns = p.Wildcard (at 4 3) ∷ [];
      body = s.Line (at 4 6) (simply.Expr (at 4 6) (e.Call (at 4 6) (e.Name (at 4 6) (codes "print")) (e.Literal (at 4 12) (literal.Text (codes "w")) ∷ [])) ∷ []) ∷ [];
    }
    ∷ [])

-- What a run of a file with this one function writes.
abbrev pub tree_writes : Stmt → ℕ → List ℕ
tree_writes body steps = whole_text path_of (script_run (path_of 0) (m.Func (init_of (body ∷ [])) ∷ []) steps)

pub record TreeRows : Type 0 where
  pub row_loop : tree_writes loop_tree 10000000 ≡ codes "0\n1\n2\ndone steps 9 left 0\n"
  pub row_loop_spent : tree_writes loop_tree 8 ≡ codes "0\n1\n2\nspent res://m.gd:2 steps 8\n"
  pub row_match : tree_writes match_tree 100 ≡ codes "w\ndone steps 3 left 0\n"

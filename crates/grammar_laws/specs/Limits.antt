-- What the limits of a script speak of, as functions of its tree.
use Rattle.std.specs.Prelude.{◌≡◌, ℕ, suc, ◌+◌, ◌≤◌, nat_le, max, Bool, true, ◌&&◌, List, [], ◌∷◌, length, map, Option, Some, None}
use Rattle.std.specs.List.{list_all}
use Rattle.gd_syntax.specs.declared.tree.statement.Stmt.{Stmt}
use Rattle.gd_syntax.specs.declared.tree.statement.Stmt.TheOpen.{Stmt-F, Branch-F, MatchBranch-F}
use Rattle.gd_syntax.specs.declared.tree.statement.Stmt.TheFolds.{fold-Stmt}
use Rattle.gd_syntax.specs.declared.tree.member.Member.{Member}
use Rattle.gd_syntax.specs.declared.tree.member.Member.TheOpen.{Member-F, Class-F}
use Rattle.gd_syntax.specs.declared.tree.member.Member.TheFolds.{fold-Member}
use Rattle.gd_syntax.specs.declared.tree.member.Script.{Script}
use Rattle.gd_syntax.specs.Levels.{most}

abbrev pub total : List ℕ → ℕ
total [] = 0
total (n ∷ ns) = n + total ns

-- ---- blocks

abbrev pub otherwise_step : Option (List ℕ) → ℕ
otherwise_step None = 0
otherwise_step (Some body) = suc (most body)

abbrev pub branch_step : Branch-F ℕ ℕ ℕ → ℕ
branch_step branch = suc (most branch.body)

abbrev pub match_step : MatchBranch-F ℕ ℕ ℕ → ℕ
match_step branch = suc (most branch.body)

abbrev pub stmt_step : Stmt-F ℕ ℕ ℕ → ℕ
stmt_step (Stmt-F.Line place all) = 0
stmt_step (Stmt-F.If place branches other) = max (most branches) (otherwise_step other)
stmt_step (Stmt-F.For place name t x body) = suc (most body)
stmt_step (Stmt-F.While place x body) = suc (most body)
stmt_step (Stmt-F.Match place x branches) = most branches

-- how many blocks nest in a statement
unfoldable pub stmt_blocks : Stmt → ℕ
stmt_blocks = fold-Stmt ℕ ℕ ℕ stmt_step branch_step match_step

-- how many blocks nest in a block of these statements, with it
abbrev pub blocks : List Stmt → ℕ
blocks body = suc (most (map stmt_blocks body))

-- ---- classes

abbrev pub depth_class : Class-F ℕ ℕ → ℕ
depth_class c = suc (most c.members)

abbrev pub depth_member : Member-F ℕ ℕ → ℕ
depth_member (Member-F.Class c) = c
depth_member _ = 0

-- how many inner classes nest in a member, with it
unfoldable pub class_depth : Member → ℕ
class_depth = fold-Member ℕ ℕ depth_member depth_class

abbrev pub count_class : Class-F ℕ ℕ → ℕ
count_class c = suc (total c.members)

abbrev pub count_member : Member-F ℕ ℕ → ℕ
count_member (Member-F.Class c) = c
count_member _ = 0

-- how many inner classes a member has in it, with it
unfoldable pub class_count : Member → ℕ
class_count = fold-Member ℕ ℕ count_member count_class

abbrev pub keeps_class : Class-F Bool Bool → Bool
keeps_class c = nat_le (length c.members) 4096 && list_all (λ b. b) c.members

abbrev pub keeps_member : Member-F Bool Bool → Bool
keeps_member (Member-F.Func f) = nat_le (length f.params) 64 && nat_le (blocks f.body) 128
keeps_member (Member-F.Signal s) = nat_le (length s.params) 64
keeps_member (Member-F.Class c) = c
keeps_member _ = true

-- Whether a member keeps the limits: a function and a signal that of parameters, the blocks of a function how deep they
-- nest, and an inner class that of members, each of which keeps the limits.
unfoldable pub keeps : Member → Bool
keeps = fold-Member Bool Bool keeps_member keeps_class

-- the limits of a script
pub record IsWithinLimits (script : Script) : Type 0 where
  pub members : length script.members ≤ 4096
  pub keep : list_all keeps script.members ≡ true
  -- inner classes nest at most so deep
  pub depth : most (map class_depth script.members) ≤ 128
  -- the file's own class counts
  pub classes : 1 + total (map class_count script.members) ≤ 256

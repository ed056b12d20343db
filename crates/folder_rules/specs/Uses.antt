-- What a file names: the paths of its bases, of `preload` and of `load`, and each identifier outside dots, those that are declared too,
-- but the one after `class_name`. Keys of `{name = value}`, node paths and the names of annotations name nothing.
use Rattle.std.specs.Prelude.{ℕ, List, [], ◌∷◌, ◌++◌, map, Option, Some, None}
use Rattle.gd_syntax.specs.declared.tree.expr.Expr.{Expr}
use Rattle.gd_syntax.specs.declared.tree.expr.Expr.TheOpen.{Expr-F}
use Rattle.gd_syntax.specs.declared.tree.expr.Expr.TheFolds.{fold-Expr}
use Rattle.gd_syntax.specs.declared.tree.member.Annotation.{Annotation}
use Rattle.gd_syntax.specs.declared.tree.member.Base.{Base}
use Rattle.gd_syntax.specs.declared.tree.member.BaseRoot.{BaseRoot}
use Rattle.gd_syntax.specs.declared.tree.member.BaseRoot.TheVariants as root
use Rattle.gd_syntax.specs.declared.tree.member.Const.{Const}
use Rattle.gd_syntax.specs.declared.tree.member.EnumItem.{EnumItem}
use Rattle.gd_syntax.specs.declared.tree.member.Head.{Head}
use Rattle.gd_syntax.specs.declared.tree.member.Head.TheVariants as head
use Rattle.gd_syntax.specs.declared.tree.member.Member.{Member}
use Rattle.gd_syntax.specs.declared.tree.member.Member.TheOpen.{Member-F, Class-F}
use Rattle.gd_syntax.specs.declared.tree.member.Member.TheFolds.{fold-Member}
use Rattle.gd_syntax.specs.declared.tree.member.Param.{Param}
use Rattle.gd_syntax.specs.declared.tree.member.Script.{Script}
use Rattle.gd_syntax.specs.declared.tree.member.Var.{Var}
use Rattle.gd_syntax.specs.declared.tree.pattern.Pattern.{Pattern}
use Rattle.gd_syntax.specs.declared.tree.pattern.Pattern.TheOpen.{Pattern-F, PatternEntry-F}
use Rattle.gd_syntax.specs.declared.tree.pattern.Pattern.TheFolds.{fold-Pattern}
use Rattle.gd_syntax.specs.declared.tree.statement.Simple.{Simple}
use Rattle.gd_syntax.specs.declared.tree.statement.Simple.TheVariants as simply
use Rattle.gd_syntax.specs.declared.tree.statement.Stmt.{Stmt}
use Rattle.gd_syntax.specs.declared.tree.statement.Stmt.TheOpen.{Stmt-F, Branch-F, MatchBranch-F}
use Rattle.gd_syntax.specs.declared.tree.statement.Stmt.TheFolds.{fold-Stmt}
use Rattle.gd_syntax.specs.declared.tree.type_name.Declared.{Declared}
use Rattle.gd_syntax.specs.declared.tree.type_name.Declared.TheVariants as declared_by
use Rattle.gd_syntax.specs.declared.tree.type_name.ElementName.{ElementName}
use Rattle.gd_syntax.specs.declared.tree.type_name.Identifier.{Identifier}
use Rattle.gd_syntax.specs.declared.tree.type_name.TypeName.{TypeName}
use Rattle.gd_syntax.specs.declared.tree.type_name.TypeName.TheVariants as written

-- a path, or an identifier
pub data Use : Type 0 where
  APath : List ℕ → Use
  AName : List ℕ → Use

abbrev pub all_of : List (List Use) → List Use
all_of [] = []
all_of (uses ∷ others) = uses ++ all_of others

abbrev pub if_there : Option (List Use) → List Use
if_there None = []
if_there (Some uses) = uses

-- the first name before a dot
abbrev pub first_name : List (List ℕ) → List Use
first_name [] = []
first_name (name ∷ names) = AName name ∷ []

abbrev pub element_uses : Option ElementName → List Use
element_uses None = []
element_uses (Some element) = first_name element.names

abbrev pub type_uses : TypeName → List Use
type_uses (written.Named place names element) = first_name names ++ element_uses element
type_uses (written.Void place) = []

abbrev pub maybe_type : Option TypeName → List Use
maybe_type None = []
maybe_type (Some t) = type_uses t

abbrev pub expr_step : Expr-F (List Use) → List Use
expr_step (Expr-F.Literal place value) = []
expr_step (Expr-F.Name place name) = AName name ∷ []
expr_step (Expr-F.This place) = []
expr_step (Expr-F.Paren place a) = a
expr_step (Expr-F.Array place all) = all_of all
expr_step (Expr-F.Dict place all) = all_of (map (λ e. e.0 ++ e.1) all)
expr_step (Expr-F.Table place all) = all_of (map (λ e. e.1) all)
expr_step (Expr-F.Preload place path) = APath path.text ∷ []
expr_step (Expr-F.Load place path) = APath path.text ∷ []
expr_step (Expr-F.NodePath place names) = []
expr_step (Expr-F.NodeText place text) = []
expr_step (Expr-F.Super place args) = all_of args
expr_step (Expr-F.SuperCall place name args) = all_of args
expr_step (Expr-F.Index place a i) = a ++ i
expr_step (Expr-F.Member place a name) = a
expr_step (Expr-F.Call place f args) = f ++ all_of args
expr_step (Expr-F.Is place a t) = a ++ type_uses t
expr_step (Expr-F.IsNot place a t) = a ++ type_uses t
expr_step (Expr-F.Prefix place op a) = a
expr_step (Expr-F.Binary place op a b) = a ++ b
expr_step (Expr-F.Not place a) = a
expr_step (Expr-F.Ternary place a c b) = a ++ c ++ b
expr_step (Expr-F.As place a t) = a ++ type_uses t

unfoldable pub expr_uses : Expr → List Use
expr_uses = fold-Expr (List Use) expr_step

abbrev pub maybe_expr : Option Expr → List Use
maybe_expr None = []
maybe_expr (Some e) = expr_uses e

abbrev pub annotation_uses : Annotation → List Use
annotation_uses a = all_of (map expr_uses a.args)

abbrev pub declared_uses : Declared → List Use
declared_uses (declared_by.Typed t e) = maybe_type t ++ maybe_expr e
declared_uses (declared_by.Inferred e) = expr_uses e

abbrev pub var_uses : Var → List Use
var_uses v = all_of (map annotation_uses v.annotations) ++ AName v.name.name ∷ declared_uses v.declared

abbrev pub const_uses : Const → List Use
const_uses c = AName c.name.name ∷ maybe_type c.type_name ++ expr_uses c.value

abbrev pub pattern_step : Pattern-F (List Use) (List Use) → List Use
pattern_step (Pattern-F.Wildcard place) = []
pattern_step (Pattern-F.Bind place name) = AName name.name ∷ []
pattern_step (Pattern-F.Literal place minus value) = []
pattern_step (Pattern-F.Path place names) = first_name names
pattern_step (Pattern-F.Array place all unended) = all_of all
pattern_step (Pattern-F.Dict place all unended) = all_of all

abbrev pub entry_step : PatternEntry-F (List Use) (List Use) → List Use
entry_step e = if_there e.value

unfoldable pub pattern_uses : Pattern → List Use
pattern_uses = fold-Pattern (List Use) (List Use) pattern_step entry_step

abbrev pub simple_uses : Simple → List Use
simple_uses (simply.Pass place) = []
simple_uses (simply.Break place) = []
simple_uses (simply.Continue place) = []
simple_uses (simply.Return place value) = maybe_expr value
simple_uses (simply.Var v) = var_uses v
simple_uses (simply.Const c) = const_uses c
simple_uses (simply.Assert place condition message) = expr_uses condition ++ maybe_expr message
simple_uses (simply.Assign place target op value) = expr_uses target ++ expr_uses value
simple_uses (simply.Expr place e) = expr_uses e

abbrev pub maybe_block : Option (List (List Use)) → List Use
maybe_block None = []
maybe_block (Some body) = all_of body

abbrev pub branch_step : Branch-F (List Use) (List Use) (List Use) → List Use
branch_step b = expr_uses b.condition ++ all_of b.body

abbrev pub match_step : MatchBranch-F (List Use) (List Use) (List Use) → List Use
match_step b = all_of (map pattern_uses b.patterns) ++ all_of b.body

abbrev pub stmt_step : Stmt-F (List Use) (List Use) (List Use) → List Use
stmt_step (Stmt-F.Line place all) = all_of (map simple_uses all)
stmt_step (Stmt-F.If place branches other) = all_of branches ++ maybe_block other
stmt_step (Stmt-F.For place name t subject body) = AName name.name ∷ maybe_type t ++ expr_uses subject ++ all_of body
stmt_step (Stmt-F.While place c body) = expr_uses c ++ all_of body
stmt_step (Stmt-F.Match place subject branches) = expr_uses subject ++ all_of branches

unfoldable pub stmt_uses : Stmt → List Use
stmt_uses = fold-Stmt (List Use) (List Use) (List Use) stmt_step branch_step match_step

abbrev pub param_uses : Param → List Use
param_uses p = AName p.name.name ∷ declared_uses p.declared

abbrev pub root_uses : BaseRoot → List Use
root_uses (root.Path text) = APath text ∷ []
root_uses (root.Name name) = AName name ∷ []

abbrev pub maybe_base : Option Base → List Use
maybe_base None = []
maybe_base (Some b) = root_uses b.root

abbrev pub item_uses : EnumItem → List Use
item_uses item = AName item.name.name ∷ maybe_expr item.value

abbrev pub class_step : Class-F (List Use) (List Use) → List Use
class_step c = AName c.name.name ∷ maybe_base c.base ++ all_of c.members

abbrev pub enum_name : Option Identifier → List Use
enum_name None = []
enum_name (Some name) = AName name.name ∷ []

abbrev pub member_step : Member-F (List Use) (List Use) → List Use
member_step (Member-F.Pass place) = []
member_step (Member-F.Var v) = var_uses v
member_step (Member-F.Const c) = const_uses c
member_step (Member-F.Enum e) = enum_name e.name ++ all_of (map item_uses e.items)
member_step (Member-F.Signal s) = AName s.name.name ∷ all_of (map param_uses s.params)
member_step (Member-F.Func f) = all_of (map annotation_uses f.annotations) ++ AName f.name.name ∷ all_of (map param_uses f.params) ++ maybe_type f.result ++ all_of (map stmt_uses f.body)
member_step (Member-F.Class c) = c

unfoldable pub member_uses : Member → List Use
member_uses = fold-Member (List Use) (List Use) member_step class_step

abbrev pub head_uses : Head → List Use
head_uses (head.Annotation a) = annotation_uses a
head_uses (head.ClassName place name base) = maybe_base base
head_uses (head.Extends place base) = root_uses base.root

unfoldable pub uses_of : Script → List Use
uses_of s = all_of (map head_uses s.heads) ++ all_of (map member_uses s.members)

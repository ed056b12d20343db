-- Why a reading stops at a token: forms of the language that are not taken have names of their own.
use Rattle.std.specs.Prelude.{ℕ, Bool, ◌||◌, if◌then◌else◌, List, codes, bytes_eq, Option, Some, None}
use Rattle.gd_syntax.specs.declared.fault.FaultKind.{FaultKind}
use Rattle.gd_syntax.specs.declared.fault.FaultKind.TheVariants.{Syntax, Unsupported}
use Rattle.gd_syntax.specs.declared.fault.Form.{Form}
use Rattle.gd_syntax.specs.declared.fault.Form.TheVariants as form
use Rattle.gd_syntax.specs.declared.stops.Sought.{Sought}
use Rattle.gd_syntax.specs.declared.stops.Sought.TheVariants.{Operand, Node, LoadPath, Parameter, VarType, VarEnd, StaticFunc, AnnotationName, Other}
use Rattle.gd_syntax.specs.declared.token.Kind.{Kind}
use Rattle.gd_syntax.specs.declared.token.Kind.TheVariants.{Mark as Marked, Name, Text}
use Rattle.gd_syntax.specs.declared.token.Mark.TheVariants as m

abbrev pub is_float_word : List ℕ → Bool
is_float_word text = bytes_eq text (codes "float") || (bytes_eq text (codes "PI") || (bytes_eq text (codes "TAU")
    || (bytes_eq text (codes "INF") || bytes_eq text (codes "NAN"))))

abbrev pub is_typeof : List ℕ → Bool
is_typeof text = bytes_eq text (codes "typeof")

abbrev pub is_load : List ℕ → Bool
is_load text = bytes_eq text (codes "load")

-- the forms that are named wherever their token stops a reading
abbrev pub word_form : Kind → Option Form
word_form (Name text) = if is_float_word text then Some form.Float else if is_typeof text then Some form.Typeof else None
word_form (Marked m.Await) = Some form.Await
word_form (Marked m.Breakpoint) = Some form.Breakpoint
word_form (Marked m.Power) = Some form.Power
word_form (Marked m.PowerAssign) = Some form.Power
word_form _ = None

-- `&` and `^` count where a string follows
abbrev pub text_form : Form → Kind → Option Form
text_form f (Text text) = Some f
text_form f _ = None

abbrev pub operand_form : Kind → Kind → Option Form
operand_form (Marked m.Func) next = Some form.Lambda
operand_form (Marked m.Amp) next = text_form form.StringName next
operand_form (Marked m.Caret) next = text_form form.NodePath next
operand_form (Marked m.Percent) next = Some form.UniqueNode
operand_form _ next = None

abbrev pub node_form : Kind → Option Form
node_form (Marked m.Percent) = Some form.UniqueNode
node_form _ = None

abbrev pub load_form : Kind → Option Form
load_form (Marked m.RParen) = None
load_form _ = Some form.ComputedLoad

abbrev pub parameter_form : Kind → Option Form
parameter_form (Marked m.Dot) = Some form.Variadic
parameter_form (Marked m.DotDot) = Some form.Variadic
parameter_form _ = None

abbrev pub var_type_form : Kind → Option Form
var_type_form (Marked m.Newline) = Some form.Property
var_type_form _ = None

abbrev pub var_end_form : Kind → Option Form
var_end_form (Marked m.Colon) = Some form.Property
var_end_form _ = None

abbrev pub static_form : Kind → Option Form
static_form (Marked m.Var) = Some form.StaticVariable
static_form _ = None

abbrev pub annotation_form : Kind → Option Form
annotation_form (Name text) = Some form.Annotation
annotation_form _ = None

abbrev pub sought_form : Sought → Kind → Kind → Option Form
sought_form Operand kind next = operand_form kind next
sought_form Node kind next = node_form kind
sought_form LoadPath kind next = load_form kind
sought_form Parameter kind next = parameter_form kind
sought_form VarType kind next = var_type_form kind
sought_form VarEnd kind next = var_end_form kind
sought_form StaticFunc kind next = static_form kind
sought_form AnnotationName kind next = annotation_form kind
sought_form Other kind next = None

abbrev pub first_form : Option Form → Option Form → Option Form
first_form (Some f) other = Some f
first_form None other = other

abbrev pub fault_of : Option Form → FaultKind
fault_of (Some f) = Unsupported f
fault_of None = Syntax

-- why no rule goes on with a token, before the one that follows it
unfoldable pub refusal : Sought → Kind → Kind → FaultKind
refusal sought kind next = fault_of (first_form (word_form kind) (sought_form sought kind next))

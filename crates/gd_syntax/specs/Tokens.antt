-- The keywords, operators and punctuation, and their spellings.
use Rattle.std.specs.Prelude.{ℕ, List, [], ◌∷◌, codes}
use Rattle.gd_syntax.specs.declared.token.Mark.{Mark}
use Rattle.gd_syntax.specs.declared.token.Mark.TheVariants as m

-- the spelling of a token without a value; a token of the layout has none
abbrev pub mark_text : Mark → List ℕ
mark_text m.And = codes "and"
mark_text m.As = codes "as"
mark_text m.Assert = codes "assert"
mark_text m.Await = codes "await"
mark_text m.Break = codes "break"
mark_text m.Breakpoint = codes "breakpoint"
mark_text m.Class = codes "class"
mark_text m.ClassName = codes "class_name"
mark_text m.Const = codes "const"
mark_text m.Continue = codes "continue"
mark_text m.Elif = codes "elif"
mark_text m.Else = codes "else"
mark_text m.Enum = codes "enum"
mark_text m.Extends = codes "extends"
mark_text m.No = codes "false"
mark_text m.For = codes "for"
mark_text m.Func = codes "func"
mark_text m.If = codes "if"
mark_text m.In = codes "in"
mark_text m.Is = codes "is"
mark_text m.Match = codes "match"
mark_text m.Namespace = codes "namespace"
mark_text m.Not = codes "not"
mark_text m.Null = codes "null"
mark_text m.Or = codes "or"
mark_text m.Pass = codes "pass"
mark_text m.Preload = codes "preload"
mark_text m.Return = codes "return"
mark_text m.This = codes "self"
mark_text m.Signal = codes "signal"
mark_text m.Static = codes "static"
mark_text m.Super = codes "super"
mark_text m.Trait = codes "trait"
mark_text m.Yes = codes "true"
mark_text m.Var = codes "var"
mark_text m.Void = codes "void"
mark_text m.While = codes "while"
mark_text m.Yield = codes "yield"
mark_text m.Plus = codes "+"
mark_text m.Minus = codes "-"
mark_text m.Star = codes "*"
mark_text m.Slash = codes "/"
mark_text m.Percent = codes "%"
mark_text m.Power = codes "**"
mark_text m.ShiftLeft = codes "<<"
mark_text m.ShiftRight = codes ">>"
mark_text m.Amp = codes "&"
mark_text m.Bar = codes "|"
mark_text m.Caret = codes "^"
mark_text m.Tilde = codes "~"
mark_text m.Bang = codes "!"
mark_text m.Equal = codes "=="
mark_text m.Differ = codes "!="
mark_text m.Less = codes "<"
mark_text m.Greater = codes ">"
mark_text m.LessEqual = codes "<="
mark_text m.GreaterEqual = codes ">="
mark_text m.AmpAmp = codes "&&"
mark_text m.BarBar = codes "||"
mark_text m.Assign = codes "="
mark_text m.PlusAssign = codes "+="
mark_text m.MinusAssign = codes "-="
mark_text m.StarAssign = codes "*="
mark_text m.SlashAssign = codes "/="
mark_text m.PercentAssign = codes "%="
mark_text m.PowerAssign = codes "**="
mark_text m.ShiftLeftAssign = codes "<<="
mark_text m.ShiftRightAssign = codes ">>="
mark_text m.AmpAssign = codes "&="
mark_text m.BarAssign = codes "|="
mark_text m.CaretAssign = codes "^="
mark_text m.ColonAssign = codes ":="
mark_text m.Colon = codes ":"
mark_text m.Semicolon = codes ";"
mark_text m.Comma = codes ","
mark_text m.Dot = codes "."
mark_text m.DotDot = codes ".."
mark_text m.Arrow = codes "->"
mark_text m.LParen = codes "("
mark_text m.RParen = codes ")"
mark_text m.LBracket = codes "["
mark_text m.RBracket = codes "]"
mark_text m.LBrace = codes "{"
mark_text m.RBrace = codes "}"
mark_text m.At = codes "@"
mark_text m.Dollar = codes "$"
mark_text m.Newline = codes ""
mark_text m.Indent = codes ""
mark_text m.Dedent = codes ""
mark_text m.End = codes ""

-- the keywords of the Godot manual's "GDScript reference", without `when`, which is one after a pattern alone
abbrev pub keywords : List Mark
keywords =
    m.And ∷ m.As ∷ m.Assert ∷ m.Await ∷ m.Break ∷ m.Breakpoint ∷ m.Class ∷ m.ClassName ∷ m.Const ∷ m.Continue ∷
    m.Elif ∷ m.Else ∷ m.Enum ∷ m.Extends ∷ m.No ∷ m.For ∷ m.Func ∷ m.If ∷ m.In ∷ m.Is ∷ m.Match ∷ m.Namespace ∷
    m.Not ∷ m.Null ∷ m.Or ∷ m.Pass ∷ m.Preload ∷ m.Return ∷ m.This ∷ m.Signal ∷ m.Static ∷ m.Super ∷ m.Trait ∷ m.Yes ∷
    m.Var ∷ m.Void ∷ m.While ∷ m.Yield ∷ []

-- its operators, and the punctuation
abbrev pub signs : List Mark
signs =
    m.Plus ∷ m.Minus ∷ m.Star ∷ m.Slash ∷ m.Percent ∷ m.Power ∷ m.ShiftLeft ∷ m.ShiftRight ∷ m.Amp ∷ m.Bar ∷ m.Caret ∷
    m.Tilde ∷ m.Bang ∷ m.Equal ∷ m.Differ ∷ m.Less ∷ m.Greater ∷ m.LessEqual ∷ m.GreaterEqual ∷ m.AmpAmp ∷ m.BarBar ∷
    m.Assign ∷ m.PlusAssign ∷ m.MinusAssign ∷ m.StarAssign ∷ m.SlashAssign ∷ m.PercentAssign ∷ m.PowerAssign ∷
    m.ShiftLeftAssign ∷ m.ShiftRightAssign ∷ m.AmpAssign ∷ m.BarAssign ∷ m.CaretAssign ∷ m.ColonAssign ∷ m.Colon ∷
    m.Semicolon ∷ m.Comma ∷ m.Dot ∷ m.DotDot ∷ m.Arrow ∷ m.LParen ∷ m.RParen ∷ m.LBracket ∷ m.RBracket ∷ m.LBrace ∷
    m.RBrace ∷ m.At ∷ m.Dollar ∷ []

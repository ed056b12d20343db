-- What parameters are declared to be.
use Rattle.std.specs.Prelude.{List}
use Rattle.gd_syntax.specs.declared.token.Token.{Token}
use Rattle.gd_syntax.specs.declared.tree.member.Param.{Param}
use Rattle.gd_syntax.specs.declared.tree.type_name.Declared.{Declared}
use Rattle.gd_syntax.specs.Reading.{Reading}
use Rattle.gd_syntax.specs.MemberGrammar.{signal_param, func_param}
use Rattle.gd_parser.specs.declared.functions.ParamOwner.{ParamOwner}
use Rattle.gd_parser.specs.declared.functions.ParamOwner.TheVariants as c

-- how those of a signal or a function are read, after those before them
abbrev pub what : List Token → ParamOwner → List Param → Reading Declared
what tokens c.Signal = signal_param tokens
what tokens c.Func = func_param tokens

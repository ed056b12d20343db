-- What the scanner adds to the list of tokens.
use Rattle.std.specs.Prelude.{◌≡◌, Bool, true, false, List, Result, Ok, Err}
use Rattle.gd_syntax.specs.declared.fault.SolveError.{SolveError}
use Rattle.gd_syntax.specs.declared.fault.SolveError.TheVariants.{Fault, NoMemory}
use Rattle.gd_syntax.specs.declared.token.Token.{Token}
use Rattle.gd_syntax.specs.Layout.{Answer, front}
use Rattle.gd_syntax.specs.TokenReading.{IsEnded}
use Rattle.gd_tokens.specs.declared.lines.Ending.{Ending}
use Rattle.gd_tokens.specs.declared.lines.Ending.TheVariants.{Ends}

-- The tokens before and these that answer `whole` are those now and these that answer `rest`. Where nothing follows,
-- they are those now.
abbrev pub IsLaid : List Token → Answer → Result Bool SolveError → List Token → Answer → Type 0
IsLaid old whole (Ok true) new rest = front old whole ≡ front new rest
IsLaid old whole (Ok false) new rest = front old whole ≡ Ok new
IsLaid old whole (Err (Fault fault)) new rest = whole ≡ Err fault
IsLaid old whole (Err NoMemory) new rest = Unit {0}

-- lines follow behind a line end alone
abbrev pub EndsLine : Ending → Result Bool SolveError → Type 0
EndsLine (Ends place) result = Unit {0}
EndsLine ending (Ok true) = ⊥
EndsLine ending result = Unit {0}

-- where no line follows, the list is whole
abbrev pub EndsList : Result Bool SolveError → List Token → Type 0
EndsList (Ok false) tokens = IsEnded tokens
EndsList _ tokens = Unit {0}

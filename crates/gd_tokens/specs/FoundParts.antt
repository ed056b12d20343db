-- What the scanner's answers stand for.
use Rattle.std.specs.Prelude.{ℕ, Bool, ◌==◌}
use Rattle.gd_syntax.specs.declared.token.Mark.{Mark}
use Rattle.gd_syntax.specs.Tokens.{mark_text}
use Rattle.gd_syntax.specs.Spellings as spec
use Rattle.gd_tokens.specs.declared.found.Found.{Found}
use Rattle.gd_tokens.specs.declared.found.Found.TheVariants.{Space, Gap, LineEnd, Token, Wrong, Unended}

abbrev pub found_of : Found → spec.Found
found_of Space = spec.space
found_of (Gap n) = spec.gap n
found_of (LineEnd n) = spec.line_end n
found_of (Token kind n) = spec.token kind n
found_of (Wrong kind n) = spec.wrong kind n
found_of Unended = spec.unended

-- how many characters there are up to the end or up to the fault
abbrev pub found_size : Found → ℕ
found_size Space = 1
found_size (Gap n) = n
found_size (LineEnd n) = n
found_size (Token kind n) = n
found_size (Wrong kind n) = n
found_size Unended = 0

-- whether the token's spelling begins with this character
abbrev pub begins_with : ℕ → Mark → Bool
begins_with c m = spec.begins (λ d. d == c) (mark_text m)

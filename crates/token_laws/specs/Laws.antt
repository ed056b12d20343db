-- What the laws of the definition of tokens say.
use Rattle.std.specs.Prelude.{◌≡◌, ℕ, ◌<◌, ◌≤◌, false, List, [], ◌∷◌, ◌++◌, length, take, Some, Err}
use Rattle.gd_syntax.specs.declared.fault.Place.{Place}
use Rattle.gd_syntax.specs.declared.fault.LoadFault.{LoadFault}
use Rattle.gd_syntax.specs.declared.fault.FaultKind.TheVariants.{BadToken}
use Rattle.gd_syntax.specs.Tokens.{signs}
use Rattle.gd_syntax.specs.declared.token.Kind.{Kind}
use Rattle.gd_syntax.specs.declared.token.Kind.TheVariants.{Mark as Marked}
use Rattle.gd_syntax.specs.Spellings.{Found, token, wrong, spelled}
use Rattle.gd_syntax.specs.Layout.{Answer, Piece, over, first_layout, is_unclosed, lines_of, pieces, text_of, text_start, tokens_in_bytes, tokens_of}
use Rattle.gd_syntax.specs.Longest.{IsLongest, is_sign_text}

-- the sign of so many characters that begins a text is the longest that does
abbrev pub IsSignToken : List ℕ → Kind → ℕ → Type 0
IsSignToken text (Marked m) size = IsLongest is_sign_text text size × (spelled signs (take size text) ≡ Some m)
IsSignToken text _ size = ⊥

-- what is found where no other token begins: the longest sign, or `BadToken` at once where no sign begins the text
abbrev pub IsSign : List ℕ → Found → Type 0
IsSign text (token kind size) = IsSignToken text kind size
IsSign text (wrong kind n) = (kind ≡ BadToken) × ((n ≡ 0) × ((k : ℕ) → 0 < k → k ≤ length text → is_sign_text (take k text) ≡ false))
IsSign text _ = ⊥

-- the answer on a text of these pieces, which ends at this place
abbrev pub answer_on : List Piece → Place → Answer
answer_on front place = tokens_of first_layout (lines_of [] (front ++ record { part = over; place = place } ∷ []))

-- A fault of the pieces that a file begins with, other than `Unclosed`, is the fault of the file, whatever stands behind
-- them, be it a byte that is no UTF-8. So the fault that comes is the first.
abbrev pub IsFirstFault : List ℕ → Type 0
IsFirstFault bytes =
    (front behind : List Piece) (here : Place) (fault : LoadFault)
    → pieces 0 text_start (text_of bytes) ≡ front ++ behind
    → answer_on front here ≡ Err fault → is_unclosed fault.kind ≡ false → tokens_in_bytes bytes ≡ Err fault

-- What the scanner's answers on strings stand for.
use Rattle.std.specs.Prelude.{ℕ, option_to_list}
use Rattle.gd_syntax.specs.Spellings as spec
use Rattle.gd_tokens.specs.declared.strings.Contents.{Contents}
use Rattle.gd_tokens.specs.declared.strings.Contents.TheVariants.{Closed, Broken, Endless}
use Rattle.gd_tokens.specs.declared.strings.Piece.{Piece}

abbrev pub piece_of : Piece → spec.Piece
piece_of piece = record { gives = option_to_list piece.gives; size = piece.size }

abbrev pub contents_of : Contents → spec.Contents
contents_of (Closed text n) = spec.closed text n
contents_of (Broken n) = spec.broken n
contents_of Endless = spec.endless

-- how many characters there are up to the end or up to the fault
abbrev pub contents_size : Contents → ℕ
contents_size (Closed text n) = n
contents_size (Broken n) = n
contents_size Endless = 0

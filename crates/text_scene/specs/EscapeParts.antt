-- What the parts of a string stand for.
use Rattle.std.specs.Prelude.{option_to_list}
use Rattle.gd_syntax.specs.Spellings as spec
use Rattle.text_scene.specs.declared.escapes.Piece.{Piece}

abbrev pub piece_of : Piece → spec.Piece
piece_of piece = record { gives = option_to_list piece.gives; size = piece.size }

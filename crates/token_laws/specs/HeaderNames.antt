-- The global name of a header, and the tokens of its lines.
use Rattle.std.specs.Prelude.{◌≡◌, ℕ, Bool, true, false, not, List, [], ◌∷◌, ◌++◌, Some, None}
use Rattle.std.specs.List.{list_all}
use Rattle.gd_syntax.specs.declared.fault.Place.{Place}
use Rattle.gd_syntax.specs.declared.token.Kind.{Kind}
use Rattle.gd_syntax.specs.declared.token.Kind.TheVariants.{Mark as Marked, Name}
use Rattle.gd_syntax.specs.declared.token.Mark.TheVariants.{ClassName}
use Rattle.gd_syntax.specs.Layout.{Part, blank, skipped, line_over, read, over, Piece, pieces, text_of, text_start}
use Rattle.gd_syntax.specs.Header.{global_of, header_text}

abbrev pub is_word_kind : Kind → Bool
is_word_kind (Marked ClassName) = true
is_word_kind _ = false

-- what the scanner reads and goes on behind, other than the word `class_name`
abbrev pub is_other : Part → Bool
is_other (blank c) = true
is_other skipped = true
is_other line_over = true
is_other (read kind) = not (is_word_kind kind)
is_other _ = false

abbrev pub is_other_piece : Piece → Bool
is_other_piece piece = is_other piece.part

abbrev pub is_blank_part : Part → Bool
is_blank_part (blank c) = true
is_blank_part _ = false

abbrev pub is_blank_piece : Piece → Bool
is_blank_piece piece = is_blank_part piece.part

-- Where the first `class_name` among the tokens of the header's lines has a name behind it, which blanks alone part from
-- it, that name is the global name of the file, at its place; where these lines have no `class_name`, the file has none.
pub record IsHeaderName (bytes : List ℕ) : Type 0 where
  pub name :
      (front blanks behind : List Piece) (place there : Place) (word : List ℕ)
      → pieces 0 text_start (header_text (text_of bytes)) ≡ front ++ record { part = read (Marked ClassName); place = place } ∷ (blanks ++ record { part = read (Name word); place = there } ∷ behind)
      → list_all is_other_piece front ≡ true → list_all is_blank_piece blanks ≡ true → global_of bytes ≡ Some (record { name = word; place = there })
  pub none :
      (front : List Piece) (place : Place) → pieces 0 text_start (header_text (text_of bytes)) ≡ front ++ record { part = over; place = place } ∷ []
      → list_all is_other_piece front ≡ true → global_of bytes ≡ None

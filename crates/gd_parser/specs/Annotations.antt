-- The names of annotations that may stand at a place.
use Rattle.std.specs.Prelude.{ℕ, Bool, not, ◌&&◌, ◌||◌, List}
use Rattle.gd_syntax.specs.DeclarationGrammar.{is_head_word, is_field_word, is_ignore_word}
use Rattle.gd_syntax.specs.MemberGrammar.{is_member_word}
use Rattle.gd_parser.specs.declared.declarations.Owner.{Owner}
use Rattle.gd_parser.specs.declared.declarations.Owner.TheVariants as o

abbrev pub may : Owner → List ℕ → Bool
may o.Statement = is_ignore_word
may o.Member = is_member_word
may (o.File behind_field behind_head) = λ name.
    is_ignore_word name || ((is_head_word name && not behind_field) || (is_field_word name && not behind_head))

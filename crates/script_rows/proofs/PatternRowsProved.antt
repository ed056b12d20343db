-- Worked runs on patterns: by computation.
use Rattle.std.proofs.Common.{◌≡◌, refl}
use Rattle.std.specs.Prelude.{codes}
use Rattle.script_rows.specs.Scripts.{writes}
use Rattle.script_rows.specs.PatternRows.{PatternRows, names_scalars, code_scalars, names_array_patterns, code_array_patterns, names_dictionary_patterns, code_dictionary_patterns, names_no_branch, code_no_branch, names_out_of_match, code_out_of_match, names_subject_lives, code_subject_lives}
use Rattle.script_rows.proofs.Compute.{everything}

row_scalars : writes names_scalars code_scalars 100 ≡ codes "zero\nfew\nfew\nminus\ntext\nnull\ntrue\nK\nother\ndone steps 37 left 0\n"
unfolding everything
row_scalars = refl

row_array_patterns : writes names_array_patterns code_array_patterns 100 ≡ codes "empty\none 9\ndeep 8\nfrom 1\nsecond 2\nother []\nother [3, 3]\ndone steps 29 left 0\n"
unfolding everything
row_array_patterns = refl

row_dictionary_patterns : writes names_dictionary_patterns code_dictionary_patterns 100 ≡ codes "none\nk 7\nhas k\none 6\nother\ndone steps 21 left 0\n"
unfolding everything
row_dictionary_patterns = refl

row_no_branch : writes names_no_branch code_no_branch 100 ≡ codes "after\ndone steps 3 left 0\n"
unfolding everything
row_no_branch = refl

row_out_of_match : writes names_out_of_match code_out_of_match 100 ≡ codes "rbb\ndone steps 22 left 0\n"
unfolding everything
row_out_of_match = refl

row_subject_lives : writes names_subject_lives code_subject_lives 100 ≡ codes "true\ntrue\ndone steps 7 left 0\n"
unfolding everything
row_subject_lives = refl

pub pattern_rows : PatternRows
pattern_rows = record { row_scalars = row_scalars; row_array_patterns = row_array_patterns; row_dictionary_patterns = row_dictionary_patterns; row_no_branch = row_no_branch; row_out_of_match = row_out_of_match; row_subject_lives = row_subject_lives }

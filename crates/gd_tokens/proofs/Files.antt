-- The text of a file.
use Rattle.std.proofs.Common.{◌≡◌, ◌∙◌, ap, ℕ, ◌==◌, List, length, take, drop, Bool, Option, Some, None, Result, arith}
use Rattle.std.specs.Prelude.{if◌then◌else◌, Vec}
use Rattle.std.specs.declared.alloc.Global.{Global}
use Rattle.std.specs.Str.{chars}
use Rattle.std.specs.Str.Lossy.{utf8_valid_len}
use Rattle.std.proofs.lemmas.List.{length-take}
use Rattle.std.proofs.lemmas.Str.{utf8_valid_len_le}
use Rattle.gd_syntax.specs.declared.fault.SolveError.{SolveError}
use Rattle.gd_syntax.specs.declared.fault.LoadFault.{LoadFault}
use Rattle.gd_syntax.specs.declared.fault.FaultKind.TheVariants.{BadBytes}
use Rattle.gd_syntax.specs.declared.token.Token.{Token}
use Rattle.gd_syntax.specs.Spellings.{begins}
use Rattle.gd_syntax.specs.Layout.{IsAnswer, at, bad_byte, past_all, text_of, text_start, tokens_before, tokens_in_bytes}

-- the characters that are read
pub read_text : (bytes valid items slice inside : List ℕ) → valid ≡ take (utf8_valid_len bytes) bytes → items ≡ chars valid → slice ≡ items
    → inside ≡ (if begins (λ c. c == 65279) slice then drop 1 slice else slice) → inside ≡ text_of bytes
read_text bytes valid items slice inside front all same is =
    let e : slice ≡ chars (take (utf8_valid_len bytes) bytes) = same ∙ all ∙ ap chars front in
    is ∙ ap (λ text. if begins (λ c. c == 65279) text then drop 1 text else text) e

-- what stands behind the text
pub byte_behind : (bytes valid inside : List ℕ) (is_whole : Bool) (bad : Option LoadFault) → valid ≡ take (utf8_valid_len bytes) bytes → is_whole ≡ (length valid == length bytes) → inside ≡ text_of bytes
    → bad ≡ (if is_whole then None else Some (at BadBytes (past_all text_start inside))) → bad ≡ bad_byte bytes
unfolding bad_byte
byte_behind bytes valid inside is_whole bad front whole same is =
    let size : length valid ≡ utf8_valid_len bytes = omega (arith, ap length front, length-take (utf8_valid_len bytes) bytes, utf8_valid_len_le bytes) in
    let test : is_whole ≡ (utf8_valid_len bytes == length bytes) = whole ∙ ap (λ n. n == length bytes) size in
    is ∙ ap (λ b. if b then None else Some (at BadBytes (past_all text_start inside))) test
    ∙ ap (λ text. if utf8_valid_len bytes == length bytes then None else Some (at BadBytes (past_all text_start text))) same

pub whole_file : (bytes inside : List ℕ) (bad : Option LoadFault) (result : Result (Vec Token Global) SolveError) → inside ≡ text_of bytes → bad ≡ bad_byte bytes
    → IsAnswer result (tokens_before bad inside) → IsAnswer result (tokens_in_bytes bytes)
unfolding tokens_in_bytes
whole_file bytes inside bad result same is answer = rw (← same, ← is) answer

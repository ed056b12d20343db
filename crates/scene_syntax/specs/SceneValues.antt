-- Values of scenes: strings, whole numbers, `true`, `false`, `null`, arrays, dictionaries and `ExtResource("id")`; and those that are skipped.
use Rattle.std.specs.Prelude.{ℕ, zero, suc, ℤ, pos, negsuc, ◌^◌, Bool, true, false, ◌||◌, ◌&&◌, ◌==◌, nat_lt, if◌then◌else◌, List, [], ◌∷◌, codes, Option, Some, None}
use Rattle.std.specs.Char.{is_ascii_digit}
use Rattle.std.specs.Str.Parse.{digits_value}
use Rattle.gd_syntax.specs.Spellings.{begins, is_blank, line_end_len}
use Rattle.scene_syntax.specs.declared.scene.ResourceUse.{ResourceUse}
use Rattle.scene_syntax.specs.declared.scene.SceneValue.{SceneValue}
use Rattle.scene_syntax.specs.declared.scene.SceneValue.TheVariants as scene
use Rattle.scene_syntax.specs.Values.{Inside, outside, inside_after, depth_after, is_closed, one_more}
use Rattle.scene_syntax.specs.Cursors.{got, broken, stops, Reader, ◌>>=◌, give, fail, pass, is, when_next, expect, spelled, span, string, gaps}

-- a whole number from -2^63 to 2^63 - 1
abbrev pub negative : ℕ → ℤ
negative zero = pos 0
negative (suc n) = negsuc n

abbrev pub ranged : Bool → ℕ → Reader SceneValue
ranged true n = λ at. if nat_lt (2 ^ 63) n then broken else got (scene.Int (negative n)) at
ranged false n = λ at. if nat_lt n (2 ^ 63) then got (scene.Int (pos n)) at else broken

abbrev pub digits : Bool → Reader SceneValue
digits is_negative = span is_ascii_digit >>= λ all. ranged is_negative (digits_value 10 all)

abbrev pub number : Reader SceneValue
number = when_next (is 45) (pass 1 >>= λ _. digits true) (digits false)

-- `ExtResource("id")`
abbrev pub resource : Reader ResourceUse
resource = λ at. (spelled (codes "ExtResource(") >>= λ _. string >>= λ id. expect 41 >>= λ _. give (record { place = at.place; id = id })) at

abbrev pub word : List ℕ → SceneValue → Reader SceneValue
word text value = spelled text >>= λ _. give value

-- The items behind `[`, of which the list has fewer than n more.
module _ (value : Reader SceneValue) where
  unfoldable pub items : ℕ → Reader (List SceneValue)
  items zero = fail
  items (suc n) =
      value >>= λ item. gaps >>= λ _.
      when_next (is 44) (pass 1 >>= λ _. gaps >>= λ _. items n >>= λ more. give (item ∷ more)) (expect 93 >>= λ _. give (item ∷ []))

  unfoldable pub entries : ℕ → Reader (List (SceneValue × SceneValue))
  entries zero = fail
  entries (suc n) =
      value >>= λ key. gaps >>= λ _. expect 58 >>= λ _. gaps >>= λ _. value >>= λ item. gaps >>= λ _.
      when_next (is 44) (pass 1 >>= λ _. gaps >>= λ _. entries n >>= λ more. give ((key, item) ∷ more)) (expect 125 >>= λ _. give ((key, item) ∷ []))

-- a value, in a text of fewer than n characters
unfoldable pub value : ℕ → Reader SceneValue
value zero = fail
value (suc n) =
    when_next (is 34) (string >>= λ text. give (scene.Str text))
    (when_next (λ c. c == 45 || is_ascii_digit c) number
    (when_next (is 91) (pass 1 >>= λ _. gaps >>= λ _. when_next (is 93) (pass 1 >>= λ _. give (scene.Array [])) (items (value n) n >>= λ all. give (scene.Array all)))
    (when_next (is 123) (pass 1 >>= λ _. gaps >>= λ _. when_next (is 125) (pass 1 >>= λ _. give (scene.Dict [])) (entries (value n) n >>= λ all. give (scene.Dict all)))
    (when_next (is 69) (resource >>= λ found. give (scene.Resource found))
    (when_next (is 116) (word (codes "true") (scene.Bool true))
    (when_next (is 102) (word (codes "false") (scene.Bool false))
    (when_next (is 110) (word (codes "null") scene.Null) fail)))))))

-- where a value that is skipped ends, outside strings and brackets
abbrev pub ends_part : List ℕ → Bool
ends_part text = begins (λ c. is_blank c || c == 93) text || nat_lt 0 (line_end_len text)

unfoldable pub part_len : Inside → ℕ → List ℕ → Option ℕ
part_len inside depth [] = if is_closed inside depth then Some 0 else None
part_len inside depth (c ∷ text) =
    if is_closed inside depth && ends_part (c ∷ text) then Some 0
    else one_more (part_len (inside_after inside c) (depth_after inside depth c) text)

abbrev pub of_len : Option ℕ → Reader (List ℕ)
of_len None = λ at. stops
of_len (Some zero) = fail
of_len (Some (suc n)) = pass (suc n)

-- a value of any form, as it stands
abbrev pub part : Reader (List ℕ)
part = λ at. of_len (part_len outside 0 at.rest) at

abbrev pub onto : ℕ → Option (List ℕ) → Option (List ℕ)
onto c None = None
onto c (Some text) = Some (c ∷ text)

-- what stands before the closing quote, which has to be the last character
abbrev pub before_quote : Bool → List ℕ → Option (List ℕ)
before_quote is_escaped [] = None
before_quote true (c ∷ text) = onto c (before_quote false text)
before_quote false (c ∷ []) = if c == 34 then Some [] else None
before_quote false (c ∷ d ∷ text) = if c == 34 then None else onto c (before_quote (c == 92) (d ∷ text))

-- a string whose text counts as it stands between its quotes
abbrev pub unquoted : List ℕ → Option (List ℕ)
unquoted [] = None
unquoted (c ∷ text) = if c == 34 then before_quote false text else None

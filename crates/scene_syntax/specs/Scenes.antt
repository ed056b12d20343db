-- What the bytes of a text scene say, or their first fault; and the uid of its heading.
use Rattle.std.specs.Prelude.{ℕ, zero, suc, Bool, false, ◌||◌, nat_lt, if◌then◌else◌, List, [], ◌∷◌, length, take, codes, bytes_eq, Option, Some, None, is_some, Result, Ok, Err}
use Rattle.std.specs.List.{list_all, starts_with}
use Rattle.std.specs.Prelude.{nat_eq}
use Rattle.gd_syntax.specs.declared.fault.FaultKind.TheVariants.{SceneSyntax}
use Rattle.gd_syntax.specs.declared.fault.LoadFault.{LoadFault}
use Rattle.gd_syntax.specs.declared.fault.Place.{Place}
use Rattle.gd_syntax.specs.Layout.{at, bad_byte, text_of, text_start}
use Rattle.gd_syntax.specs.Spellings.{begins, is_blank, line_len}
use Rattle.scene_syntax.specs.declared.scene.Heading.{Heading}
use Rattle.scene_syntax.specs.declared.scene.HeadingKind.{HeadingKind}
use Rattle.scene_syntax.specs.declared.scene.Property.{Property}
use Rattle.scene_syntax.specs.declared.scene.SceneFile.{SceneFile}
use Rattle.scene_syntax.specs.Cursors.{Cursor, Got, got, broken, stops, Reader, ◌>>=◌, give, pass, is, when_next, expect, span, line_over}
use Rattle.scene_syntax.specs.Headings.{Attribute, Checked, Seen, Word, gd_scene, checked, first_unquoted, heading, is_word_character, named, seen_after}
use Rattle.scene_syntax.specs.Project.{end_fault}
use Rattle.scene_syntax.specs.SceneValues.{value, part}

-- a line of a scene
pub data SceneLine : Type 0 where
  -- a blank line or a comment
  nothing : SceneLine
  -- a property that is skipped
  a_skipped : SceneLine
  a_heading : Word → List Attribute → SceneLine
  a_property : Property → SceneLine

abbrev pub is_skipped : List ℕ → Bool
is_skipped name =
    bytes_eq name (codes "process_mode") || bytes_eq name (codes "process_priority") || bytes_eq name (codes "editor_description") || starts_with nat_eq name (codes "metadata/")

abbrev pub property_value : ℕ → Place → List ℕ → Reader SceneLine
property_value n place name =
    if is_skipped name then (part >>= λ _. give a_skipped)
    else (value n >>= λ found. give (a_property (record { place = place; name = name; value = found })))

abbrev pub property : ℕ → Reader SceneLine
property n = λ from. (span is_word_character >>= λ name. span is_blank >>= λ _. expect 61 >>= λ _. span is_blank >>= λ _. property_value n from.place name) from

-- the line that begins here, up to its end
abbrev pub line_body : ℕ → Reader SceneLine
line_body n = λ from.
    let row = take (line_len from.rest) from.rest in
    if list_all is_blank row || begins (is 59) row then (pass (length row) >>= λ _. give nothing) from
    else when_next (is 91) (heading n >>= λ found. give (a_heading found.0 found.1)) (property n) from

abbrev pub line : Bool → ℕ → Reader SceneLine
line is_cut n = line_body n >>= λ found. line_over is_cut >>= λ _. give found

-- What is read so far of a scene: properties that stand below no heading yet, and headings.
pub record Read : Type 0 where
  pub properties : List Property
  pub headings : List Heading

abbrev pub Lines : Type 0
Lines = Result Read LoadFault

abbrev pub below : (Read → Read) → Lines → Lines
below f (Ok more) = Ok (f more)
below f (Err fault) = Err fault

abbrev pub property_onto : Property → Read → Read
property_onto p more = record { properties = p ∷ more.properties; headings = more.headings }

abbrev pub heading_onto : Place → HeadingKind → Read → Read
heading_onto place kind more = record { properties = []; headings = record { place = place; kind = kind; properties = more.properties } ∷ more.headings }

-- A scene has a node.
abbrev pub at_end : Option LoadFault → Seen → Lines
at_end (Some fault) seen = Err fault
at_end None seen = if seen.has_node then Ok (record { properties = []; headings = [] }) else Err (at SceneSyntax text_start)

module _ (bad : Option LoadFault) where
  abbrev pub with_heading : Place → Seen → Checked → (Seen → Lines) → Lines
  with_heading place seen (Err fault) more = Err (at fault place)
  with_heading place seen (Ok kind) more = below (heading_onto place kind) (more (seen_after seen kind))

  abbrev pub with_property : Property → Seen → (Seen → Lines) → Lines
  with_property p seen more = if seen.has_scene then below (property_onto p) (more seen) else Err (at SceneSyntax p.place)

  abbrev pub with_line : Place → Seen → SceneLine → (Seen → Lines) → Lines
  with_line place seen nothing more = more seen
  with_line place seen a_skipped more = if seen.has_scene then more seen else Err (at SceneSyntax place)
  with_line place seen (a_heading word all) more = with_heading place seen (checked seen word all) more
  with_line place seen (a_property p) more = with_property p seen more

  abbrev pub after_line : Place → Seen → Got SceneLine → (Seen → Cursor → Lines) → Lines
  after_line place seen (got found next) more = with_line place seen found (λ after. more after next)
  after_line place seen broken more = Err (at SceneSyntax place)
  after_line place seen stops more = Err (end_fault place bad)

  -- the lines of a text of fewer than n characters
  unfoldable pub lines : ℕ → ℕ → Seen → Cursor → Lines
  lines zero all seen from = at_end bad seen
  lines (suc n) all seen from =
      if nat_lt 0 (length from.rest) then after_line from.place seen (line (is_some bad) all from) (λ after next. lines n all after next)
      else at_end bad seen

abbrev pub Answer : Type 0
Answer = Result SceneFile LoadFault

abbrev pub scene_in : Lines → Answer
scene_in (Ok found) = Ok (record { headings = found.headings })
scene_in (Err fault) = Err fault

abbrev pub nothing_seen : Seen
nothing_seen = record { has_scene = false; has_node = false; ids = [] }

abbrev pub start : List ℕ → Cursor
start text = record { place = text_start; rest = text }

-- the content of the scene in these bytes, or its first fault
unfoldable pub scene_of : List ℕ → Answer
scene_of bytes =
    let text = text_of bytes in
    scene_in (lines (bad_byte bytes) (suc (length text)) (suc (length text)) nothing_seen (start text))

-- The first line that is no comment and not blank is a heading `gd_scene` with a uid.
abbrev pub uid_in : Word → List Attribute → Option (List ℕ)
uid_in gd_scene all = first_unquoted (named (codes "uid") all)
uid_in _ all = None

abbrev pub uid_or : SceneLine → Option (List ℕ) → Option (List ℕ)
uid_or nothing more = more
uid_or a_skipped more = None
uid_or (a_heading word all) more = uid_in word all
uid_or (a_property p) more = None

abbrev pub after_uid : Got SceneLine → (Cursor → Option (List ℕ)) → Option (List ℕ)
after_uid (got found next) more = uid_or found (more next)
after_uid broken more = None
after_uid stops more = None

module _ (is_cut : Bool) where
  unfoldable pub first_uid : ℕ → ℕ → Cursor → Option (List ℕ)
  first_uid zero all from = None
  first_uid (suc n) all from = if nat_lt 0 (length from.rest) then after_uid (line is_cut all from) (λ next. first_uid n all next) else None

unfoldable pub uid_of : List ℕ → Option (List ℕ)
uid_of bytes =
    let text = text_of bytes in
    first_uid (is_some (bad_byte bytes)) (suc (length text)) (suc (length text)) (start text)

-- Headings `[word key=value ..]` of scenes, and what each of them may have (Godot manual, "TSCN file format").
use Rattle.std.specs.Prelude.{ℕ, zero, suc, pos, Bool, true, false, not, ◌||◌, ◌&&◌, ◌==◌, if◌then◌else◌, List, [], ◌∷◌, length, map, codes, bytes_eq, Option, Some, None, is_some, Result, Ok, Err}
use Rattle.std.specs.List.{list_all, list_any, filter, find}
use Rattle.gd_syntax.specs.declared.fault.FaultKind.{FaultKind}
use Rattle.gd_syntax.specs.declared.fault.FaultKind.TheVariants.{SceneSyntax, Unsupported}
use Rattle.gd_syntax.specs.declared.fault.Form.TheVariants as form
use Rattle.gd_syntax.specs.Spellings.{is_blank}
use Rattle.scene_syntax.specs.declared.scene.HeadingKind.{HeadingKind}
use Rattle.scene_syntax.specs.declared.scene.HeadingKind.TheVariants as kind
use Rattle.scene_syntax.specs.declared.scene.NodeOrigin.TheVariants as origin
use Rattle.scene_syntax.specs.declared.scene.ResourceType.TheVariants as of_type
use Rattle.scene_syntax.specs.declared.scene.SceneValue.{SceneValue}
use Rattle.scene_syntax.specs.declared.scene.SceneValue.TheVariants as scene
use Rattle.scene_syntax.specs.Cursors.{Reader, ◌>>=◌, give, fail, pass, is, when_next, expect, span}
use Rattle.scene_syntax.specs.SceneValues.{value, part, unquoted}

-- which values an attribute may have
pub data Want : Type 0 where
  any_value : Want
  text : Want
  resource : Want
  -- a string whose text counts as it stands
  as_written : Want

pub record Known : Type 0 where
  pub name : List ℕ
  pub want : Want
  pub is_required : Bool

abbrev pub needs : List ℕ → Want → Known
needs name want = record { name = name; want = want; is_required = true }

abbrev pub may_have : List ℕ → Want → Known
may_have name want = record { name = name; want = want; is_required = false }

pub data Word : Type 0 where
  gd_scene : Word
  ext_resource : Word
  node : Word
  connection : Word
  sub_resource : Word
  editable : Word
  no_word : Word

abbrev pub word_of : List ℕ → Word
word_of name =
    if bytes_eq name (codes "gd_scene") then gd_scene
    else if bytes_eq name (codes "ext_resource") then ext_resource
    else if bytes_eq name (codes "node") then node
    else if bytes_eq name (codes "connection") then connection
    else if bytes_eq name (codes "sub_resource") then sub_resource
    else if bytes_eq name (codes "editable") then editable
    else no_word

-- the attributes that are not skipped
abbrev pub known_in : Word → List Known
known_in gd_scene = needs (codes "format") any_value ∷ may_have (codes "load_steps") any_value ∷ may_have (codes "uid") as_written ∷ []
known_in ext_resource = needs (codes "type") text ∷ needs (codes "path") text ∷ needs (codes "id") text ∷ []
known_in node = needs (codes "name") text ∷ may_have (codes "type") text ∷ may_have (codes "parent") text ∷ may_have (codes "instance") resource ∷ []
known_in connection =
    needs (codes "signal") text ∷ needs (codes "from") text ∷ needs (codes "to") text ∷ needs (codes "method") text
    ∷ may_have (codes "flags") any_value ∷ may_have (codes "binds") any_value ∷ may_have (codes "unbinds") any_value ∷ []
known_in sub_resource = []
known_in editable = []
known_in no_word = []

pub data AttributeValue : Type 0 where
  read : SceneValue → AttributeValue
  written : List ℕ → AttributeValue

pub record Attribute : Type 0 where
  pub name : List ℕ
  pub value : AttributeValue

abbrev pub as_it_stands : Want → Bool
as_it_stands as_written = true
as_it_stands _ = false

abbrev pub value_wanted : ℕ → Option Known → Reader AttributeValue
value_wanted n None = part >>= λ found. give (written found)
value_wanted n (Some known) = if as_it_stands known.want then (part >>= λ found. give (written found)) else (value n >>= λ found. give (read found))

abbrev pub is_word_character : ℕ → Bool
is_word_character c = not (is_blank c) && not (c == 61) && not (c == 91) && not (c == 93) && not (c == 34) && not (c == 10) && not (c == 13)

-- the attributes up to the closing bracket, of which there are fewer than n
unfoldable pub attributes : List Known → ℕ → Reader (List Attribute)
attributes known zero = fail
attributes known (suc n) =
    when_next (is 93) (pass 1 >>= λ _. give [])
    (span is_blank >>= λ _. span is_word_character >>= λ name. expect 61 >>= λ _.
    value_wanted n (find (λ k. bytes_eq k.name name) known) >>= λ found. attributes known n >>= λ more.
    give (record { name = name; value = found } ∷ more))

-- a heading's word and attributes
abbrev pub heading : ℕ → Reader (Word × List Attribute)
heading n = expect 91 >>= λ _. span is_word_character >>= λ name. attributes (known_in (word_of name)) n >>= λ all. give (word_of name, all)

-- Checks of a heading that was read.

abbrev pub fits : Want → AttributeValue → Bool
fits any_value (read found) = true
fits text (read (scene.Str found)) = true
fits resource (read (scene.Resource found)) = true
fits as_written (written found) = is_some (unquoted found)
fits _ _ = false

-- the values of the attributes of this name
abbrev pub named : List ℕ → List Attribute → List AttributeValue
named name all = map (λ a. a.value) (filter (λ a. bytes_eq a.name name) all)

abbrev pub has_one : Bool → ℕ → Bool
has_one is_required zero = not is_required
has_one is_required (suc n) = n == 0

abbrev pub is_right : List Attribute → Known → Bool
is_right all known = has_one known.is_required (length (named known.name all)) && list_all (fits known.want) (named known.name all)

abbrev pub has : List ℕ → List Attribute → Bool
has name all = list_any (λ a. bytes_eq a.name name) all

abbrev pub text_in : AttributeValue → List ℕ
text_in (read (scene.Str found)) = found
text_in _ = []

abbrev pub first_text : List AttributeValue → List ℕ
first_text [] = []
first_text (found ∷ all) = text_in found

-- the text of an attribute that has one
abbrev pub text_at : List ℕ → List Attribute → List ℕ
text_at name all = first_text (named name all)

abbrev pub maybe_text : List ℕ → List Attribute → Option (List ℕ)
maybe_text name all = if has name all then Some (text_at name all) else None

abbrev pub first_unquoted : List AttributeValue → Option (List ℕ)
first_unquoted [] = None
first_unquoted (written found ∷ all) = unquoted found
first_unquoted (read found ∷ all) = None

-- what the headings before this one have
pub record Seen : Type 0 where
  pub has_scene : Bool
  pub has_node : Bool
  pub ids : List (List ℕ)

abbrev pub Checked : Type 0
Checked = Result HeadingKind FaultKind

abbrev pub is_three : List AttributeValue → Bool
is_three (read (scene.Int (pos n)) ∷ all) = n == 3
is_three _ = false

abbrev pub scene_kind : List Attribute → Checked
scene_kind all = if is_three (named (codes "format") all) then Ok (kind.Scene (first_unquoted (named (codes "uid") all))) else Err SceneSyntax

abbrev pub resource_kind : Seen → List Attribute → Checked
resource_kind seen all =
    let id = text_at (codes "id") all in
    let path = text_at (codes "path") all in
    let of = text_at (codes "type") all in
    if list_any (bytes_eq id) seen.ids then Err SceneSyntax
    else if bytes_eq of (codes "Script") then Ok (kind.Resource of_type.Script path id)
    else if bytes_eq of (codes "PackedScene") then Ok (kind.Resource of_type.PackedScene path id)
    else Err (Unsupported form.ResourceType)

-- a node with one of `type` and `instance`
abbrev pub made_node : List Attribute → List AttributeValue → Checked
made_node all (read (scene.Resource use_of) ∷ more) = Ok (kind.Node (text_at (codes "name") all) (maybe_text (codes "parent") all) (origin.Instance use_of))
made_node all _ =
    if bytes_eq (text_at (codes "type") all) (codes "Node") then Ok (kind.Node (text_at (codes "name") all) (maybe_text (codes "parent") all) origin.Node)
    else Err (Unsupported form.NodeType)

abbrev pub node_kind : Seen → List Attribute → Checked
node_kind seen all =
    if (has (codes "type") all && has (codes "instance") all) || (seen.has_node && not (has (codes "parent") all)) then Err SceneSyntax
    else if not seen.has_node && (has (codes "parent") all || has (codes "instance") all) then Err (Unsupported form.InheritedScene)
    else if not (has (codes "type") all) && not (has (codes "instance") all) then Err (Unsupported form.EditableChildren)
    else made_node all (named (codes "instance") all)

abbrev pub connection_kind : List Attribute → Checked
connection_kind all =
    if has (codes "flags") all || has (codes "binds") all || has (codes "unbinds") all then Err (Unsupported form.ConnectionOption)
    else Ok (kind.Connection (text_at (codes "signal") all) (text_at (codes "from") all) (text_at (codes "to") all) (text_at (codes "method") all))

abbrev pub kind_of : Seen → Word → List Attribute → Checked
kind_of seen gd_scene all = scene_kind all
kind_of seen ext_resource all = resource_kind seen all
kind_of seen node all = node_kind seen all
kind_of seen connection all = connection_kind all
kind_of seen sub_resource all = Err (Unsupported form.SubResource)
kind_of seen editable all = Err (Unsupported form.EditableChildren)
kind_of seen no_word all = Err SceneSyntax

abbrev pub is_scene_word : Word → Bool
is_scene_word gd_scene = true
is_scene_word _ = false

abbrev pub is_same : Bool → Bool → Bool
is_same a b = if a then b else not b

-- `gd_scene` is the first heading and no other.
abbrev pub checked : Seen → Word → List Attribute → Checked
checked seen word all =
    if is_same (is_scene_word word) (not seen.has_scene) && list_all (is_right all) (known_in word) then kind_of seen word all else Err SceneSyntax

abbrev pub seen_after : Seen → HeadingKind → Seen
seen_after seen (kind.Scene uid) = record seen { has_scene = true }
seen_after seen (kind.Resource of path id) = record seen { ids = id ∷ seen.ids }
seen_after seen (kind.Node name parent made) = record seen { has_node = true }
seen_after seen (kind.Connection signal from to method) = seen

-- Worked rows of scenes: the bytes of a file, and its headings or its first fault; and the uid of its heading.
use Rattle.std.specs.Prelude.{◌≡◌, ℕ, pos, negsuc, true, List, [], ◌∷◌, ◌++◌, codes, Some, None, Ok, Err}
use Rattle.gd_syntax.specs.declared.fault.FaultKind.{FaultKind}
use Rattle.gd_syntax.specs.declared.fault.FaultKind.TheVariants.{BadBytes, SceneSyntax, Unsupported}
use Rattle.gd_syntax.specs.declared.fault.Form.TheVariants as form
use Rattle.gd_syntax.specs.declared.fault.Place.{Place}
use Rattle.scene_syntax.specs.declared.scene.Heading.{Heading}
use Rattle.scene_syntax.specs.declared.scene.HeadingKind.{HeadingKind}
use Rattle.scene_syntax.specs.declared.scene.HeadingKind.TheVariants as kind
use Rattle.scene_syntax.specs.declared.scene.NodeOrigin.TheVariants as origin
use Rattle.scene_syntax.specs.declared.scene.Property.{Property}
use Rattle.scene_syntax.specs.declared.scene.ResourceType.TheVariants as of_type
use Rattle.scene_syntax.specs.declared.scene.ResourceUse.{ResourceUse}
use Rattle.scene_syntax.specs.declared.scene.SceneValue.{SceneValue}
use Rattle.scene_syntax.specs.declared.scene.SceneValue.TheVariants as scene
use Rattle.scene_syntax.specs.Scenes.{Answer, scene_of, uid_of}

abbrev pub place_at : ℕ → ℕ → Place
place_at line column = record { line = line; column = column }

abbrev pub fails : FaultKind → ℕ → ℕ → Answer
fails kind line column = Err (record { kind = kind; place = place_at line column })

abbrev pub says : List Heading → Answer
says headings = Ok (record { headings = headings })

abbrev pub heading : ℕ → HeadingKind → List Property → Heading
heading line kind properties = record { place = place_at line 1; kind = kind; properties = properties }

abbrev pub property : ℕ → List ℕ → SceneValue → Property
property line name value = record { place = place_at line 1; name = name; value = value }

abbrev pub use_at : ℕ → ℕ → List ℕ → ResourceUse
use_at line column id = record { place = place_at line column; id = id }

-- a scene's first line, and a node on the next
abbrev pub first : List ℕ
first = codes "[gd_scene format=3]\n"

abbrev pub root : List ℕ
root = codes "[gd_scene format=3]\n[node name=\"A\" type=\"Node\"]\n"

abbrev pub a_root : List Property → List Heading
a_root properties = heading 1 (kind.Scene None) [] ∷ heading 2 (kind.Node (codes "A") None origin.Node) properties ∷ []

abbrev pub with_value : SceneValue → Answer
with_value value = says (a_root (property 3 (codes "a") value ∷ []))

-- a scene as the editor writes it
abbrev pub main : List ℕ
main =
    codes "[gd_scene load_steps=3 format=3 uid=\"uid://c4main\"]\n\n"
    ++ codes "[ext_resource type=\"Script\" path=\"res://main.gd\" id=\"1_a\"]\n"
    ++ codes "[ext_resource type=\"PackedScene\" uid=\"uid://c4lamp\" path=\"res://lamp.tscn\" id=\"2_b\"]\n\n"
    ++ codes "[node name=\"Main\" type=\"Node\"]\nscript = ExtResource(\"1_a\")\n\n"
    ++ codes "[node name=\"Lamp\" parent=\".\" instance=ExtResource(\"2_b\")]\nwatts = 40\n\n"
    ++ codes "[connection signal=\"lit\" from=\"Lamp\" to=\".\" method=\"_on_lamp_lit\"]\n"

pub record SceneRows : Type 0 where
  pub written :
      scene_of main
      ≡ says (
      heading 1 (kind.Scene (Some (codes "uid://c4main"))) []
      ∷ heading 3 (kind.Resource of_type.Script (codes "res://main.gd") (codes "1_a")) []
      ∷ heading 4 (kind.Resource of_type.PackedScene (codes "res://lamp.tscn") (codes "2_b")) []
      ∷ heading 6 (kind.Node (codes "Main") None origin.Node) (property 7 (codes "script") (scene.Resource (use_at 7 10 (codes "1_a"))) ∷ [])
      ∷ heading 9 (kind.Node (codes "Lamp") (Some (codes ".")) (origin.Instance (use_at 9 39 (codes "2_b")))) (property 10 (codes "watts") (scene.Int (pos 40)) ∷ [])
      ∷ heading 12 (kind.Connection (codes "lit") (codes "Lamp") (codes ".") (codes "_on_lamp_lit")) []
      ∷ [])
  pub written_uid : uid_of main ≡ Some (codes "uid://c4main")
  -- the first heading, and a scene without a node
  pub empty : scene_of [] ≡ fails SceneSyntax 1 1
  pub no_node : scene_of first ≡ fails SceneSyntax 1 1
  pub other_format : scene_of (codes "[gd_scene format=2]\n") ≡ fails SceneSyntax 1 1
  pub no_format : scene_of (codes "[gd_scene]\n") ≡ fails SceneSyntax 1 1
  pub twice : scene_of (codes "[gd_scene format=3 format=3]\n") ≡ fails SceneSyntax 1 1
  pub node_first : scene_of (codes "; none\n[node name=\"A\" type=\"Node\"]\n") ≡ fails SceneSyntax 2 1
  pub second_scene : scene_of (first ++ first) ≡ fails SceneSyntax 2 1
  pub property_first : scene_of (codes "\na = 1\n") ≡ fails SceneSyntax 2 1
  -- resources
  pub other_type : scene_of (first ++ codes "[ext_resource type=\"Texture2D\" path=\"a\" id=\"1\"]\n") ≡ fails (Unsupported form.ResourceType) 2 1
  pub same_id :
      scene_of (first ++ codes "[ext_resource type=\"Script\" path=\"a\" id=\"1\"]\n[ext_resource type=\"Texture2D\" path=\"a\" id=\"1\"]\n") ≡ fails SceneSyntax 3 1
  pub sub_resource : scene_of (first ++ codes "[sub_resource type=\"Curve\" id=\"1\"]\n") ≡ fails (Unsupported form.SubResource) 2 1
  -- nodes
  pub other_node : scene_of (first ++ codes "[node name=\"A\" type=\"Node2D\"]\n") ≡ fails (Unsupported form.NodeType) 2 1
  pub inherited : scene_of (first ++ codes "[node name=\"A\" parent=\".\"]\n") ≡ fails (Unsupported form.InheritedScene) 2 1
  pub editable_children : scene_of (first ++ codes "[node name=\"A\"]\n") ≡ fails (Unsupported form.EditableChildren) 2 1
  pub second_root : scene_of (root ++ codes "[node name=\"B\" type=\"Node\"]\n") ≡ fails SceneSyntax 3 1
  pub type_and_instance : scene_of (root ++ codes "[node name=\"B\" parent=\".\" type=\"Node\" instance=ExtResource(\"1\")]\n") ≡ fails SceneSyntax 3 1
  pub wrong_kind : scene_of (root ++ codes "[node name=7 parent=\".\" type=\"Node2D\"]\n") ≡ fails SceneSyntax 3 1
  pub skipped_attribute : scene_of (first ++ codes "[node name=\"A\" groups=[\"a ]\", \"b\"] type=\"Node\"]\n") ≡ says (a_root [])
  -- connections
  pub option : scene_of (root ++ codes "[connection signal=\"a\" from=\".\" to=\".\" method=\"b\" flags=3]\n") ≡ fails (Unsupported form.ConnectionOption) 3 1
  pub no_method : scene_of (root ++ codes "[connection signal=\"a\" from=\".\" to=\".\" flags=3]\n") ≡ fails SceneSyntax 3 1
  -- properties and values
  pub values :
      scene_of (root ++ codes "a = [1, {\"k\": -2 ,\r\n null : true}, [ ]]")
      ≡ with_value (scene.Array (scene.Int (pos 1) ∷ scene.Dict ((scene.Str (codes "k"), scene.Int (negsuc 1)) ∷ (scene.Null, scene.Bool true) ∷ []) ∷ scene.Array [] ∷ []))
  pub least : scene_of (root ++ codes "a = -9223372036854775808\n") ≡ with_value (scene.Int (negsuc 9223372036854775807))
  pub too_large : scene_of (root ++ codes "a = 9223372036854775808\n") ≡ fails SceneSyntax 3 1
  pub last_comma : scene_of (root ++ codes "a = [1,]\n") ≡ fails SceneSyntax 3 1
  pub no_blanks : scene_of (root ++ codes "a=1\n") ≡ fails SceneSyntax 3 1
  pub blank_behind : scene_of (root ++ codes "a = 1 \n") ≡ fails SceneSyntax 3 1
  pub foreign : scene_of (root ++ codes "position = Vector2(0, 0)\n") ≡ fails SceneSyntax 3 1
  pub skipped : scene_of (root ++ codes "metadata/_a = Vector2(0, 0)\n") ≡ says (a_root [])
  pub on_scene : scene_of (codes "[gd_scene format=3]\na = null\n[node name=\"A\" type=\"Node\"]\n") ≡ says (heading 1 (kind.Scene None) (property 2 (codes "a") scene.Null ∷ []) ∷ heading 3 (kind.Node (codes "A") None origin.Node) [] ∷ [])
  pub open_string : scene_of (root ++ codes "a = \"\n\n") ≡ fails SceneSyntax 3 1
  pub wrong_escape : scene_of (root ++ codes "a = \"\\q\"\n") ≡ fails SceneSyntax 3 1
  pub bad_byte : scene_of (root ++ codes "a = \"" ++ 255 ∷ codes "\"\n") ≡ fails BadBytes 3 6
  pub bad_byte_behind : scene_of (root ++ codes "a=" ++ 255 ∷ []) ≡ fails SceneSyntax 3 1
  -- uids
  pub uid_as_written : uid_of (codes "; a\n\n[gd_scene format=2 uid=\"a\\q\"]\n") ≡ Some (codes "a\\q")
  pub no_uid : uid_of root ≡ None
  pub uid_of_node : uid_of (codes "[node uid=\"a\"]\n") ≡ None
  pub open_heading : uid_of (codes "[gd_scene uid=\"a\"\n]\n") ≡ None

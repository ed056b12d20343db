-- Classes, and how they are named.
use Rattle.std.specs.Prelude.{ℕ, Bool, true, false, cond, nat_eq, ◌&&◌, List, [], ◌∷◌}
use Rattle.variant_values.specs.declared.classes.ClassTag.{ClassTag}
use Rattle.variant_values.specs.declared.classes.ClassTag.TheVariants.{Object, RefCounted, Node, Script}

abbrev pub same_class : ClassTag → ClassTag → Bool
same_class Object Object = true
same_class RefCounted RefCounted = true
same_class Node Node = true
same_class (Script a) (Script b) = nat_eq a.file b.file && nat_eq a.index b.index
same_class _ _ = false

-- the text of the first pair of the class, or the empty text
abbrev pub class_text : List (ClassTag × List ℕ) → ClassTag → List ℕ
class_text [] class = []
class_text (pair ∷ pairs) class = cond (same_class pair.0 class) pair.1 (class_text pairs class)

-- whether a class is RefCounted
abbrev pub is_ref_counted : ClassTag → Bool
is_ref_counted Object = false
is_ref_counted RefCounted = true
is_ref_counted Node = false
is_ref_counted (Script c) = false

-- whether a class is Node
abbrev pub is_node_class : ClassTag → Bool
is_node_class Object = false
is_node_class RefCounted = false
is_node_class Node = true
is_node_class (Script c) = false

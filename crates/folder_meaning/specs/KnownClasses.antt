-- The classes of a folder, as the facts of its files tell them.
use Rattle.std.specs.Prelude.{ℕ, List, [], ◌∷◌, Option, Some, None, slice_get}
use Rattle.variant_values.specs.declared.classes.ClassId.{ClassId}
use Rattle.variant_values.specs.declared.classes.ClassTag.{ClassTag}
use Rattle.variant_values.specs.declared.classes.ClassTag.TheVariants as c
use Rattle.folder_meaning.specs.declared.facts.ClassFacts.{ClassFacts}
use Rattle.folder_meaning.specs.declared.facts.Declaration.{Declaration}
use Rattle.folder_meaning.specs.declared.facts.FileFacts.{FileFacts}
use Rattle.folder_meaning.specs.declared.facts.MemberFacts.{MemberFacts}
use Rattle.folder_meaning.specs.KnownFiles.{facts_of}

abbrev pub class_in : Option FileFacts → ℕ → Option ClassFacts
class_in None index = None
class_in (Some facts) index = slice_get facts.classes index

abbrev pub class_at : List (ℕ × FileFacts) → ClassId → Option ClassFacts
class_at files class = class_in (facts_of files class.file) class.index

abbrev pub member_in : Option ClassFacts → ℕ → Option MemberFacts
member_in None member = None
member_in (Some facts) member = slice_get facts.members member

-- the facts of the member that has the declaration, or of the enum whose item has it
abbrev pub member_at : List (ℕ × FileFacts) → Declaration → Option MemberFacts
member_at files d = member_in (class_at files d.class_id) d.member

-- the ancestors of a class, after itself
abbrev pub lineage_in : ClassTag → Option ClassFacts → List ClassTag
lineage_in tag None = tag ∷ []
lineage_in tag (Some facts) = facts.lineage

-- A class and its ancestors, nearest first. Of the native classes, `Object` alone has none.
abbrev pub lineage_of : List (ℕ × FileFacts) → ClassTag → List ClassTag
lineage_of files c.Object = c.Object ∷ []
lineage_of files c.RefCounted = c.RefCounted ∷ c.Object ∷ []
lineage_of files c.Node = c.Node ∷ c.Object ∷ []
lineage_of files (c.Script class) = lineage_in (c.Script class) (class_at files class)

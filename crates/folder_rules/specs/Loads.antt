-- The faults and outcomes of files, what a load comes to, and the facts of a file at each stage that is built.
use Rattle.std.specs.Prelude.{◌≡◌, ◌≢◌, ◌↔◌, ◌<◌, ℕ, zero, suc, List, [], ◌∷◌, map, length, Contains, Some, get_or, slice_get}
use Rattle.std.specs.declared.cmp.Ordering.TheVariants.{Greater}
use Rattle.std.specs.Ordering.{nat_cmp}
use Rattle.std.specs.Cmp.Lexicographic.{slice_cmp}
use Rattle.std.specs.List.Sorted.{IsStrictlySortedBy}
use Rattle.gd_syntax.specs.declared.fault.FaultKind.{FaultKind}
use Rattle.gd_syntax.specs.declared.fault.FaultKind.TheVariants as kind
use Rattle.gd_syntax.specs.declared.fault.Form.TheVariants as form
use Rattle.gd_syntax.specs.declared.fault.LoadFault.{LoadFault}
use Rattle.variant_values.specs.declared.classes.ClassTag.{ClassTag}
use Rattle.variant_values.specs.declared.classes.ClassTag.TheVariants as of_class
use Rattle.folder_meaning.specs.declared.facts.ClassFacts.{ClassFacts}
use Rattle.folder_meaning.specs.declared.facts.FileFacts.{FileFacts}
use Rattle.facts.specs.Facts.{HasFact, IsAtFault}
use Rattle.facts.specs.Outcome.{HasOutcome, Outcome, Done, Refused}
use Rattle.facts.specs.Reach.{Reaches}
use Rattle.folder_rules.specs.Folders.{Folder}
use Rattle.folder_rules.specs.Links.{bases_of, classes_in, links_of}
use Rattle.folder_rules.specs.Nodes.{Node, Tree, Base, Fault}
use Rattle.folder_rules.specs.Rules.{nodes_of, rules_of}

-- ---- the order of faults

-- the place of each kind in the list of load faults
abbrev pub rank_of : FaultKind → ℕ
rank_of kind.Unreadable = 0
rank_of kind.BadBytes = 1
rank_of kind.BadToken = 2
rank_of kind.MixedIndent = 3
rank_of kind.BadIndent = 4
rank_of kind.Unclosed = 5
rank_of kind.NumberTooLarge = 6
rank_of kind.Syntax = 7
rank_of kind.NestTooDeep = 8
rank_of kind.TooMany = 9
rank_of kind.SceneSyntax = 10
rank_of (kind.Unsupported form.Float) = 11
rank_of (kind.Unsupported form.Power) = 12
rank_of (kind.Unsupported form.Lambda) = 13
rank_of (kind.Unsupported form.Await) = 14
rank_of (kind.Unsupported form.Property) = 15
rank_of (kind.Unsupported form.StaticVariable) = 16
rank_of (kind.Unsupported form.StringName) = 17
rank_of (kind.Unsupported form.NodePath) = 18
rank_of (kind.Unsupported form.RawString) = 19
rank_of (kind.Unsupported form.TypedDictionary) = 20
rank_of (kind.Unsupported form.TypedArray) = 21
rank_of (kind.Unsupported form.Typeof) = 22
rank_of (kind.Unsupported form.Variadic) = 23
rank_of (kind.Unsupported form.When) = 24
rank_of (kind.Unsupported form.Breakpoint) = 25
rank_of (kind.Unsupported form.UniqueNode) = 26
rank_of (kind.Unsupported form.Annotation) = 27
rank_of (kind.Unsupported form.UidPath) = 28
rank_of (kind.Unsupported form.ComputedLoad) = 29
rank_of (kind.Unsupported form.EnumValue) = 30
rank_of (kind.Unsupported form.ResourceType) = 31
rank_of (kind.Unsupported form.InheritedScene) = 32
rank_of (kind.Unsupported form.EditableChildren) = 33
rank_of (kind.Unsupported form.NodeType) = 34
rank_of (kind.Unsupported form.ConnectionOption) = 35
rank_of (kind.Unsupported form.SubResource) = 36
rank_of kind.NoSuchFile = 37
rank_of kind.NoSuchClass = 38
rank_of kind.NotAClass = 39
rank_of kind.GlobalNameTaken = 40
rank_of kind.CyclicInheritance = 41
rank_of kind.CyclicScene = 42
rank_of kind.NoSuchResource = 43
rank_of kind.DuplicateMember = 44
rank_of kind.HidesMember = 45
rank_of kind.UnknownType = 46
rank_of kind.CyclicConstant = 47
rank_of kind.NotConstant = 48
rank_of kind.ConstantFault = 49
rank_of kind.CyclicInference = 50
rank_of kind.SignatureMismatch = 51
rank_of kind.DuplicateNode = 52
rank_of kind.NoSuchNode = 53
rank_of kind.UnknownName = 54
rank_of kind.TypeClash = 55
rank_of kind.BadCall = 56
rank_of kind.NoMethod = 57
rank_of kind.VoidValue = 58
rank_of kind.MissingReturn = 59
rank_of kind.LoopWord = 60
rank_of kind.AssignToConst = 61
rank_of kind.DuplicateLocal = 62
rank_of kind.SelfInStatic = 63
rank_of kind.BadProperty = 64
rank_of kind.NoSuchSignal = 65
rank_of kind.NoSuchMethod = 66
rank_of kind.TooManyRegisters = 67
rank_of kind.Unbuilt = 68

-- by stage, by line and column, and at one place by kind
abbrev pub order_key : Fault → List ℕ
order_key x = x.stage ∷ x.fault.place.line ∷ x.fault.place.column ∷ rank_of x.fault.kind ∷ []

abbrev pub is_no_later : Fault → Fault → Type 0
is_no_later x y = slice_cmp nat_cmp (order_key x) (order_key y) ≢ Greater

-- ---- outcomes

abbrev pub stage_of : Fault → ℕ
stage_of x = x.stage

module _ (folder : Folder) where
  -- a fault of the file, at whatever stage
  pub record HasFault (file : ℕ) (x : Fault) : Type 0 where
    pub node : Node
    pub among : Contains (nodes_of folder file) node
    pub at : IsAtFault (rules_of folder) node x

  -- the files of a file's walk: those that its base files lead to
  abbrev pub IsInWalk : ℕ → ℕ → Type 0
  IsInWalk = Reaches (bases_of folder)

  -- the files of a file's closure: those that its links lead to
  abbrev pub IsInClosure : ℕ → ℕ → Type 0
  IsInClosure = Reaches (links_of folder)

  -- what each stage needs of other files, of which none may have ended earlier: the walk at stage 2, the closure at 3 and 4
  abbrev pub needs_of : ℕ → ℕ → List ℕ
  needs_of (suc (suc zero)) file = bases_of folder file
  needs_of (suc (suc (suc zero))) file = links_of folder file
  needs_of (suc (suc (suc (suc zero)))) file = links_of folder file
  needs_of stage file = []

  -- the outcome of a file at stage k + 1
  abbrev pub HasOutcomeAt : ℕ → ℕ → Outcome Fault → Type 0
  HasOutcomeAt = HasOutcome stage_of is_no_later HasFault needs_of

  -- the fault for which the file is refused
  pub record IsRefusedFor (file : ℕ) (fault : LoadFault) : Type 0 where
    pub before : ℕ
    pub found : Fault
    pub refused : HasOutcomeAt before file (Refused found)
    pub is : found.fault ≡ fault

  -- ---- loads

  -- No file of the closure has a fault.
  abbrev pub IsLoaded : ℕ → Type 0
  IsLoaded file = (other : ℕ) (fault : LoadFault) → IsInClosure file other → IsRefusedFor other fault → ⊥

  -- these are all files of the closure that have one, by path, each with its fault
  pub record IsRefusal (file : ℕ) (faults : List (ℕ × LoadFault)) : Type 0 where
    pub some : 0 < length faults
    pub by_path : IsStrictlySortedBy nat_cmp (map (λ pair. pair.0) faults)
    pub exact : (other : ℕ) (fault : LoadFault) → Contains faults (other, fault) ↔ (IsInClosure file other × IsRefusedFor other fault)

  -- ---- facts

  -- these files in ascending order, each once
  pub record AreFiles (wanted files : List ℕ) : Type 0 where
    pub ascending : IsStrictlySortedBy nat_cmp files
    pub same : (file : ℕ) → Contains files file ↔ Contains wanted file

  -- the facts of stage 2 of a class: the class and its ancestors, and the nearest of these
  pub record HasClassFacts (file index : ℕ) (facts : ClassFacts) : Type 0 where
    pub ancestors : List ClassTag
    pub line : HasFact (rules_of folder) (Base (record { file = file; index = index })) ancestors
    pub lineage : facts.lineage ≡ of_class.Script (record { file = file; index = index }) ∷ ancestors
    pub base : (other : ClassTag) → facts.base ≡ get_or ancestors 0 other

  -- the facts of stage 1: what the file is read as, its links and its base files
  pub record HasTextFacts (file : ℕ) (facts : FileFacts) : Type 0 where
    pub content : HasFact (rules_of folder) (Tree file) facts.content
    pub links : AreFiles (links_of folder file) facts.links
    pub bases : AreFiles (bases_of folder file) facts.bases

  -- those of stage 2, with those of stage 1
  pub record HasBaseFacts (file : ℕ) (facts : FileFacts) : Type 0 where
    pub text : HasTextFacts file facts
    pub count : length facts.classes ≡ length (classes_in facts.content)
    pub classes : (index : ℕ) (class : ClassFacts) → slice_get facts.classes index ≡ Some class → HasClassFacts file index class

  -- The value of the file at stage 1, and at stage 2, is done and has these facts.
  pub record IsDoneAtText (file : ℕ) (facts : FileFacts) : Type 0 where
    pub done : HasOutcomeAt 0 file Done
    pub stage : facts.stage ≡ 1
    pub has : HasTextFacts file facts

  pub record IsDoneAtBases (file : ℕ) (facts : FileFacts) : Type 0 where
    pub done : HasOutcomeAt 1 file Done
    pub stage : facts.stage ≡ 2
    pub has : HasBaseFacts file facts

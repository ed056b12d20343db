-- The order of faults is a total order.
use Rattle.std.proofs.Common.{◌≡◌, ◌≢◌, ℕ, zero, suc, ◌⊎◌, inl, inr, List, [], ◌∷◌, refl, sym, ap, ◌∙◌}
use Rattle.std.specs.Cmp.Lexicographic.{slice_cmp}
use Rattle.std.specs.FinMap.{slice_cmp-IsAntisymmetric, nat_cmp-IsAntisymmetric}
use Rattle.std.specs.Ordering.{nat_cmp, ordering_reverse}
use Rattle.std.specs.declared.cmp.Ordering.{Ordering}
use Rattle.std.specs.declared.cmp.Ordering.TheVariants.{Less, Equal, Greater}
use Rattle.std.proofs.lemmas.Cmp.{nat_list_cmp_total}
use Rattle.gd_syntax.specs.declared.fault.FaultKind.{FaultKind}
use Rattle.gd_syntax.specs.declared.fault.FaultKind.TheVariants as kind
use Rattle.gd_syntax.specs.declared.fault.Form.TheVariants as form
use Rattle.folder_rules.specs.Loads.{is_no_later, order_key, rank_of}
use Rattle.folder_rules.specs.Nodes.{Fault}

-- ---- the kind of a place in the list
abbrev nth_kind : List FaultKind → ℕ → FaultKind
nth_kind [] n = kind.Unbuilt
nth_kind (k ∷ ks) zero = k
nth_kind (k ∷ ks) (suc n) = nth_kind ks n

kinds : List FaultKind
kinds =
    kind.Unreadable
    ∷ kind.BadBytes
    ∷ kind.BadToken
    ∷ kind.MixedIndent
    ∷ kind.BadIndent
    ∷ kind.Unclosed
    ∷ kind.NumberTooLarge
    ∷ kind.Syntax
    ∷ kind.NestTooDeep
    ∷ kind.TooMany
    ∷ kind.SceneSyntax
    ∷ kind.Unsupported form.Float
    ∷ kind.Unsupported form.Power
    ∷ kind.Unsupported form.Lambda
    ∷ kind.Unsupported form.Await
    ∷ kind.Unsupported form.Property
    ∷ kind.Unsupported form.StaticVariable
    ∷ kind.Unsupported form.StringName
    ∷ kind.Unsupported form.NodePath
    ∷ kind.Unsupported form.RawString
    ∷ kind.Unsupported form.TypedDictionary
    ∷ kind.Unsupported form.TypedArray
    ∷ kind.Unsupported form.Typeof
    ∷ kind.Unsupported form.Variadic
    ∷ kind.Unsupported form.When
    ∷ kind.Unsupported form.Breakpoint
    ∷ kind.Unsupported form.UniqueNode
    ∷ kind.Unsupported form.Annotation
    ∷ kind.Unsupported form.UidPath
    ∷ kind.Unsupported form.ComputedLoad
    ∷ kind.Unsupported form.EnumValue
    ∷ kind.Unsupported form.ResourceType
    ∷ kind.Unsupported form.InheritedScene
    ∷ kind.Unsupported form.EditableChildren
    ∷ kind.Unsupported form.NodeType
    ∷ kind.Unsupported form.ConnectionOption
    ∷ kind.Unsupported form.SubResource
    ∷ kind.NoSuchFile
    ∷ kind.NoSuchClass
    ∷ kind.NotAClass
    ∷ kind.GlobalNameTaken
    ∷ kind.CyclicInheritance
    ∷ kind.CyclicScene
    ∷ kind.NoSuchResource
    ∷ kind.DuplicateMember
    ∷ kind.HidesMember
    ∷ kind.UnknownType
    ∷ kind.CyclicConstant
    ∷ kind.NotConstant
    ∷ kind.ConstantFault
    ∷ kind.CyclicInference
    ∷ kind.SignatureMismatch
    ∷ kind.DuplicateNode
    ∷ kind.NoSuchNode
    ∷ kind.UnknownName
    ∷ kind.TypeClash
    ∷ kind.BadCall
    ∷ kind.NoMethod
    ∷ kind.VoidValue
    ∷ kind.MissingReturn
    ∷ kind.LoopWord
    ∷ kind.AssignToConst
    ∷ kind.DuplicateLocal
    ∷ kind.SelfInStatic
    ∷ kind.BadProperty
    ∷ kind.NoSuchSignal
    ∷ kind.NoSuchMethod
    ∷ kind.TooManyRegisters
    ∷ kind.Unbuilt
    ∷ []

kind_back : (k : FaultKind) → nth_kind kinds (rank_of k) ≡ k
unfolding kinds
kind_back kind.Unreadable = refl
kind_back kind.BadBytes = refl
kind_back kind.BadToken = refl
kind_back kind.MixedIndent = refl
kind_back kind.BadIndent = refl
kind_back kind.Unclosed = refl
kind_back kind.NumberTooLarge = refl
kind_back kind.Syntax = refl
kind_back kind.NestTooDeep = refl
kind_back kind.TooMany = refl
kind_back kind.SceneSyntax = refl
kind_back (kind.Unsupported form.Float) = refl
kind_back (kind.Unsupported form.Power) = refl
kind_back (kind.Unsupported form.Lambda) = refl
kind_back (kind.Unsupported form.Await) = refl
kind_back (kind.Unsupported form.Property) = refl
kind_back (kind.Unsupported form.StaticVariable) = refl
kind_back (kind.Unsupported form.StringName) = refl
kind_back (kind.Unsupported form.NodePath) = refl
kind_back (kind.Unsupported form.RawString) = refl
kind_back (kind.Unsupported form.TypedDictionary) = refl
kind_back (kind.Unsupported form.TypedArray) = refl
kind_back (kind.Unsupported form.Typeof) = refl
kind_back (kind.Unsupported form.Variadic) = refl
kind_back (kind.Unsupported form.When) = refl
kind_back (kind.Unsupported form.Breakpoint) = refl
kind_back (kind.Unsupported form.UniqueNode) = refl
kind_back (kind.Unsupported form.Annotation) = refl
kind_back (kind.Unsupported form.UidPath) = refl
kind_back (kind.Unsupported form.ComputedLoad) = refl
kind_back (kind.Unsupported form.EnumValue) = refl
kind_back (kind.Unsupported form.ResourceType) = refl
kind_back (kind.Unsupported form.InheritedScene) = refl
kind_back (kind.Unsupported form.EditableChildren) = refl
kind_back (kind.Unsupported form.NodeType) = refl
kind_back (kind.Unsupported form.ConnectionOption) = refl
kind_back (kind.Unsupported form.SubResource) = refl
kind_back kind.NoSuchFile = refl
kind_back kind.NoSuchClass = refl
kind_back kind.NotAClass = refl
kind_back kind.GlobalNameTaken = refl
kind_back kind.CyclicInheritance = refl
kind_back kind.CyclicScene = refl
kind_back kind.NoSuchResource = refl
kind_back kind.DuplicateMember = refl
kind_back kind.HidesMember = refl
kind_back kind.UnknownType = refl
kind_back kind.CyclicConstant = refl
kind_back kind.NotConstant = refl
kind_back kind.ConstantFault = refl
kind_back kind.CyclicInference = refl
kind_back kind.SignatureMismatch = refl
kind_back kind.DuplicateNode = refl
kind_back kind.NoSuchNode = refl
kind_back kind.UnknownName = refl
kind_back kind.TypeClash = refl
kind_back kind.BadCall = refl
kind_back kind.NoMethod = refl
kind_back kind.VoidValue = refl
kind_back kind.MissingReturn = refl
kind_back kind.LoopWord = refl
kind_back kind.AssignToConst = refl
kind_back kind.DuplicateLocal = refl
kind_back kind.SelfInStatic = refl
kind_back kind.BadProperty = refl
kind_back kind.NoSuchSignal = refl
kind_back kind.NoSuchMethod = refl
kind_back kind.TooManyRegisters = refl
kind_back kind.Unbuilt = refl

same_kind : (j k : FaultKind) → rank_of j ≡ rank_of k → j ≡ k
same_kind j k e = sym (kind_back j) ∙ ap (nth_kind kinds) e ∙ kind_back k

abbrev fault_of : ℕ → ℕ → ℕ → FaultKind → Fault
fault_of stage line column kind = record { stage = stage; fault = record { kind = kind; place = record { line = line; column = column } } }

joined : (a b c : Fault) → a ≡ b → b ≡ c → a ≡ c
joined a b c d e = d ∙ e

same_fault : (x y : Fault) → order_key x ≡ order_key y → x ≡ y
same_fault x y e =
    let s : x.stage ≡ y.stage = cc e in
    let l : x.fault.place.line ≡ y.fault.place.line = cc e in
    let c : x.fault.place.column ≡ y.fault.place.column = cc e in
    let r : rank_of x.fault.kind ≡ rank_of y.fault.kind = cc e in
    joined x (fault_of y.stage x.fault.place.line x.fault.place.column x.fault.kind) y
    (ap (λ z. fault_of z x.fault.place.line x.fault.place.column x.fault.kind) s)
    (joined (fault_of y.stage x.fault.place.line x.fault.place.column x.fault.kind) (fault_of y.stage y.fault.place.line x.fault.place.column x.fault.kind) y
    (ap (λ z. fault_of y.stage z x.fault.place.column x.fault.kind) l)
    (joined (fault_of y.stage y.fault.place.line x.fault.place.column x.fault.kind) (fault_of y.stage y.fault.place.line y.fault.place.column x.fault.kind) y
    (ap (λ z. fault_of y.stage y.fault.place.line z x.fault.kind) c)
    (ap (λ z. fault_of y.stage y.fault.place.line y.fault.place.column z) (same_kind x.fault.kind y.fault.kind r))))

abbrev R : List ℕ → List ℕ → Ordering
R = slice_cmp nat_cmp

back : (a b : List ℕ) (o : Ordering) → R a b ≡ o → R b a ≡ ordering_reverse o
back a b o e = nat_list_cmp_total.antisymm b a ∙ ap ordering_reverse e

one_way : (a b : List ℕ) (o : Ordering) → R a b ≡ o → (R a b ≢ Greater) ⊎ (R b a ≢ Greater)
one_way a b Less e = inl (λ g. let z = sym e ∙ g in cc z)
one_way a b Equal e = inl (λ g. let z = sym e ∙ g in cc z)
one_way a b Greater e = inr (λ g. let z : Less ≡ Greater = sym (back a b Greater e) ∙ g in cc z)

pub order_total : (x y : Fault) → is_no_later x y ⊎ is_no_later y x
order_total x y = one_way (order_key x) (order_key y) (R (order_key x) (order_key y)) refl

goes_on : (a b c : List ℕ) (o q : Ordering) → R a b ≡ o → R b c ≡ q → R a b ≢ Greater → R b c ≢ Greater → R a c ≢ Greater
goes_on a b c Greater q e f n m g = n e
goes_on a b c o Greater e f n m g = m f
goes_on a b c Less Less e f n m g = let z : Less ≡ Greater = sym (nat_list_cmp_total.trans a b c e f) ∙ g in cc z
goes_on a b c Equal q e f n m g = m (sym (nat_list_cmp_total.congr a b c e) ∙ g)
goes_on a b c Less Equal e f n m g =
    let h : R b a ≡ R c a = nat_list_cmp_total.congr b c a f in
    let k : R c a ≡ Greater = sym h ∙ back a b Less e in
    let z : Less ≡ Greater = sym (back c a Greater k) ∙ g in
    cc z

pub order_trans : (x y z : Fault) → is_no_later x y → is_no_later y z → is_no_later x z
order_trans x y z n m = goes_on (order_key x) (order_key y) (order_key z) (R (order_key x) (order_key y)) (R (order_key y) (order_key z)) refl refl n m

at_one : (a b : List ℕ) (o : Ordering) → R a b ≡ o → R a b ≢ Greater → R b a ≢ Greater → a ≡ b
at_one a b Less e n m = absurd (m (back a b Less e))
at_one a b Greater e n m = absurd (n e)
at_one a b Equal e n m = slice_cmp-IsAntisymmetric nat_cmp-IsAntisymmetric a b e

pub order_antisymm : (x y : Fault) → is_no_later x y → is_no_later y x → x ≡ y
order_antisymm x y n m = same_fault x y (at_one (order_key x) (order_key y) (R (order_key x) (order_key y)) refl n m)

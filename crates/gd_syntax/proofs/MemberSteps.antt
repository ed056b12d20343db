-- The alternatives of members and heads where the next token begins no other.
use Rattle.std.proofs.Common.{◌≢◌, ℕ, Bool, List, [], ◌∷◌, ◌++◌, Option, Some, None, refl}
use Rattle.gd_syntax.specs.declared.fault.Place.{Place}
use Rattle.gd_syntax.specs.declared.token.Token.{Token}
use Rattle.gd_syntax.specs.declared.token.Mark.{Mark}
use Rattle.gd_syntax.specs.declared.token.Mark.TheVariants as m
use Rattle.gd_syntax.specs.declared.tree.member.Base.{Base}
use Rattle.gd_syntax.specs.declared.tree.member.Member.{Member}
use Rattle.gd_syntax.specs.declared.tree.member.Param.{Param}
use Rattle.gd_syntax.specs.declared.tree.type_name.Declared.{Declared}
use Rattle.gd_syntax.specs.declared.tree.type_name.TypeName.{TypeName}
use Rattle.gd_syntax.specs.Reading.{Outcome, Reading, ◌>>=◌, give, Look, looks, Turn, Last}
use Rattle.gd_syntax.specs.TokenReading.{mark_at, comma}
use Rattle.gd_syntax.specs.DeclarationGrammar.{annots}
use Rattle.gd_syntax.specs.MemberGrammar.{is_member_word, base_by, extends_by, param, params_by, signal_by, result_by, annotated, plain, member_by}
use Rattle.gd_syntax.specs.ScriptGrammar.{Heads, base_by as head_base_by, head_by}

module _ (tokens : List Token) where
  base_none_by : (sofar : List (List ℕ)) (k : Option Mark) (at : ℕ) (o : Outcome (Turn (List (List ℕ)))) → k ≢ Some m.Dot → (give (Last sofar)) at o → base_by tokens sofar k at o
  base_none_by sofar (Some m.Dot) at o x h = absurd (x refl)
  base_none_by sofar _ at o x h = h

  pub base_none : (sofar : List (List ℕ)) (at : ℕ) (o : Outcome (Turn (List (List ℕ)))) → mark_at tokens at ≢ Some m.Dot → (give (Last sofar)) at o → Look (mark_at tokens) (base_by tokens sofar) at o
  base_none sofar at o x h = looks refl (base_none_by sofar (mark_at tokens at) at o x h)

  extends_none_by : (k : Option Mark) (at : ℕ) (o : Outcome (Option Base)) → k ≢ Some m.Extends → (give None) at o → extends_by tokens k at o
  extends_none_by (Some m.Extends) at o x h = absurd (x refl)
  extends_none_by _ at o x h = h

  pub extends_none : (at : ℕ) (o : Outcome (Option Base)) → mark_at tokens at ≢ Some m.Extends → (give None) at o → Look (mark_at tokens) (extends_by tokens) at o
  extends_none at o x h = looks refl (extends_none_by (mark_at tokens at) at o x h)

  signal_none_by : (k : Option Mark) (at : ℕ) (o : Outcome (List Param)) → k ≢ Some m.LParen → (give []) at o → signal_by tokens k at o
  signal_none_by (Some m.LParen) at o x h = absurd (x refl)
  signal_none_by _ at o x h = h

  pub signal_none : (at : ℕ) (o : Outcome (List Param)) → mark_at tokens at ≢ Some m.LParen → (give []) at o → Look (mark_at tokens) (signal_by tokens) at o
  signal_none at o x h = looks refl (signal_none_by (mark_at tokens at) at o x h)

  result_none_by : (k : Option Mark) (at : ℕ) (o : Outcome (Option TypeName)) → k ≢ Some m.Arrow → (give None) at o → result_by tokens k at o
  result_none_by (Some m.Arrow) at o x h = absurd (x refl)
  result_none_by _ at o x h = h

  pub result_none : (at : ℕ) (o : Outcome (Option TypeName)) → mark_at tokens at ≢ Some m.Arrow → (give None) at o → Look (mark_at tokens) (result_by tokens) at o
  result_none at o x h = looks refl (result_none_by (mark_at tokens at) at o x h)

  module _ (what : List Param → Reading Declared) where
    params_further_by : (sofar : List Param) (k : Option Mark) (at : ℕ) (o : Outcome (Turn (List Param))) → k ≢ Some m.RParen → (do x ← param tokens what sofar; comma tokens (sofar ++ x ∷ [])) at o → params_by tokens what sofar k at o
    params_further_by sofar (Some m.RParen) at o x h = absurd (x refl)
    params_further_by sofar _ at o x h = h

    pub params_further : (sofar : List Param) (at : ℕ) (o : Outcome (Turn (List Param))) → mark_at tokens at ≢ Some m.RParen → (do x ← param tokens what sofar; comma tokens (sofar ++ x ∷ [])) at o → Look (mark_at tokens) (params_by tokens what sofar) at o
    params_further sofar at o x h = looks refl (params_further_by sofar (mark_at tokens at) at o x h)

  module _ (inner : ℕ → Reading (List Member × ℕ)) where
    member_annotated_by : (classes : ℕ) (place : Place) (k : Option Mark) (at : ℕ) (o : Outcome (Member × ℕ)) → k ≢ Some m.Pass → k ≢ Some m.Const → k ≢ Some m.Enum → k ≢ Some m.Signal → k ≢ Some m.Class → (plain tokens classes (do before ← annots tokens is_member_word; annotated tokens place before)) at o → member_by tokens inner classes place k at o
    member_annotated_by classes place (Some m.Pass) at o x y z w u h = absurd (x refl)
    member_annotated_by classes place (Some m.Const) at o x y z w u h = absurd (y refl)
    member_annotated_by classes place (Some m.Enum) at o x y z w u h = absurd (z refl)
    member_annotated_by classes place (Some m.Signal) at o x y z w u h = absurd (w refl)
    member_annotated_by classes place (Some m.Class) at o x y z w u h = absurd (u refl)
    member_annotated_by classes place _ at o x y z w u h = h

    pub member_annotated : (classes : ℕ) (place : Place) (at : ℕ) (o : Outcome (Member × ℕ)) → mark_at tokens at ≢ Some m.Pass → mark_at tokens at ≢ Some m.Const → mark_at tokens at ≢ Some m.Enum → mark_at tokens at ≢ Some m.Signal → mark_at tokens at ≢ Some m.Class → (plain tokens classes (do before ← annots tokens is_member_word; annotated tokens place before)) at o → Look (mark_at tokens) (member_by tokens inner classes place) at o
    member_annotated classes place at o x y z w u h = looks refl (member_annotated_by classes place (mark_at tokens at) at o x y z w u h)

  module _ (found : ℕ → Bool) where
    head_base_none_by : (based : Bool) (k : Option Mark) (at : ℕ) (o : Outcome (Option Base)) → k ≢ Some m.Extends → (give None) at o → head_base_by tokens found based k at o
    head_base_none_by based (Some m.Extends) at o x h = absurd (x refl)
    head_base_none_by based _ at o x h = h

    pub head_base_none : (based : Bool) (at : ℕ) (o : Outcome (Option Base)) → mark_at tokens at ≢ Some m.Extends → (give None) at o → Look (mark_at tokens) (head_base_by tokens found based) at o
    head_base_none based at o x h = looks refl (head_base_none_by based (mark_at tokens at) at o x h)

    head_none_by : (sofar : Heads) (place : Place) (known : Bool) (k : Option Mark) (at : ℕ) (o : Outcome (Turn Heads)) → k ≢ Some m.At → k ≢ Some m.ClassName → k ≢ Some m.Extends → (give (Last sofar)) at o → head_by tokens found sofar place known k at o
    head_none_by sofar place known (Some m.At) at o x y z h = absurd (x refl)
    head_none_by sofar place known (Some m.ClassName) at o x y z h = absurd (y refl)
    head_none_by sofar place known (Some m.Extends) at o x y z h = absurd (z refl)
    head_none_by sofar place known _ at o x y z h = h

    pub head_none : (sofar : Heads) (place : Place) (known : Bool) (at : ℕ) (o : Outcome (Turn Heads)) → mark_at tokens at ≢ Some m.At → mark_at tokens at ≢ Some m.ClassName → mark_at tokens at ≢ Some m.Extends → (give (Last sofar)) at o → Look (mark_at tokens) (head_by tokens found sofar place known) at o
    head_none sofar place known at o x y z h = looks refl (head_none_by sofar place known (mark_at tokens at) at o x y z h)

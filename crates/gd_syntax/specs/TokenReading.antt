-- The readings of single tokens, and of lists in brackets.
use Rattle.std.specs.Prelude.{◌≡◌, ◌≢◌, ℕ, ◌+◌, ◌<◌, nat_le, Bool, true, false, not, ◌||◌, if◌then◌else◌, List, [], ◌∷◌, ◌++◌, length, take, codes, bytes_eq, Option, Some, None, slice_get}
use Rattle.gd_syntax.specs.declared.fault.Place.{Place}
use Rattle.gd_syntax.specs.declared.fault.LoadFault.{LoadFault}
use Rattle.gd_syntax.specs.declared.fault.FaultKind.{FaultKind}
use Rattle.gd_syntax.specs.declared.fault.FaultKind.TheVariants.{NestTooDeep, Unsupported}
use Rattle.gd_syntax.specs.declared.fault.Form.TheVariants.{UidPath}
use Rattle.gd_syntax.specs.declared.token.Token.{Token}
use Rattle.gd_syntax.specs.declared.token.Kind.{Kind}
use Rattle.gd_syntax.specs.declared.token.Kind.TheVariants.{Mark as Marked, Name, Int, Text}
use Rattle.gd_syntax.specs.declared.token.Mark.{Mark}
use Rattle.gd_syntax.specs.declared.token.Mark.TheVariants as m
use Rattle.gd_syntax.specs.declared.tree.expr.Literal.{Literal}
use Rattle.gd_syntax.specs.declared.tree.expr.Literal.TheVariants as literal
use Rattle.gd_syntax.specs.declared.tree.type_name.Identifier.{Identifier}
use Rattle.gd_syntax.specs.declared.tree.type_name.PathText.{PathText}
use Rattle.gd_syntax.specs.Reading.{Outcome, Read, Stops, Reading, ◌>>=◌, ◌>>◌, fail, give, either, Look, Turn, On, Last, Loop}
use Rattle.gd_syntax.specs.declared.stops.Sought.{Sought}
use Rattle.gd_syntax.specs.declared.stops.Sought.TheVariants.{Other}
use Rattle.gd_syntax.specs.Refusals.{refusal, is_float_word, is_typeof, is_load}

-- how many levels a tree has at most
abbrev pub max_levels : ℕ
max_levels = 128

abbrev pub kind_of : Option Token → Kind
kind_of None = Marked m.End
kind_of (Some t) = t.kind

abbrev pub place_of : Option Token → Place
place_of None = record { line = 0; column = 0 }
place_of (Some t) = t.place

-- the keyword, sign or layout token
abbrev pub mark_of : Kind → Option Mark
mark_of (Marked m) = Some m
mark_of _ = None

-- any name, as it may be declared or stand after a dot
abbrev pub any_name : Kind → Option (List ℕ)
any_name (Name text) = Some text
any_name _ = None

-- whether a word is a name outside dots
abbrev pub is_plain : List ℕ → Bool
is_plain text = not (is_float_word text || (is_typeof text || is_load text))

-- a name outside dots
abbrev pub plain_name : Kind → Option (List ℕ)
plain_name (Name text) = if is_plain text then Some text else None
plain_name _ = None

abbrev pub literal_of : Kind → Option Literal
literal_of (Int n) = Some (literal.Int n)
literal_of (Text text) = Some (literal.Text text)
literal_of (Marked m.Null) = Some literal.Null
literal_of (Marked m.Yes) = Some (literal.Bool true)
literal_of (Marked m.No) = Some (literal.Bool false)
literal_of _ = None

abbrev pub is_uid : List ℕ → Bool
is_uid text = bytes_eq (take 6 text) (codes "uid://")

module _ (tokens : List Token) where
  unfoldable pub kind_at : ℕ → Kind
  kind_at at = kind_of (slice_get tokens at)

  abbrev pub mark_at : ℕ → Option Mark
  mark_at at = mark_of (kind_at at)

  unfoldable pub place_at : ℕ → Place
  place_at at = place_of (slice_get tokens at)

  abbrev pub fault_at : FaultKind → ℕ → LoadFault
  fault_at kind at = record { kind = kind; place = place_at at }

  -- the last token is the file's end
  pub record IsEnded : Type 0 where
    pub some : 0 < length tokens
    pub goes_on : (at : ℕ) → at < length tokens → mark_at at ≢ Some m.End → at + 1 < length tokens

  -- past the token
  abbrev pub skip : Reading (Unit {0})
  skip = λ at o. o ≡ Read tt (at + 1)

  -- why the reading stops at the token
  abbrev pub refusal_at : Sought → ℕ → LoadFault
  refusal_at sought at = fault_at (refusal sought (kind_at at) (kind_at (at + 1))) at

  -- a part is due that the token cannot begin
  abbrev pub refuse : {A : Type 0} → Sought → Reading A
  refuse sought = λ at o. o ≡ Stops (refusal_at sought at)

  -- this very token is due
  pub data Due (sought : Sought) (wanted : Mark) : ℕ → Outcome (Unit {0}) → Type 0 where
    found : {at : ℕ} → mark_at at ≡ Some wanted → Due sought wanted at (Read tt (at + 1))
    missing : {at : ℕ} → mark_at at ≢ Some wanted → Due sought wanted at (Stops (refusal_at sought at))

  -- one token of a sort is due, such as a name or a literal
  pub data OneOf {A : Type 0} (view : Kind → Option A) (sought : Sought) : ℕ → Outcome A → Type 0 where
    found : {at : ℕ} {a : A} → view (kind_at at) ≡ Some a → OneOf view sought at (Read a (at + 1))
    missing : {at : ℕ} → view (kind_at at) ≡ None → OneOf view sought at (Stops (refusal_at sought at))

  -- a name outside dots, and its place
  abbrev pub identifier : Reading Identifier
  identifier = λ at. (do name ← OneOf plain_name Other; give (record { place = place_at at; name = name })) at

  -- the path of `preload` or `load`, which is no `uid://` text
  abbrev pub path_text_by : Sought → Place → Kind → Reading PathText
  path_text_by sought place (Text text) = either (is_uid text)
      (λ at. fail (fault_at (Unsupported UidPath) at) at)
      (do skip; give (record { place = place; text = text }))
  path_text_by sought place _ = refuse sought

  abbrev pub path_text : Sought → Reading PathText
  path_text sought = λ at. Look kind_at (path_text_by sought (place_at at)) at

  -- A form of so many levels begins or goes on at the token, where there is room for so many.
  abbrev pub fits : ℕ → ℕ → Reading (Unit {0})
  fits room n = λ at o. o ≡ (if nat_le n room then Read tt at else Stops (fault_at NestTooDeep at))

  -- ---- lists in brackets, where a comma may stand behind the last item

  -- after an item
  abbrev pub comma_by : {A : Type 0} → List A → Option Mark → Reading (Turn (List A))
  comma_by sofar (Some m.Comma) = do skip; give (On sofar)
  comma_by sofar _ = give (Last sofar)

  abbrev pub comma : {A : Type 0} → List A → Reading (Turn (List A))
  comma sofar = Look mark_at (comma_by sofar)

  -- The closing bracket ends the list. After an item comes a comma or the closing bracket.
  pub data Item {A : Type 0} (item : Reading A) (closing : Mark) (sofar : List A) : ℕ → Outcome (Turn (List A)) → Type 0 where
    closed : {at : ℕ} → mark_at at ≡ Some closing → Item item closing sofar at (Read (Last sofar) at)
    further : {at : ℕ} {o : Outcome (Turn (List A))} → mark_at at ≢ Some closing → (do x ← item; comma (sofar ++ x ∷ [])) at o → Item item closing sofar at o

  -- the items up to the closing bracket, and that bracket
  abbrev pub list : {A : Type 0} → Reading A → Mark → Reading (List A)
  list item closing = do
    all ← Loop (Item item closing) []
    Due Other closing
    give all

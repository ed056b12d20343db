-- One line more.
use Rattle.std.proofs.Common.{◌≡◌, refl, sym, ap, subst, ◌∙◌, ℕ, zero, suc, ◌+◌, ◌-◌, ◌≤◌, List, [], ◌∷◌, ◌++◌, length, take, drop, Bool, true, false, Option, Some, None, append_assoc, append-nil, bytes_eq, arith, add-one}
use Rattle.std.specs.Prelude.{if◌then◌else◌, ◌||◌, codes, is_some, Result}
use Rattle.std.proofs.lemmas.Slice.Eq.{bytes_eq-Decides}
use Rattle.gd_syntax.specs.declared.fault.LoadFault.{LoadFault}
use Rattle.gd_syntax.specs.declared.fault.SolveError.{SolveError}
use Rattle.gd_syntax.specs.Layout.{bad_byte, text_of}
use Rattle.scene_syntax.specs.declared.project.AutoloadLine.{AutoloadLine}
use Rattle.scene_syntax.specs.declared.project.ProjectFile.{ProjectFile}
use Rattle.scene_syntax.specs.Lines as line
use Rattle.scene_syntax.specs.Lines.{Line, Numbered, lines, line_at, line_before, size_of, number_after}
use Rattle.scene_syntax.specs.Project.{or_first, settings_in, setting_onto, last_value, has_version, first_fault, is_version, fault_of, line_start, project_in, project_of, IsProjectAnswer}
use Rattle.text_scene.specs.declared.draft.Draft.{Draft}
use Rattle.text_scene.specs.declared.draft.Section.{Section}
use Rattle.text_scene.specs.declared.draft.Section.TheVariants.{Application, Autoload, Other}
use Rattle.text_scene.specs.LineParts.{numbers}
use Rattle.text_scene.specs.Drafts.{Whole, whole, start, step, section_of, is_application, is_autoload, main_with, autoloads_with, answer_in, answer_of}

-- the characters that are left of a line
left_over : (is_cut : Bool) (n number : ℕ) (text : List ℕ) → lines is_cut n number text ≡ lines is_cut 0 (numbers number (take n text)) (drop n text)
unfolding lines
left_over is_cut zero number text = refl
left_over is_cut (suc n) number [] = refl
left_over is_cut (suc n) number (c ∷ text) = left_over is_cut n (number_after number c) text

abbrev pub numbered : Bool → ℕ → List ℕ → Numbered
numbered is_cut number text = record { number = number; line = line_before is_cut (line_at text) (length text) }

pub line_turn : (is_cut : Bool) (number size : ℕ) (text : List ℕ) → 1 ≤ length text → size ≡ size_of (line_at text) text
    → lines is_cut 0 number text ≡ numbered is_cut number text ∷ lines is_cut 0 (numbers number (take (size - 1 + 1) text)) (drop (size - 1 + 1) text)
unfolding lines
line_turn is_cut number size [] some is = absurd (omega arith)
line_turn is_cut number size (c ∷ text) some is =
    rw (add-one (size - 1)) (ap (λ n. numbered is_cut number (c ∷ text) ∷ lines is_cut (n - 1) (number_after number c) text) (sym is) ∙ ap (λ ls. numbered is_cut number (c ∷ text) ∷ ls) (left_over is_cut (size - 1) (number_after number c) text))

abbrev made : Bool → Option LoadFault → Option (List ℕ) → List AutoloadLine → Whole
made version fault main autoloads = record { has_version = version; fault = fault; main = main; autoloads = autoloads }

alike : (v w : Bool) (f g : Option LoadFault) (m n : Option (List ℕ)) (a b : List AutoloadLine) → v ≡ w → f ≡ g → m ≡ n → a ≡ b → made v f m a ≡ made w g n b
alike v w f g m n a b e h i j = ap (λ x. made x f m a) e ∙ ap (λ x. made w x m a) h ∙ ap (λ x. made w g x a) i ∙ ap (λ x. made w g n x) j

or_assoc : (a b c : Bool) → ((a || b) || c) ≡ (a || (b || c))
or_assoc true b c = refl
or_assoc false b c = refl

or_none : (a : Bool) → (a || false) ≡ a
or_none true = refl
or_none false = refl

first_assoc : (a b c : Option LoadFault) → or_first (or_first a b) c ≡ or_first a (or_first b c)
first_assoc None b c = refl
first_assoc (Some f) b c = refl

is_application_of : (name : List ℕ) → is_application (section_of name) ≡ bytes_eq name (codes "application")
is_application_of name = by (bytes_eq name (codes "application")) (bytes_eq name (codes "autoload"))
  where
    by : (a b : Bool) → is_application (if a then Application else if b then Autoload else Other) ≡ a
    by true b = refl
    by false true = refl
    by false false = refl

is_autoload_of : (name : List ℕ) → is_autoload (section_of name) ≡ bytes_eq name (codes "autoload")
is_autoload_of name = by (bytes_eq name (codes "application")) refl
  where
    rest : (b : Bool) → is_autoload (if b then Autoload else Other) ≡ b
    rest true = refl
    rest false = refl

    by : (a : Bool) → bytes_eq name (codes "application") ≡ a → is_autoload (if a then Application else if bytes_eq name (codes "autoload") then Autoload else Other) ≡ bytes_eq name (codes "autoload")
    by true is = ap (λ n. bytes_eq n (codes "autoload")) (sym ((bytes_eq-Decides name (codes "application")).0 is))
    by false is = rest (bytes_eq name (codes "autoload"))

main_turn : (section : Section) (number : ℕ) (key value : List ℕ) (main : Option (List ℕ)) (more : List AutoloadLine)
    → last_value (codes "run/main_scene") (main_with section key value main) more ≡ last_value (codes "run/main_scene") main (setting_onto (is_application section) number key value more)
main_turn Application number key value main more = refl
main_turn Autoload number key value main more = refl
main_turn Other number key value main more = refl

autoload_turn : (section : Section) (number : ℕ) (key value : List ℕ) (all more : List AutoloadLine)
    → autoloads_with section number key value all ++ more ≡ all ++ setting_onto (is_autoload section) number key value more
autoload_turn Application number key value all more = refl
autoload_turn Autoload number key value all more = append_assoc all (record { key = key; value = value; line = number } ∷ []) more
autoload_turn Other number key value all more = refl

pub draft_turn : (bad : Option LoadFault) (draft : Draft) (number : ℕ) (l : Line) (more : List Numbered) → whole bad (step bad draft number l) more ≡ whole bad draft (record { number = number; line = l } ∷ more)
draft_turn bad draft number line.nothing more = refl
draft_turn bad draft number (line.section name) more =
    alike _ _ _ _ _ _ _ _ refl refl
    (ap (λ b. last_value (codes "run/main_scene") draft.main (settings_in (codes "application") b more)) (is_application_of name))
    (ap (λ b. draft.autoloads ++ settings_in (codes "autoload") b more) (is_autoload_of name))
draft_turn bad draft number (line.setting key value) more =
    alike _ _ _ _ _ _ _ _ (or_assoc draft.has_version (is_version (line.setting key value)) (has_version more)) refl
    (main_turn draft.section number key value draft.main (settings_in (codes "application") (is_application draft.section) more))
    (autoload_turn draft.section number key value draft.autoloads (settings_in (codes "autoload") (is_autoload draft.section) more))
draft_turn bad draft number line.broken more =
    alike _ _ _ _ _ _ _ _ refl (first_assoc draft.fault (fault_of bad (line_start number) line.broken) (first_fault bad more)) refl refl
draft_turn bad draft number line.unfinished more =
    alike _ _ _ _ _ _ _ _ refl (first_assoc draft.fault (fault_of bad (line_start number) line.unfinished) (first_fault bad more)) refl refl

-- the answer by what is known behind all lines
pub answered : (bad : Option LoadFault) (draft : Draft) (all : List Numbered) → whole bad draft [] ≡ whole bad start all → answer_of bad draft ≡ project_in bad all
answered bad draft all is =
    let same = alike _ _ _ _ _ _ _ _ (sym (or_none draft.has_version)) refl refl (sym (append-nil draft.autoloads)) in
    ap answer_in (same ∙ is)

-- one turn of the loop over lines
pub read_turn : (bad : Option LoadFault) (draft new : Draft) (number next size less : ℕ) (is_cut : Bool) (l : Line) (text front after : List ℕ) → 1 ≤ length text → is_cut ≡ is_some bad
    → l ≡ line_before is_cut (line_at text) (length text) → size ≡ size_of (line_at text) text → new ≡ step bad draft number l
    → less ≡ size - 1 → front ≡ take (less + 1) text → after ≡ drop (less + 1) text → next ≡ numbers number front
    → whole bad new (lines (is_some bad) 0 next after) ≡ whole bad draft (lines (is_some bad) 0 number text)
read_turn bad draft new number next size less is_cut l text front after some cut lis sis nis lessis fis ais nextis =
    let is_line : l ≡ line_before (is_some bad) (line_at text) (length text) = lis ∙ ap (λ b. line_before b (line_at text) (length text)) cut in
    let is_next : next ≡ numbers number (take (size - 1 + 1) text) = nextis ∙ ap (numbers number) fis ∙ ap (λ n. numbers number (take (n + 1) text)) lessis in
    let is_after : after ≡ drop (size - 1 + 1) text = ais ∙ ap (λ n. drop (n + 1) text) lessis in
    let tail = lines (is_some bad) 0 (numbers number (take (size - 1 + 1) text)) (drop (size - 1 + 1) text) in
    ap (λ d. whole bad d (lines (is_some bad) 0 next after)) nis
    ∙ ap (λ n. whole bad (step bad draft number l) (lines (is_some bad) 0 n after)) is_next
    ∙ ap (λ t. whole bad (step bad draft number l) (lines (is_some bad) 0 (numbers number (take (size - 1 + 1) text)) t)) is_after
    ∙ draft_turn bad draft number l tail
    ∙ ap (λ x. whole bad draft (record { number = number; line = x } ∷ tail)) is_line
    ∙ ap (whole bad draft) (sym (line_turn (is_some bad) number size text some sis))

pub no_line : (bad : Option LoadFault) (draft : Draft) (number : ℕ) (text : List ℕ) → length text ≡ 0 → whole bad draft [] ≡ whole bad draft (lines (is_some bad) 0 number text)
unfolding lines
no_line bad draft number [] none = refl
no_line bad draft number (c ∷ text) none = absurd (omega arith)

-- the whole file
pub read_file : (bytes inside : List ℕ) (bad : Option LoadFault) (draft : Draft) (result : Result ProjectFile SolveError) → inside ≡ text_of bytes → bad ≡ bad_byte bytes
    → whole bad draft [] ≡ whole bad start (lines (is_some bad) 0 1 inside) → IsProjectAnswer result (answer_of bad draft) → IsProjectAnswer result (project_of bytes)
unfolding project_of
read_file bytes inside bad draft result same is all answer =
    let e = answered bad draft (lines (is_some bad) 0 1 inside) all ∙ ap (λ t. project_in bad (lines (is_some bad) 0 1 t)) same ∙ ap (λ b. project_in b (lines (is_some b) 0 1 (text_of bytes))) is in
    subst (IsProjectAnswer result) e answer

-- A format that is filled piece by piece.
use Rattle.std.proofs.Common.{◌≡◌, ◌≢◌, ℕ, zero, suc, ◌+◌, ◌-◌, ◌<◌, ◌≤◌, Bool, true, false, not, ◌&&◌, nat_eq, List, [], ◌∷◌, ◌++◌, length, take, drop, get_or, refl, sym, ap, subst, ◌∙◌, arith, append_assoc, append-nil, length-append, Option, Some, None, Ok, Err, option_map, if◌then◌else◌}
use Rattle.std.proofs.lemmas.Bool.{false≢true, lt-leb, le-leb}
use Rattle.variant_values.specs.declared.values.Value.{Value}
use Rattle.variant_values.specs.Operators.{longest}
use Rattle.string_calls.specs.declared.formats.Draft.{Draft}
use Rattle.string_calls.specs.Drafts.{Stands, Grows, Fills}
use Rattle.string_calls.specs.Passes.{at_directive, formatted_after}
use Rattle.std.specs.List.{starts_with}
use Rattle.std.proofs.lemmas.Bool.{eq-eqb}
use borrow.Author.Tests.{eqb-true}
use Rattle.variant_values.specs.declared.cells.Cell.{Cell}
use Rattle.variant_values.specs.ValueTexts.{Names, text_in, items_in, is_within, most_levels, fitting}
use Rattle.variant_values.specs.declared.faults.RunFault.TheVariants.{TooDeep, TooLong}
use Rattle.variant_values.specs.StringMethods.{first_place, first_split}
use Rattle.string_calls.proofs.Places.{bool_cases, place_or_none, starts-yes, cut}
use Rattle.variant_values.specs.Formats.{Directive, Formatted, followed, formatted_value, starts_percent, directive_at, plain, padded_text, character_in, number_in, format_result}

and_assoc : (a b c : Bool) → (a && b) && c ≡ a && (b && c)
and_assoc true b c = refl
and_assoc false b c = refl

and_true : (a : Bool) → a && true ≡ a
and_true true = refl
and_true false = refl

and_left : (a b : Bool) → a && b ≡ true → a ≡ true
and_left true b h = refl
and_left false b h = h

pub followed_nothing : (f : Formatted) → f ≡ followed (Some (true, [])) f
followed_nothing None = refl
followed_nothing (Some (w, t)) = refl

abbrev pub found : Bool → List ℕ → Formatted
found w t = Some (w, t)

found_same : (w v : Bool) (s t : List ℕ) → w ≡ v → s ≡ t → found w s ≡ found v t
found_same w v s t e f = ap (λ u. found u s) e ∙ ap (found v) f

pub followed_assoc : (a b c : Formatted) → followed (followed a b) c ≡ followed a (followed b c)
followed_assoc None b c = refl
followed_assoc (Some a) None c = refl
followed_assoc (Some a) (Some b) None = refl
followed_assoc (Some a) (Some b) (Some c) = found_same _ _ _ _ (and_assoc a.0 b.0 c.0) (append_assoc a.1 b.1 c.1)

pub grows_nothing : (d : Draft) → Grows d d true []
grows_nothing d = λ within front stands. subst (λ (w : Bool). Stands d w (front ++ [])) (sym (and_true within)) (subst (λ (t : List ℕ). Stands d within t) (sym (append-nil front)) stands)

pub grows_both : (a b c : Draft) (f g : Bool) (s t : List ℕ) → Grows a b f s → Grows b c g t → Grows a c (f && g) (s ++ t)
grows_both a b c f g s t first second = λ within front stands.
    subst (λ (w : Bool). Stands c w (front ++ (s ++ t))) (and_assoc within f g) (subst (λ (u : List ℕ). Stands c ((within && f) && g) u) (append_assoc front s t) (second (within && f) (front ++ s) (first within front stands)))

-- a text up to the width
pub fills_padded : (old new : Draft) (d : Directive) (shown : Option (List ℕ)) (text : List ℕ) → shown ≡ Some text → Grows old new true (padded_text d text) → Fills old new true (plain (option_map (padded_text d) shown))
fills_padded old new d shown text is grown = (true, (padded_text d text, (ap (λ o. plain (option_map (padded_text d) o)) is, grown)))

-- ---- the pattern

module _ (value : Directive → Value → Formatted) where
  pub skips : (bs : List ℕ) (k : ℕ) (args : List Value) → formatted_after value k bs args ≡ formatted_after value 0 (drop k bs) args
  skips [] zero args = refl
  skips [] (suc k) [] = refl
  skips [] (suc k) (v ∷ vs) = refl
  skips (b ∷ bs) zero args = refl
  skips (b ∷ bs) (suc k) args = skips bs k args

  starts_37 : (b : ℕ) (bs : List ℕ) → starts_with nat_eq (b ∷ bs) (37 ∷ []) ≡ true → b ≡ 37
  starts_37 b bs h = sym (eqb-true 37 b (and_left _ _ h))

  not_37 : (b : ℕ) (bs : List ℕ) → starts_with nat_eq (b ∷ bs) (37 ∷ []) ≡ false → nat_eq b 37 ≡ false
  not_37 b bs h = bool_cases (nat_eq b 37) (λ t. nat_eq b 37 ≡ t → t ≡ false) (λ e same. absurd (false≢true (sym h ∙ starts-yes (b ∷ bs) (37 ∷ []) bs (ap (λ x. x ∷ bs) (eqb-true b 37 e))))) (λ e same. refl) refl

  plain_byte : (b : ℕ) (bs : List ℕ) (args : List Value) → nat_eq b 37 ≡ false → formatted_after value 0 (b ∷ bs) args ≡ followed (found true (b ∷ [])) (formatted_after value 0 bs args)
  plain_byte b bs args other = ap (λ t. if t then (if starts_percent bs then followed (plain (Some (37 ∷ []))) (formatted_after value 1 bs args) else at_directive value (λ n vs. formatted_after value n bs vs) (directive_at bs) args) else followed (plain (Some (b ∷ []))) (formatted_after value 0 bs args)) other

  -- the text before a `%`
  literal_at : (text : List ℕ) (i : ℕ) (args : List Value) → Some i ≡ first_place (37 ∷ []) text → formatted_after value 0 text args ≡ followed (found true (take i text)) (formatted_after value 0 (37 ∷ drop (i + 1) text) args)
  literal_at [] i args is = let no : Some i ≡ None = is in cc
  literal_at (b ∷ bs) i args is =
      bool_cases (starts_with nat_eq (b ∷ bs) (37 ∷ [])) (λ t. starts_with nat_eq (b ∷ bs) (37 ∷ []) ≡ t → Some i ≡ (if t then Some 0 else option_map (λ n. suc n) (first_place (37 ∷ []) bs)) → formatted_after value 0 (b ∷ bs) args ≡ followed (found true (take i (b ∷ bs))) (formatted_after value 0 (37 ∷ drop (i + 1) (b ∷ bs)) args))
      (λ e same at.
      let first : i ≡ 0 = cc in
      ap (λ x. formatted_after value 0 (x ∷ bs) args) (starts_37 b bs same) ∙ followed_nothing _ ∙ sym (ap (λ k. followed (found true (take k (b ∷ bs))) (formatted_after value 0 (37 ∷ drop (k + 1) (b ∷ bs)) args)) first))
      (λ e same at. place_or_none (first_place (37 ∷ []) bs) (λ o. first_place (37 ∷ []) bs ≡ o → Some i ≡ option_map (λ n. suc n) o → formatted_after value 0 (b ∷ bs) args ≡ followed (found true (take i (b ∷ bs))) (formatted_after value 0 (37 ∷ drop (i + 1) (b ∷ bs)) args))
      (λ gone o later. let no : Some i ≡ None = later in cc)
      (λ k there o later.
      let next : i ≡ suc k = cc in
      let size : suc k + 1 ≡ suc (k + 1) = omega arith in
      plain_byte b bs args (not_37 b bs same)
      ∙ ap (followed (found true (b ∷ []))) (literal_at bs k args (sym there))
      ∙ sym (followed_assoc (found true (b ∷ [])) (found true (take k bs)) _)
      ∙ sym (ap (λ n. followed (found true (take n (b ∷ bs))) (formatted_after value 0 (37 ∷ drop (n + 1) (b ∷ bs)) args)) next ∙ ap (λ n. followed (found true (b ∷ take k bs)) (formatted_after value 0 (37 ∷ drop n (b ∷ bs)) args)) size))
      refl at)
      refl is

  no_literal : (text : List ℕ) (args : List Value) → None ≡ first_place (37 ∷ []) text → formatted_after value 0 text args ≡ followed (found true text) (formatted_after value 0 [] args)
  no_literal [] args is = followed_nothing _
  no_literal (b ∷ bs) args is =
      bool_cases (starts_with nat_eq (b ∷ bs) (37 ∷ [])) (λ t. starts_with nat_eq (b ∷ bs) (37 ∷ []) ≡ t → None ≡ (if t then Some 0 else option_map (λ n. suc n) (first_place (37 ∷ []) bs)) → formatted_after value 0 (b ∷ bs) args ≡ followed (found true (b ∷ bs)) (formatted_after value 0 [] args))
      (λ e same at. let no : None ≡ Some 0 = at in cc)
      (λ e same at. place_or_none (first_place (37 ∷ []) bs) (λ o. first_place (37 ∷ []) bs ≡ o → None ≡ option_map (λ n. suc n) o → formatted_after value 0 (b ∷ bs) args ≡ followed (found true (b ∷ bs)) (formatted_after value 0 [] args))
      (λ gone o later.
      plain_byte b bs args (not_37 b bs same) ∙ ap (followed (found true (b ∷ []))) (no_literal bs args (sym gone)) ∙ sym (followed_assoc (found true (b ∷ [])) (found true bs) _))
      (λ k there o later. let no : None ≡ Some (suc k) = later in cc)
      refl at)
      refl is

  pub literal : (text before after : List ℕ) (args : List Value) → Some (before, after) ≡ first_split (37 ∷ []) text → formatted_after value 0 text args ≡ followed (found true before) (formatted_after value 0 (37 ∷ after) args)
  literal text before after args is = literal_pair (before, after) is where
    literal_pair : (p : List ℕ × List ℕ) → Some p ≡ first_split (37 ∷ []) text → formatted_after value 0 text args ≡ followed (found true p.0) (formatted_after value 0 (37 ∷ p.1) args)
    literal_pair p is = place_or_none (first_place (37 ∷ []) text) (λ o. first_place (37 ∷ []) text ≡ o → Some p ≡ option_map (cut (37 ∷ []) text) o → formatted_after value 0 text args ≡ followed (found true p.0) (formatted_after value 0 (37 ∷ p.1) args))
        (λ gone o e. let no : Some p ≡ None = e in cc)
        (λ k there o e.
        let same : p ≡ cut (37 ∷ []) text k = cc in
        literal_at text k args (sym there) ∙ sym (ap (λ (q : List ℕ × List ℕ). followed (found true q.0) (formatted_after value 0 (37 ∷ q.1) args)) same))
        refl is

  pub last_literal : (text : List ℕ) → None ≡ first_split (37 ∷ []) text → formatted_after value 0 text [] ≡ found true text
  last_literal text is = place_or_none (first_place (37 ∷ []) text) (λ o. first_place (37 ∷ []) text ≡ o → None ≡ option_map (cut (37 ∷ []) text) o → formatted_after value 0 text [] ≡ found true text)
      (λ gone o e. no_literal text [] (sym gone) ∙ ap (found true) (append-nil text))
      (λ k there o e. let no : None ≡ Some (cut (37 ∷ []) text k) = e in cc)
      refl is

  pub values_left : (text : List ℕ) (v : Value) (vs : List Value) → None ≡ first_split (37 ∷ []) text → formatted_after value 0 text (v ∷ vs) ≡ None
  values_left text v vs is = place_or_none (first_place (37 ∷ []) text) (λ o. first_place (37 ∷ []) text ≡ o → None ≡ option_map (cut (37 ∷ []) text) o → formatted_after value 0 text (v ∷ vs) ≡ None)
      (λ gone o e. no_literal text (v ∷ vs) (sym gone))
      (λ k there o e. let no : None ≡ Some (cut (37 ∷ []) text k) = e in cc)
      refl is

  pub percent_twice : (after : List ℕ) (args : List Value) → starts_with nat_eq after (37 ∷ []) ≡ true → formatted_after value 0 (37 ∷ after) args ≡ followed (found true (37 ∷ [])) (formatted_after value 0 (drop 1 after) args)
  percent_twice [] args h = absurd (false≢true h)
  percent_twice (b ∷ bs) args h =
      let same : nat_eq b 37 ≡ true = eq-eqb b 37 (starts_37 b bs h) in
      ap (λ t. if t then followed (plain (Some (37 ∷ []))) (formatted_after value 1 (b ∷ bs) args) else at_directive value (λ n vs. formatted_after value n (b ∷ bs) vs) (directive_at (b ∷ bs)) args) same

  no_percent : (after : List ℕ) → starts_with nat_eq after (37 ∷ []) ≡ false → starts_percent after ≡ false
  no_percent [] h = refl
  no_percent (b ∷ bs) h = not_37 b bs h

  pub percent_directive : (after : List ℕ) (args vs : List Value) (d : Directive) (v : Value) (fits : Bool) (text : List ℕ) → starts_with nat_eq after (37 ∷ []) ≡ false → directive_at after ≡ Some d → args ≡ v ∷ vs → value d v ≡ Some (fits, text) → formatted_after value 0 (37 ∷ after) args ≡ followed (found fits text) (formatted_after value 0 (drop d.size after) (drop 1 args))
  percent_directive after args vs d v fits text other is some shows =
      ap (λ t. if t then followed (plain (Some (37 ∷ []))) (formatted_after value 1 after args) else at_directive value (λ n ws. formatted_after value n after ws) (directive_at after) args) (no_percent after other)
      ∙ ap (λ o. at_directive value (λ n ws. formatted_after value n after ws) o args) is
      ∙ ap (at_directive value (λ n ws. formatted_after value n after ws) (Some d)) some
      ∙ ap (λ f. followed f (formatted_after value d.size after vs)) shows
      ∙ ap (followed (found fits text)) (skips after d.size vs ∙ sym (ap (λ ws. formatted_after value 0 (drop d.size after) (drop 1 ws)) some))

pub text_shown : (cells : List (Option Cell)) (names : Names) (d : Directive) (v : Value) → d.letter ≡ 115 → formatted_value cells names d v ≡ Some (is_within (items_in most_levels cells v), padded_text d (text_in most_levels cells names v))
text_shown cells names d v is = ap (λ l. if nat_eq l 115 then found (is_within (items_in most_levels cells v)) (padded_text d (text_in most_levels cells names v)) else (if nat_eq l 99 then plain (option_map (padded_text d) (character_in v)) else plain (number_in d v))) is

pub percent_first : (after : List ℕ) → starts_with nat_eq after (37 ∷ []) ≡ true → (0 < length after) × (get_or after 0 0 ≡ 37)
percent_first [] h = absurd (false≢true h)
percent_first (b ∷ bs) h = (omega arith, sym (eqb-true 37 b (and_left _ _ h)))

pub cons_of : {A : Type 0} (xs : List A) (x : A) → 0 < length xs → x ≡ get_or xs 0 x → xs ≡ x ∷ drop 1 xs
cons_of [] x some is = absurd (omega arith)
cons_of (y ∷ ys) x some is = ap (λ z. z ∷ ys) (sym is)

-- ---- a turn of the loop
module _ (value : Directive → Value → Formatted) where
  pub fill_step : (whole : Formatted) (first mid last new : Draft) (fits more : Bool) (text before piece : List ℕ) (rest after next : List ℕ) (left others : List Value) (bytes values : ℕ) →
      whole ≡ followed (found fits text) (formatted_after value 0 rest left) → Grows first mid fits text →
      Some (before, after) ≡ first_split (37 ∷ []) rest → Grows mid last true before →
      formatted_after value 0 (37 ∷ after) left ≡ followed (found more piece) (formatted_after value 0 (drop bytes after) (drop values left)) → Grows last new more piece →
      next ≡ drop bytes after → others ≡ drop values left →
      (w : Bool) × ((t : List ℕ) × ((whole ≡ followed (found w t) (formatted_after value 0 next others)) × Grows first new w t))
  fill_step whole first mid last new fits more text before piece rest after next left others bytes values so_far grown cut_is added step stepped next_is others_is =
      let goes : whole ≡ followed (found ((fits && true) && more) ((text ++ before) ++ piece)) (formatted_after value 0 next others) =
      so_far
      ∙ ap (followed (found fits text)) (literal value rest before after left cut_is)
      ∙ sym (followed_assoc (found fits text) (found true before) (formatted_after value 0 (37 ∷ after) left))
      ∙ ap (followed (found (fits && true) (text ++ before))) step
      ∙ sym (followed_assoc (found (fits && true) (text ++ before)) (found more piece) _)
      ∙ sym (ap (λ t. followed (found ((fits && true) && more) ((text ++ before) ++ piece)) (formatted_after value 0 t others)) next_is ∙ ap (λ vs. followed (found ((fits && true) && more) ((text ++ before) ++ piece)) (formatted_after value 0 (drop bytes after) vs)) others_is) in
      (_, (_, (goes, grows_both first last new (fits && true) more (text ++ before) piece (grows_both first mid last fits true text before grown added) stepped)))

  -- a bad directive makes all of it bad
  pub fill_bad : (whole : Formatted) (fits : Bool) (text before rest after : List ℕ) (left : List Value) → whole ≡ followed (found fits text) (formatted_after value 0 rest left) → Some (before, after) ≡ first_split (37 ∷ []) rest → formatted_after value 0 (37 ∷ after) left ≡ None → whole ≡ None
  fill_bad whole fits text before rest after left so_far cut_is bad =
      so_far ∙ ap (followed (found fits text)) (literal value rest before after left cut_is ∙ ap (followed (found true before)) bad)

  pub fill_more_values : (whole : Formatted) (fits : Bool) (text rest : List ℕ) (left : List Value) → whole ≡ followed (found fits text) (formatted_after value 0 rest left) → None ≡ first_split (37 ∷ []) rest → 0 < length left → whole ≡ None
  fill_more_values whole fits text rest [] so_far none some = absurd (omega arith)
  fill_more_values whole fits text rest (v ∷ vs) so_far none some = so_far ∙ ap (followed (found fits text)) (values_left value rest v vs none)

  pub fill_end : (whole : Formatted) (first mid last : Draft) (fits : Bool) (text rest : List ℕ) (left : List Value) → whole ≡ followed (found fits text) (formatted_after value 0 rest left) → Grows first mid fits text → None ≡ first_split (37 ∷ []) rest → length left ≡ 0 → Grows mid last true rest → (w : Bool) × ((t : List ℕ) × ((whole ≡ found w t) × Grows first last w t))
  fill_end whole first mid last fits text rest [] so_far grown none empty added = (_, (_, (so_far ∙ ap (followed (found fits text)) (last_literal value rest none), grows_both first mid last fits true text rest grown added)))
  fill_end whole first mid last fits text rest (v ∷ vs) so_far grown none empty added = absurd (omega arith)

-- ---- the end of a format

pub stands_new : (d : Draft) → d.out ≡ [] → d.is_deep ≡ false → d.is_long ≡ false → Stands d true []
stands_new d empty deep long = record {
  deep = deep;
  kept = λ w l. empty;
  lost = λ w l. absurd (false≢true (sym long ∙ l));
}

not_false : (b : Bool) → true ≡ not b → b ≡ false
not_false true h = absurd (false≢true (sym h))
not_false false h = refl

not_true : (b : Bool) → false ≡ not b → b ≡ true
not_true true h = refl
not_true false h = absurd (false≢true h)

module _ (formatted : Formatted) (first last : Draft) (new : Stands first true []) (filled : (fits : Bool) × ((text : List ℕ) × ((formatted ≡ Some (fits, text)) × Grows first last fits text))) where
  stands_last : Stands last filled.0 filled.1.0
  stands_last = filled.1.1.1 true [] new

  pub deep_result : last.is_deep ≡ true → format_result formatted ≡ Err TooDeep
  deep_result deep =
      let bad : filled.0 ≡ false = not_false filled.0 (sym deep ∙ stands_last.deep) in
      ap format_result filled.1.1.0 ∙ ap (λ t. if t then fitting filled.1.0 else Err TooDeep) bad

  fits_last : last.is_deep ≡ false → filled.0 ≡ true
  fits_last deep = not_true filled.0 (sym deep ∙ stands_last.deep)

  text_result : last.is_deep ≡ false → format_result formatted ≡ fitting filled.1.0
  text_result deep = ap format_result filled.1.1.0 ∙ ap (λ t. if t then fitting filled.1.0 else Err TooDeep) (fits_last deep)

  pub long_result : last.is_deep ≡ false → last.is_long ≡ true → format_result formatted ≡ Err TooLong
  long_result deep long =
      let lost = stands_last.lost (fits_last deep) long in
      text_result deep ∙ ap (λ t. if t then Ok filled.1.0 else Err TooLong) (lt-leb (length filled.1.0) longest lost)

  pub good_result : last.is_deep ≡ false → last.is_long ≡ false → length last.out ≤ longest → format_result formatted ≡ Ok last.out
  good_result deep long short =
      let kept : last.out ≡ filled.1.0 = stands_last.kept (fits_last deep) long in
      text_result deep ∙ ap fitting (sym kept) ∙ ap (λ t. if t then Ok last.out else Err TooLong) (le-leb (length last.out) longest short)

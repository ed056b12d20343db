-- What look-ups and keys say of merged entries.
use Rattle.std.proofs.Common.{◌≡◌, ◌∙◌, ap, sym, refl, Bool, true, false, cond, List, [], ◌∷◌, ◌++◌, append_assoc, Option, Some, None, is_some}
use Rattle.std.specs.Prelude.{map, not, if◌then◌else◌}
use Rattle.std.specs.Map.{lookup}
use Rattle.std.specs.Option.{option_or}
use Rattle.variant_values.specs.declared.values.Key.{Key}
use Rattle.variant_values.specs.declared.values.Value.{Value}
use Rattle.variant_values.specs.Keys.{same_key, with_entry, HasKeysOnce}
use Rattle.variant_values.specs.DictMethods.{merged, with_missing}
use Rattle.call_support.proofs.Once.{apart_too}
use Rattle.bulk_changes.specs.Merges.{lacking, lacks, with_put}
use Rattle.bulk_changes.proofs.Entries.{apart_lookup, own_lookup}
use Rattle.variant_values.proofs.SameKeys.{same_is}

pub found_overwritten : (es fs : List (Key × Value)) (k : Key) → HasKeysOnce fs → lookup (same_key k) (merged true es fs) ≡ option_or (lookup (same_key k) fs) (lookup (same_key k) es)
found_overwritten es [] k once = refl
found_overwritten es (f ∷ fs) k once = found_overwritten (with_entry es f.0 f.1) fs k once.1 ∙ by (same_key k f.0) refl
  where
    by : (b : Bool) → same_key k f.0 ≡ b → option_or (lookup (same_key k) fs) (lookup (same_key k) (with_entry es f.0 f.1)) ≡ option_or (cond b (Some f.1) (lookup (same_key k) fs)) (lookup (same_key k) es)
    by true one =
        let here : k ≡ f.0 = same_is k f.0 one in
        let none : lookup (same_key k) fs ≡ None = ap (λ q. lookup (same_key q) fs) here ∙ once.0 in
        let own : lookup (same_key k) (with_entry es f.0 f.1) ≡ Some f.1 = ap (λ q. lookup (same_key q) (with_entry es f.0 f.1)) here ∙ own_lookup es f.0 f.1 in
        ap (λ o. option_or o (lookup (same_key k) (with_entry es f.0 f.1))) none ∙ own
    by false other = ap (option_or (lookup (same_key k) fs)) (apart_lookup es f.0 k f.1 other)

-- what is found where one more is put in that overwrites none
one_kept : (es : List (Key × Value)) (f : Key × Value) (k : Key) → lookup (same_key k) (with_missing es f) ≡ option_or (lookup (same_key k) es) (cond (same_key k f.0) (Some f.1) None)
one_kept es f k = by (lookup (same_key f.0) es) (same_key k f.0) refl refl
  where
    or_none : (o : Option Value) → o ≡ option_or o None
    or_none None = refl
    or_none (Some v) = refl

    by : (o : Option Value) (b : Bool) → lookup (same_key f.0) es ≡ o → same_key k f.0 ≡ b → lookup (same_key k) (if is_some o then es else with_entry es f.0 f.1) ≡ option_or (lookup (same_key k) es) (cond b (Some f.1) None)
    by (Some v) true found one =
        let here : lookup (same_key k) es ≡ Some v = ap (λ q. lookup (same_key q) es) (same_is k f.0 one) ∙ found in
        here ∙ sym (ap (λ o. option_or o (Some f.1)) here)
    by (Some v) false found other = or_none (lookup (same_key k) es)
    by None true none one =
        let here : lookup (same_key k) es ≡ None = ap (λ q. lookup (same_key q) es) (same_is k f.0 one) ∙ none in
        ap (λ q. lookup (same_key q) (with_entry es f.0 f.1)) (same_is k f.0 one) ∙ own_lookup es f.0 f.1 ∙ sym (ap (λ o. option_or o (Some f.1)) here)
    by None false none other = apart_lookup es f.0 k f.1 other ∙ or_none (lookup (same_key k) es)

pub found_kept : (es fs : List (Key × Value)) (k : Key) → lookup (same_key k) (merged false es fs) ≡ option_or (lookup (same_key k) es) (lookup (same_key k) fs)
found_kept es [] k = or_none (lookup (same_key k) es)
  where
    or_none : (o : Option Value) → o ≡ option_or o None
    or_none None = refl
    or_none (Some v) = refl
found_kept es (f ∷ fs) k = found_kept (with_missing es f) fs k ∙ ap (λ o. option_or o (lookup (same_key k) fs)) (one_kept es f k) ∙ by (lookup (same_key k) es) (same_key k f.0)
  where
    by : (o : Option Value) (b : Bool) → option_or (option_or o (cond b (Some f.1) None)) (lookup (same_key k) fs) ≡ option_or o (cond b (Some f.1) (lookup (same_key k) fs))
    by (Some v) b = refl
    by None true = refl
    by None false = refl

-- the keys where one more is put in
put_keys : (es : List (Key × Value)) (k : Key) (v : Value) → map (λ e. e.0) (with_entry es k v) ≡ map (λ e. e.0) es ++ cond (is_some (lookup (same_key k) es)) [] (k ∷ [])
put_keys [] k v = refl
put_keys (e ∷ es) k v = by (same_key k e.0) (put_keys es k v)
  where
    append_nil : (ks : List Key) → ks ≡ ks ++ []
    append_nil [] = refl
    append_nil (q ∷ ks) = ap (λ us. q ∷ us) (append_nil ks)

    by : (b : Bool) → map (λ e. e.0) (with_entry es k v) ≡ map (λ e. e.0) es ++ cond (is_some (lookup (same_key k) es)) [] (k ∷ []) → map (λ e. e.0) (cond b ((e.0, v) ∷ es) (e ∷ with_entry es k v)) ≡ map (λ e. e.0) (e ∷ es) ++ cond (is_some (cond b (Some e.1) (lookup (same_key k) es))) [] (k ∷ [])
    by true later = append_nil (e.0 ∷ map (λ e. e.0) es)
    by false later = ap (λ ks. e.0 ∷ ks) later

-- one more stands in none of them
lacks_alike : (es fs : List (Key × Value)) (k : Key) (v : Value) → lookup (same_key k) fs ≡ None → lacking (with_entry es k v) fs ≡ lacking es fs
lacks_alike es [] k v none = refl
lacks_alike es (g ∷ fs) k v none = by (same_key k g.0) refl none (lacks_alike es fs k v)
  where
    by : (b : Bool) → same_key k g.0 ≡ b → cond b (Some g.1) (lookup (same_key k) fs) ≡ None → (lookup (same_key k) fs ≡ None → lacking (with_entry es k v) fs ≡ lacking es fs) → lacking (with_entry es k v) (g ∷ fs) ≡ lacking es (g ∷ fs)
    by true one h later = cc
    by false other h later =
        ap (λ o. cond (not (is_some o)) (g ∷ lacking (with_entry es k v) fs) (lacking (with_entry es k v) fs)) (apart_lookup es k g.0 v (apart_too k g.0 other))
        ∙ ap (λ us. cond (lacks es g) (g ∷ us) us) (later h)

-- the keys after the next entry, and those that are missing then
next_keys : (overwrite : Bool) (es fs : List (Key × Value)) (f : Key × Value) → lookup (same_key f.0) fs ≡ None → map (λ e. e.0) (with_put overwrite es f) ++ map (λ e. e.0) (lacking (with_put overwrite es f) fs) ≡ map (λ e. e.0) es ++ map (λ e. e.0) (lacking es (f ∷ fs))
next_keys overwrite es fs f none = by overwrite (lookup (same_key f.0) es) refl (put_keys es f.0 f.1)
  where
    put : (b : Bool) → map (λ e. e.0) (with_entry es f.0 f.1) ≡ map (λ e. e.0) es ++ cond b [] (f.0 ∷ []) → map (λ e. e.0) (with_entry es f.0 f.1) ++ map (λ e. e.0) (lacking (with_entry es f.0 f.1) fs) ≡ map (λ e. e.0) es ++ (cond b [] (f.0 ∷ []) ++ map (λ e. e.0) (lacking es fs))
    put b keys =
        ap (λ us. map (λ e. e.0) (with_entry es f.0 f.1) ++ map (λ (e : Key × Value). e.0) us) (lacks_alike es fs f.0 f.1 none)
        ∙ ap (λ ks. ks ++ map (λ e. e.0) (lacking es fs)) keys
        ∙ append_assoc (map (λ e. e.0) es) (cond b [] (f.0 ∷ [])) (map (λ e. e.0) (lacking es fs))

    by : (overwrite : Bool) (o : Option Value) → lookup (same_key f.0) es ≡ o → map (λ e. e.0) (with_entry es f.0 f.1) ≡ map (λ e. e.0) es ++ cond (is_some (lookup (same_key f.0) es)) [] (f.0 ∷ []) → map (λ e. e.0) (with_put overwrite es f) ++ map (λ e. e.0) (lacking (with_put overwrite es f) fs) ≡ map (λ e. e.0) es ++ map (λ e. e.0) (lacking es (f ∷ fs))
    by true None is keys = put false (keys ∙ ap (λ p. map (λ e. e.0) es ++ cond (is_some p) [] (f.0 ∷ [])) is) ∙ sym (ap (λ p. map (λ e. e.0) es ++ map (λ (e : Key × Value). e.0) (cond (not (is_some p)) (f ∷ lacking es fs) (lacking es fs))) is)
    by true (Some v) is keys = put true (keys ∙ ap (λ p. map (λ e. e.0) es ++ cond (is_some p) [] (f.0 ∷ [])) is) ∙ sym (ap (λ p. map (λ e. e.0) es ++ map (λ (e : Key × Value). e.0) (cond (not (is_some p)) (f ∷ lacking es fs) (lacking es fs))) is)
    by false None is keys =
        ap (λ p. map (λ (e : Key × Value). e.0) (if is_some p then es else with_entry es f.0 f.1) ++ map (λ (e : Key × Value). e.0) (lacking (if is_some p then es else with_entry es f.0 f.1) fs)) is
        ∙ put false (keys ∙ ap (λ p. map (λ e. e.0) es ++ cond (is_some p) [] (f.0 ∷ [])) is)
        ∙ sym (ap (λ p. map (λ e. e.0) es ++ map (λ (e : Key × Value). e.0) (cond (not (is_some p)) (f ∷ lacking es fs) (lacking es fs))) is)
    by false (Some v) is keys =
        ap (λ p. map (λ (e : Key × Value). e.0) (if is_some p then es else with_entry es f.0 f.1) ++ map (λ (e : Key × Value). e.0) (lacking (if is_some p then es else with_entry es f.0 f.1) fs)) is
        ∙ sym (ap (λ p. map (λ e. e.0) es ++ map (λ (e : Key × Value). e.0) (cond (not (is_some p)) (f ∷ lacking es fs) (lacking es fs))) is)

pub keys_of_merged : (overwrite : Bool) (es fs : List (Key × Value)) → HasKeysOnce fs → map (λ e. e.0) (merged overwrite es fs) ≡ map (λ e. e.0) es ++ map (λ f. f.0) (lacking es fs)
keys_of_merged overwrite es [] once = append_nil (map (λ e. e.0) es)
  where
    append_nil : (ks : List Key) → ks ≡ ks ++ []
    append_nil [] = refl
    append_nil (q ∷ ks) = ap (λ us. q ∷ us) (append_nil ks)
keys_of_merged overwrite es (f ∷ fs) once = keys_of_merged overwrite (with_put overwrite es f) fs once.1 ∙ next_keys overwrite es fs f once.0

once_put : (es : List (Key × Value)) (k : Key) (v : Value) → HasKeysOnce es → HasKeysOnce (with_entry es k v)
once_put [] k v once = (refl, tt)
once_put (e ∷ es) k v once = by (same_key k e.0) refl (once_put es k v once.1)
  where
    by : (b : Bool) → same_key k e.0 ≡ b → HasKeysOnce (with_entry es k v) → HasKeysOnce (cond b ((e.0, v) ∷ es) (e ∷ with_entry es k v))
    by true one later = once
    by false other later = (apart_lookup es k e.0 v (apart_too k e.0 other) ∙ once.0, later)

once_one : (overwrite : Bool) (es : List (Key × Value)) (f : Key × Value) → HasKeysOnce es → HasKeysOnce (with_put overwrite es f)
once_one true es f once = once_put es f.0 f.1 once
once_one false es f once = by (is_some (lookup (same_key f.0) es))
  where
    by : (b : Bool) → HasKeysOnce (if b then es else with_entry es f.0 f.1)
    by true = once
    by false = once_put es f.0 f.1 once

pub once_merged : (overwrite : Bool) (es fs : List (Key × Value)) → HasKeysOnce es → HasKeysOnce (merged overwrite es fs)
once_merged overwrite es [] once = once
once_merged overwrite es (f ∷ fs) once = once_merged overwrite (with_put overwrite es f) fs (once_one overwrite es f once)

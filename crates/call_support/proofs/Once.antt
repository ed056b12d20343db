-- Entries whose keys stand once, put in one after the other.
use Rattle.std.proofs.Common.{◌≡◌, ◌∙◌, ap, sym, ℕ, zero, suc, ◌+◌, Bool, true, false, cond, List, [], ◌∷◌, ◌++◌, take, Some, None, refl, arith}
use Rattle.std.specs.Prelude.{slice_get}
use Rattle.std.specs.Map.{lookup}
use Rattle.std.specs.Cmp.{bool_eq_equiv}
use Rattle.std.proofs.lemmas.Cmp.{nat_list_eq_equiv, nat_eq_equiv, int_eq_equiv}
use Rattle.variant_values.specs.declared.values.Key.{Key}
use Rattle.variant_values.specs.declared.values.Key.TheVariants.{Bool as KeyTruth, Int as KeyInt, Str as KeyStr, Object as KeyObject}
use Rattle.variant_values.specs.declared.values.Value.{Value}
use Rattle.variant_values.specs.Keys.{same_key, with_entry, HasKeysOnce}

pub apart_too : (a b : Key) → same_key a b ≡ false → same_key b a ≡ false
apart_too (KeyTruth a) (KeyTruth b) h = bool_eq_equiv.symm b a ∙ h
apart_too (KeyTruth a) (KeyInt b) h = refl
apart_too (KeyTruth a) (KeyStr b) h = refl
apart_too (KeyTruth a) (KeyObject b) h = refl
apart_too (KeyInt a) (KeyTruth b) h = refl
apart_too (KeyInt a) (KeyInt b) h = int_eq_equiv.symm b a ∙ h
apart_too (KeyInt a) (KeyStr b) h = refl
apart_too (KeyInt a) (KeyObject b) h = refl
apart_too (KeyStr a) (KeyTruth b) h = refl
apart_too (KeyStr a) (KeyInt b) h = refl
apart_too (KeyStr a) (KeyStr b) h = nat_list_eq_equiv.symm b a ∙ h
apart_too (KeyStr a) (KeyObject b) h = refl
apart_too (KeyObject a) (KeyTruth b) h = refl
apart_too (KeyObject a) (KeyInt b) h = refl
apart_too (KeyObject a) (KeyStr b) h = refl
apart_too (KeyObject a) (KeyObject b) h = nat_eq_equiv.symm b.0 a.0 ∙ h

-- a key that is not there is apart from that of each entry
pub apart_at : (k : Key) (es : List (Key × Value)) (i : ℕ) (e : Key × Value) → lookup (same_key k) es ≡ None → slice_get es i ≡ Some e → same_key k e.0 ≡ false
apart_at k [] i e none at = cc
apart_at k (f ∷ es) i e none at = by (same_key k f.0) refl none (λ n j g. apart_at k es j e n g)
  where
    from : same_key k f.0 ≡ false → ((j : ℕ) → slice_get es j ≡ Some e → same_key k e.0 ≡ false) → (j : ℕ) → slice_get (f ∷ es) j ≡ Some e → same_key k e.0 ≡ false
    from is later zero g = let same : f ≡ e = cc in ap (λ (x : Key × Value). same_key k x.0) (sym same) ∙ is
    from is later (suc j) g = later j g

    by : (t : Bool) → same_key k f.0 ≡ t → cond t (Some f.1) (lookup (same_key k) es) ≡ None → (lookup (same_key k) es ≡ None → (j : ℕ) → slice_get es j ≡ Some e → same_key k e.0 ≡ false) → same_key k e.0 ≡ false
    by true is h later = cc
    by false is h later = from is (later h) i at

-- a key that is not there goes last
pub with_new : (es : List (Key × Value)) (k : Key) (v : Value) → lookup (same_key k) es ≡ None → with_entry es k v ≡ es ++ (k, v) ∷ []
with_new [] k v none = refl
with_new (e ∷ es) k v none = by (same_key k e.0) none (with_new es k v)
  where
    by : (t : Bool) → cond t (Some e.1) (lookup (same_key k) es) ≡ None → (lookup (same_key k) es ≡ None → with_entry es k v ≡ es ++ (k, v) ∷ []) → cond t ((e.0, v) ∷ es) (e ∷ with_entry es k v) ≡ (e ∷ es) ++ (k, v) ∷ []
    by true h later = cc
    by false h later = ap (λ fs. e ∷ fs) (later h)

-- the next entry goes behind those before it
pub taken_next : (es : List (Key × Value)) (i : ℕ) (e : Key × Value) → HasKeysOnce es → slice_get es i ≡ Some e → with_entry (take i es) e.0 e.1 ≡ take (i + 1) es
taken_next [] i e once at = cc
taken_next (f ∷ es) zero e once at = let same : f ≡ e = cc in ap (λ x. x ∷ []) (sym same)
taken_next (f ∷ es) (suc i) e once at =
    let more : suc i + 1 ≡ suc (i + 1) = omega arith in
    let other : same_key e.0 f.0 ≡ false = apart_too f.0 e.0 (apart_at f.0 es i e once.0 at) in
    ap (λ t. cond t ((f.0, e.1) ∷ take i es) (f ∷ with_entry (take i es) e.0 e.1)) other
    ∙ ap (λ fs. f ∷ fs) (taken_next es i e once.1 at)
    ∙ sym (ap (λ n. take n (f ∷ es)) more)

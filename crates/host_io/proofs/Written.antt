-- Writes one after the other.
use Rattle.std.proofs.Common.{◌≡◌, ℕ, List, [], ◌++◌, refl, sym, ap, ◌∙◌, append_assoc, append-nil, None, Some}
use Rattle.std.specs.declared.option.Option.{Option}
use Rattle.std.specs.Io.KnownBytes.{append_known}
use Rattle.host_io.specs.Sink.{TookFront}

pub append_twice : (old : Option (List ℕ)) (a b : List ℕ) → append_known (append_known old a) b ≡ append_known old (a ++ b)
append_twice None a b = refl
append_twice (Some xs) a b = ap Some (append_assoc xs a b)

pub append_nothing : (old : Option (List ℕ)) → old ≡ append_known old []
append_nothing None = refl
append_nothing (Some xs) = ap Some (sym (append-nil xs))

-- nothing was written of a text
pub took_nothing : (old : Option (List ℕ)) (text : List ℕ) → TookFront old old text
took_nothing old text = record { front = []; rest = text; is = refl; took = append_nothing old }

-- a whole text was written
pub took_all : (old new : Option (List ℕ)) (text : List ℕ) → new ≡ append_known old text → TookFront old new text
took_all old new text is = record { front = text; rest = []; is = sym (append-nil text); took = is }

-- a first text was written, and no more
pub took_first : (old new : Option (List ℕ)) (a b : List ℕ) → new ≡ append_known old a → TookFront old new (a ++ b)
took_first old new a b is = record { front = a; rest = b; is = refl; took = is }

-- a first text, and then a part of the second
pub took_then : (old mid new : Option (List ℕ)) (a b : List ℕ) → mid ≡ append_known old a → TookFront mid new b → TookFront old new (a ++ b)
took_then old mid new a b is t = record { front = a ++ t.front; rest = t.rest; is = ap (λ xs. a ++ xs) t.is ∙ sym (append_assoc a t.front t.rest); took = t.took ∙ ap (λ o. append_known o t.front) is ∙ append_twice old a t.front }

-- a part of the first text
pub took_more : (old new : Option (List ℕ)) (a b : List ℕ) → TookFront old new a → TookFront old new (a ++ b)
took_more old new a b t = record { front = t.front; rest = t.rest ++ b; is = ap (λ xs. xs ++ b) t.is ∙ append_assoc t.front t.rest b; took = t.took }

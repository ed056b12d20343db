-- One meaning in two worlds that differ in the steps that are left.
use Rattle.std.proofs.Common.{Bool, true, false, Option, Some, None, if◌then◌else◌, ◌≡◌, ◌≤◌, ◌<◌, ◌-◌, ℕ, zero, suc, ◌+◌, List, [], ◌∷◌, ◌++◌, refl, sym, ◌∙◌, ap, subst, Result, Ok, Err, append_assoc, arith}
use Rattle.std.proofs.lemmas.List.{append-nil}
use Rattle.variant_values.specs.declared.faults.RunFault.{RunFault}
use Rattle.script_meaning.specs.State.{World, Spot, Stop, Failed, Spent, and_then, step_from, step}
use Rattle.script_laws.specs.Allowance.{Begins}

-- ---- fronts of texts

pub begins_same : (t : List ℕ) → Begins t t
begins_same t = record { rest = []; joins = append-nil t }

pub begins_then : {s t u : List ℕ} → Begins s t → Begins t u → Begins s u
begins_then {s} a b = record { rest = a.rest ++ b.rest; joins = sym (append_assoc s a.rest b.rest) ∙ ap (λ x. x ++ b.rest) a.joins ∙ b.joins }

-- ---- what meanings give

-- the world with k steps more
abbrev pub later : ℕ → World → World
later k w = record w { left = w.left + k }

-- Where the world stands in a result: what the result is with k steps more, what was printed, and the steps that are left.
pub record Carrier (A : Type 0) : Type 0 where
  pub move : ℕ → A → A
  pub text : A → List ℕ
  pub left : A → ℕ

abbrev pub text_by : {A : Type 0} → Carrier A → Result A Stop → List ℕ
text_by c (Ok x) = c.text x
text_by c (Err (Failed kind spot w)) = w.printed
text_by c (Err (Spent spot w)) = w.printed

abbrev pub left_by : {A : Type 0} → Carrier A → Result A Stop → ℕ
left_by c (Ok x) = c.left x
left_by c (Err (Failed kind spot w)) = w.left
left_by c (Err (Spent spot w)) = w.left

-- fewer than k steps are left, unless a step was wanted that was not left
abbrev pub Needs : {A : Type 0} → ℕ → Carrier A → Result A Stop → Type 0
Needs k c (Ok x) = c.left x < k
Needs k c (Err (Failed kind spot w)) = w.left < k
Needs k c (Err (Spent spot w)) = Unit {0}

-- what is spent in the world w has no step left, and with k steps more it goes on: it prints more, and takes one of them
pub record Passes {A : Type 0} (k : ℕ) (c : Carrier A) (w : World) (s : Result A Stop) : Type 0 where
  pub text : Begins w.printed (text_by c s)
  pub none : w.left ≡ 0
  pub needs : Needs k c s

-- what is given or fails is the same with k steps more
abbrev pub Same : {A : Type 0} → ℕ → Carrier A → Result A Stop → Result A Stop → Type 0
Same k c (Ok x) s = s ≡ Ok (c.move k x)
Same k c (Err (Failed kind spot w)) s = s ≡ Err (Failed kind spot (later k w))
Same k c (Err (Spent spot w)) s = Passes k c w s

-- what is printed begins with t, and at most n steps are left
pub record Grows {A : Type 0} (c : Carrier A) (t : List ℕ) (n : ℕ) (r : Result A Stop) : Type 0 where
  pub text : Begins t (text_by c r)
  pub left : left_by c r ≤ n

pub record Agrees {A : Type 0} (k : ℕ) (c : Carrier A) (t : List ℕ) (n : ℕ) (r s : Result A Stop) : Type 0 where
  pub same : Same k c r s
  pub grows : Grows c t n r

pub stays : {A : Type 0} {c : Carrier A} {x : A} → Grows c (c.text x) (c.left x) (Ok x)
stays {c = c} {x = x} = record { text = begins_same (c.text x); left = omega arith }

pub stops : {A : Type 0} {c : Carrier A} (kind : RunFault) (spot : Spot) (w : World) → Grows c w.printed w.left (Err (Failed kind spot w))
stops kind spot w = record { text = begins_same w.printed; left = omega arith }

pub widen : {A : Type 0} {k : ℕ} {c : Carrier A} {t : List ℕ} {r s : Result A Stop} (n m : ℕ) → n ≤ m → Agrees k c t n r s → Agrees k c t m r s
widen n m le a = let l = a.grows.left in record { same = a.same; grows = record { text = a.grows.text; left = omega arith } }

-- ---- one after the other

grows_after : {A B : Type 0} (c : Carrier A) (d : Carrier B) (u : List ℕ) (n : ℕ) (s : Result A Stop) (g : A → Result B Stop) → ((y : A) → Grows d (c.text y) (c.left y) (g y)) → Grows c u n s → Grows d u n (and_then s g)
grows_after c d u n (Ok y) g h b = let first = b.left in let next = (h y).left in record { text = begins_then b.text (h y).text; left = omega arith }
grows_after c d u n (Err (Failed kind spot w)) g h b = record { text = b.text; left = b.left }
grows_after c d u n (Err (Spent spot w)) g h b = record { text = b.text; left = b.left }

pub grows_bind : {A B : Type 0} {c : Carrier A} {d : Carrier B} {t : List ℕ} {n : ℕ} {r : Result A Stop} {g : A → Result B Stop}
    → Grows c t n r → ((y : A) → Grows d (c.text y) (c.left y) (g y)) → Grows d t n (and_then r g)
grows_bind {c = c} {d = d} {t = t} {n = n} {r = r} {g = g} a h = grows_after c d t n r g h a

pub needs_by : {B : Type 0} (k : ℕ) (d : Carrier B) (n : ℕ) (r : Result B Stop) → left_by d r ≤ n → n < k → Needs k d r
needs_by k d n (Ok x) le less = omega arith
needs_by k d n (Err (Failed kind spot w)) le less = omega arith
needs_by k d n (Err (Spent spot w)) le less = tt

passes_after : {A B : Type 0} (k : ℕ) (c : Carrier A) (d : Carrier B) (w : World) (s : Result A Stop) (g : A → Result B Stop) → ((y : A) → Grows d (c.text y) (c.left y) (g y)) → Passes k c w s → Passes k d w (and_then s g)
passes_after k c d w (Ok y) g h p = record { text = begins_then p.text (h y).text; none = p.none; needs = needs_by k d (c.left y) (g y) (h y).left p.needs }
passes_after k c d w (Err (Failed kind spot u)) g h p = record { text = p.text; none = p.none; needs = p.needs }
passes_after k c d w (Err (Spent spot u)) g h p = record { text = p.text; none = p.none; needs = tt }

-- in the second world another meaning may come next
pub bind_two : {A B : Type 0} {k : ℕ} {c : Carrier A} {d : Carrier B} {t : List ℕ} {n : ℕ} {r s : Result A Stop} {g f : A → Result B Stop}
    → Agrees k c t n r s → ((x : A) → c.left x ≤ n → Agrees k d (c.text x) (c.left x) (g x) (f (c.move k x))) → ((y : A) → Grows d (c.text y) (c.left y) (f y)) → Agrees k d t n (and_then r g) (and_then s f)
bind_two {k = k} {c = c} {d = d} {t = t} {n = n} {r = Ok x} {s = s} {g = g} {f = f} a h e =
    let next = h x a.grows.left in
    let first = a.grows.left in
    let last = next.grows.left in
    subst (λ z. Agrees k d t n (g x) (and_then z f)) (sym a.same) (record { same = next.same; grows = record { text = begins_then a.grows.text next.grows.text; left = omega arith } })
bind_two {k = k} {c = c} {d = d} {t = t} {n = n} {r = Err (Failed kind spot w)} {s = s} {g = g} {f = f} a h e =
    subst (λ z. Agrees k d t n (Err (Failed kind spot w)) (and_then z f)) (sym a.same) (record { same = refl; grows = record { text = a.grows.text; left = a.grows.left } })
bind_two {k = k} {c = c} {d = d} {t = t} {n = n} {r = Err (Spent spot w)} {s = s} {g = g} {f = f} a h e =
    record { same = passes_after k c d w s f e a.same; grows = record { text = a.grows.text; left = a.grows.left } }

pub bind : {A B : Type 0} {k : ℕ} {c : Carrier A} {d : Carrier B} {t : List ℕ} {n : ℕ} {r s : Result A Stop} {g : A → Result B Stop}
    → Agrees k c t n r s → ((x : A) → Agrees k d (c.text x) (c.left x) (g x) (g (c.move k x))) → Agrees k d t n (and_then r g) (and_then s g)
bind a h = bind_two a (λ x le. h x) (λ y. (h y).grows)

-- what is given, if it is, has this property
abbrev pub SuchBy : {A : Type 0} → (A → Type 0) → Result A Stop → Type 0
SuchBy Q (Ok x) = Q x
SuchBy Q (Err e) = Unit {0}

pub record Such {A : Type 0} (Q : A → Type 0) (r : Result A Stop) : Type 0 where
  pub fact : SuchBy Q r

such_by : {A B : Type 0} (Q : B → Type 0) (r : Result A Stop) (g : A → Result B Stop) → ((x : A) → Such Q (g x)) → SuchBy Q (and_then r g)
such_by Q (Ok x) g h = (h x).fact
such_by Q (Err e) g h = tt

pub such_bind : {A B : Type 0} {Q : B → Type 0} (r : Result A Stop) (g : A → Result B Stop) → ((x : A) → Such Q (g x)) → Such Q (and_then r g)
such_bind {Q = Q} r g h = record { fact = such_by Q r g h }

such_passes : {A B : Type 0} (k : ℕ) (c : Carrier A) (d : Carrier B) (Q : A → Type 0) (w : World) (s : Result A Stop) (g : A → Result B Stop) → SuchBy Q s → ((y : A) → Q y → Grows d (c.text y) (c.left y) (g y)) → Passes k c w s → Passes k d w (and_then s g)
such_passes k c d Q w (Ok y) g q h p = record { text = begins_then p.text (h y q).text; none = p.none; needs = needs_by k d (c.left y) (g y) (h y q).left p.needs }
such_passes k c d Q w (Err (Failed kind spot u)) g q h p = record { text = p.text; none = p.none; needs = p.needs }
such_passes k c d Q w (Err (Spent spot u)) g q h p = record { text = p.text; none = p.none; needs = tt }

such_two : {A B : Type 0} (k : ℕ) (c : Carrier A) (d : Carrier B) (t : List ℕ) (n : ℕ) (Q : A → Type 0) (r s : Result A Stop) (g : A → Result B Stop)
    → Agrees k c t n r s → SuchBy Q r → SuchBy Q s → ((x : A) → Q x → Agrees k d (c.text x) (c.left x) (g x) (g (c.move k x))) → Agrees k d t n (and_then r g) (and_then s g)
such_two k c d t n Q (Ok x) s g a q p h =
    let next = h x q in
    let first = a.grows.left in
    let last = next.grows.left in
    subst (λ z. Agrees k d t n (g x) (and_then z g)) (sym a.same) (record { same = next.same; grows = record { text = begins_then a.grows.text next.grows.text; left = omega arith } })
such_two k c d t n Q (Err (Failed kind spot w)) s g a q p h =
    subst (λ z. Agrees k d t n (Err (Failed kind spot w)) (and_then z g)) (sym a.same) (record { same = refl; grows = record { text = a.grows.text; left = a.grows.left } })
such_two k c d t n Q (Err (Spent spot w)) s g a q p h = record { same = such_passes k c d Q w s g p (λ y qy. (h y qy).grows) a.same; grows = record { text = a.grows.text; left = a.grows.left } }

-- the same, where what comes next asks for a property
pub bind_such : {A B : Type 0} {k : ℕ} {c : Carrier A} {d : Carrier B} {t : List ℕ} {n : ℕ} {Q : A → Type 0} {r s : Result A Stop} {g : A → Result B Stop}
    → Agrees k c t n r s → Such Q r → Such Q s → ((x : A) → Q x → Agrees k d (c.text x) (c.left x) (g x) (g (c.move k x))) → Agrees k d t n (and_then r g) (and_then s g)
bind_such {k = k} {c = c} {d = d} {t = t} {n = n} {Q = Q} {r = r} {s = s} {g = g} a q p h = such_two k c d t n Q r s g a q.fact p.fact h

-- ---- ends

pub gave : {A : Type 0} {k : ℕ} {c : Carrier A} (x : A) → Agrees k c (c.text x) (c.left x) (Ok x) (Ok (c.move k x))
gave {c = c} x = record { same = refl; grows = stays }

pub failed : {A : Type 0} {k : ℕ} {c : Carrier A} (kind : RunFault) (spot : Spot) (w : World) → Agrees k c w.printed w.left (Err (Failed kind spot w)) (Err (Failed kind spot (later k w)))
failed kind spot w = record { same = refl; grows = stops kind spot w }

-- ---- steps

abbrev pub worlds : Carrier World
worlds = record { move = later; text = λ w. w.printed; left = λ w. w.left }

pub step_grows : (n : ℕ) (spot : Spot) (w : World) → w.left ≡ n → Grows worlds w.printed w.left (step_from n spot w)
step_grows zero spot w e = record { text = begins_same w.printed; left = omega arith }
step_grows (suc n) spot w e = record { text = begins_same w.printed; left = omega arith }

step_needs : (k m : ℕ) (spot : Spot) (w : World) → m ≡ k → Needs k worlds (step_from m spot w)
step_needs k zero spot w e = tt
step_needs k (suc m) spot w e = omega arith

step_text : (m : ℕ) (spot : Spot) (w : World) → Begins w.printed (text_by worlds (step_from m spot w))
step_text zero spot w = begins_same w.printed
step_text (suc m) spot w = begins_same w.printed

step_two : (k n m : ℕ) (spot : Spot) (w : World) → w.left ≡ n → m ≡ n + k → Agrees k worlds w.printed (w.left - 1) (step_from n spot w) (step_from m spot (later k w))
step_two k zero m spot w i e =
    let all : m ≡ k = omega arith in
    record { same = record { text = step_text m spot (later k w); none = i; needs = step_needs k m spot (later k w) all }; grows = record { text = begins_same w.printed; left = omega arith } }
step_two k (suc n) zero spot w i e = absurd (omega arith)
step_two k (suc n) (suc m) spot w i e =
    let d : m ≡ n + k = omega arith in
    record { same = ap (λ x. Ok (record w { left = x })) d; grows = record { text = begins_same w.printed; left = omega arith } }

-- what a step leaves is fewer than before
pub steps_down : {k : ℕ} (spot : Spot) (w : World) → Agrees k worlds w.printed (w.left - 1) (step spot w) (step spot (later k w))
steps_down {k} spot w = step_two k w.left (w.left + k) spot w refl refl

pub stepped : {k : ℕ} (spot : Spot) (w : World) → Agrees k worlds w.printed w.left (step spot w) (step spot (later k w))
stepped spot w = let le : w.left - 1 ≤ w.left = omega arith in widen (w.left - 1) w.left le (steps_down spot w)

-- what begins with a step, where at most k are left, needs more than were left or takes one
pub needs_step : {B : Type 0} (d : Carrier B) (k n : ℕ) (spot : Spot) (w : World) (g : World → Result B Stop) → n ≤ k → ((y : World) → Grows d y.printed y.left (g y)) → Needs k d (and_then (step_from n spot w) g)
needs_step d k zero spot w g le h = tt
needs_step d k (suc n) spot w g le h = let less : n < k = omega arith in needs_by k d n (g (record w { left = n })) (h (record w { left = n })).left less

-- ---- choices

pub choice : {A : Type 0} {k : ℕ} {c : Carrier A} {t : List ℕ} {n : ℕ} {p q r s : Result A Stop} (b : Bool) → Agrees k c t n p q → Agrees k c t n r s → Agrees k c t n (if b then p else r) (if b then q else s)
choice true x y = x
choice false x y = y

abbrev pub Each : {A : Type 0} → (A → Type 0) → List A → Type 0
Each P [] = Unit {0}
Each P (x ∷ xs) = P x × Each P xs

abbrev pub Maybe : {A : Type 0} → (A → Type 0) → Option A → Type 0
Maybe P None = Unit {0}
Maybe P (Some x) = P x

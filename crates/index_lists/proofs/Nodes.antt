-- Lists of nodes: which nodes are left without one, and lists in which no node stands twice.
use Rattle.std.proofs.Common.{◌≡◌, ◌≢◌, ◌⊎◌, ℕ, zero, suc, ◌<◌, ◌≤◌, List, [], ◌∷◌, length, get_or, cond, not, eqb, refl, sym, ap, ◌∙◌, subst, inl, inr, arith, eq-eqb, ne_eqb}
use Rattle.std.specs.List.{Contains}
use Rattle.std.proofs.lemmas.Bool.{cases_eq}
use Rattle.std.proofs.lemmas.List.Elements.{Contains-get_or}
use Rattle.std.proofs.lemmas.List.Kept.{AllPairs-cons, AllPairs-filter}
use Rattle.index_lists.specs.Lists.{without, IsOnce}

-- no node is in an empty list
pub Contains-nil : (node : ℕ) → Contains [] node → ⊥
Contains-nil node found = omega (arith, found.1)

pub Contains-first : (first : ℕ) (rest : List ℕ) → Contains (first ∷ rest) first
Contains-first first rest = (0, omega arith, refl)

pub Contains-rest : (first : ℕ) (rest : List ℕ) (node : ℕ) → Contains rest node → Contains (first ∷ rest) node
Contains-rest first rest node found = (suc found.0, omega (arith, found.1), found.2)

cons_at : (first : ℕ) (rest : List ℕ) (node k : ℕ) → k < length (first ∷ rest) → get_or (first ∷ rest) k node ≡ node → (first ≡ node) ⊎ Contains rest node
cons_at first rest node zero within read = inl read
cons_at first rest node (suc k) within read = inr (k, omega (arith, within), read)

pub Contains-cons_cases : (first : ℕ) (rest : List ℕ) (node : ℕ) → Contains (first ∷ rest) node → (first ≡ node) ⊎ Contains rest node
Contains-cons_cases first rest node found = cons_at first rest node found.0 found.1 found.2

-- a list that begins with the node
pub without-same : (node : ℕ) (rest : List ℕ) → without node (node ∷ rest) ≡ without node rest
without-same node rest =
    ap (λ same. cond (not same) (node ∷ without node rest) (without node rest)) (eq-eqb node node refl)

-- a list that begins with another node
pub without-other : (node other : ℕ) (rest : List ℕ) → other ≢ node → without node (other ∷ rest) ≡ other ∷ without node rest
without-other node other rest differs =
    ap (λ same. cond (not same) (other ∷ without node rest) (without node rest)) (ne_eqb other node differs)

-- a list that the node is not in
pub without-absent : (node : ℕ) (nodes : List ℕ) → (Contains nodes node → ⊥) → without node nodes ≡ nodes
without-absent node [] absent = refl
without-absent node (first ∷ rest) absent =
    without-other node first rest (λ same. absent (subst (λ n. Contains (first ∷ rest) n) same (Contains-first first rest)))
    ∙ ap (λ nodes. first ∷ nodes) (without-absent node rest (λ found. absent (Contains-rest first rest node found)))

-- what is left was there, and is not the node
pub Contains-from_without : (node : ℕ) (nodes : List ℕ) (other : ℕ) → Contains (without node nodes) other → Contains nodes other × (other ≢ node)
Contains-from_without node [] other found = absurd (Contains-nil other found)
Contains-from_without node (first ∷ rest) other found =
    elim (cases_eq first node) [
      | inl same ↦
          let kept = Contains-from_without node rest other (subst (λ nodes. Contains nodes other) (ap (λ n. without node (n ∷ rest)) same ∙ without-same node rest) found) in
          (Contains-rest first rest other kept.0, kept.1)
      | inr differs ↦
          elim (Contains-cons_cases first (without node rest) other (subst (λ nodes. Contains nodes other) (without-other node first rest differs) found)) [
            | inl here ↦ (subst (λ n. Contains (first ∷ rest) n) here (Contains-first first rest), λ same. differs (here ∙ same))
            | inr later ↦
                let kept = Contains-from_without node rest other later in
                (Contains-rest first rest other kept.0, kept.1)
          ]
    ]

-- every other node is left
pub Contains-without : (node : ℕ) (nodes : List ℕ) (other : ℕ) → Contains nodes other → other ≢ node → Contains (without node nodes) other
Contains-without node [] other found differs = absurd (Contains-nil other found)
Contains-without node (first ∷ rest) other found differs =
    elim (cases_eq first node) [
      | inl same ↦
          subst (λ nodes. Contains nodes other) (sym (ap (λ n. without node (n ∷ rest)) same ∙ without-same node rest))
          (Contains-without node rest other
          (elim (Contains-cons_cases first rest other found) as (λ _. Contains rest other) [
            | inl here ↦ absurd (differs (sym here ∙ same))
            | inr later ↦ later
          ]) differs)
      | inr apart ↦
          subst (λ nodes. Contains nodes other) (sym (without-other node first rest apart))
          (elim (Contains-cons_cases first rest other found) as (λ _. Contains (first ∷ without node rest) other) [
            | inl here ↦ subst (λ n. Contains (first ∷ without node rest) n) here (Contains-first first (without node rest))
            | inr later ↦ Contains-rest first (without node rest) other (Contains-without node rest other later differs)
          ])
    ]

pub IsOnce-first : (first : ℕ) (rest : List ℕ) → IsOnce (first ∷ rest) → Contains rest first → ⊥
IsOnce-first first rest once found = once 0 (suc found.0) first (omega arith) (omega (arith, found.1)) (sym found.2)

pub IsOnce-rest : (first : ℕ) (rest : List ℕ) → IsOnce (first ∷ rest) → IsOnce rest
IsOnce-rest first rest once i j d below within = once (suc i) (suc j) d (omega arith) (omega (arith, within))

pub IsOnce-cons : (first : ℕ) (rest : List ℕ) → (Contains rest first → ⊥) → IsOnce rest → IsOnce (first ∷ rest)
IsOnce-cons first rest absent once =
    AllPairs-cons (λ node later. node ≢ later) first rest
    (λ k d within same. absent (subst (λ n. Contains rest n) (sym same) (Contains-get_or rest k d within))) once

pub IsOnce-without : (node : ℕ) (nodes : List ℕ) → IsOnce nodes → IsOnce (without node nodes)
IsOnce-without node nodes once = AllPairs-filter (λ n later. n ≢ later) (λ other. not (eqb other node)) nodes once

-- at most one node goes
length-le-without : (node : ℕ) (nodes : List ℕ) → IsOnce nodes → length nodes ≤ suc (length (without node nodes))
length-le-without node [] once = omega arith
length-le-without node (first ∷ rest) once =
    elim (cases_eq first node) [
      | inl same ↦
          let left : without node (first ∷ rest) ≡ rest =
          ap (λ n. without node (n ∷ rest)) same ∙ without-same node rest
          ∙ without-absent node rest (λ found. IsOnce-first first rest once (subst (λ n. Contains rest n) (sym same) found)) in
          omega (arith, ap length left)
      | inr differs ↦
          omega (arith, ap length (without-other node first rest differs), length-le-without node rest (IsOnce-rest first rest once))
    ]

-- there are no more different nodes below a number than that number
pub length-once_le : (limit : ℕ) (nodes : List ℕ) → IsOnce nodes → ((node : ℕ) → Contains nodes node → node < limit) → length nodes ≤ limit
length-once_le zero [] once below = omega arith
length-once_le zero (first ∷ rest) once below = absurd (omega (arith, below first (Contains-first first rest)))
length-once_le (suc limit) nodes once below =
    let fewer = length-once_le limit (without limit nodes) (IsOnce-without limit nodes once)
    (λ node found.
    let kept = Contains-from_without limit nodes node found in
    let bound = below node kept.0 in
    let differs : node ≢ limit = kept.1 in
    omega (arith, bound)) in
    omega (arith, fewer, length-le-without limit nodes once)

-- A node that needs itself has no fact, and parts without facts lead from it back to it.
use Rattle.std.proofs.Common.{inr}
use Rattle.facts.specs.Facts.{Rules, IsUnresolved, IsPart, LeadsTo}
use Rattle.facts.proofs.Derivations.{resolved_apart}
use Rattle.facts.specs.Needs.{Needs, one, more}

module _ {N : Type 0} {F : N → Type 0} {K : Type 0} (rules : Rules F K) where
  needs_joins : (a b c : N) → Needs rules a b → Needs rules b c → Needs rules a c
  needs_joins a b c (one x) k = more x k
  needs_joins a b c (more {b = d} x h) k = more x (needs_joins d b c h k)

  pub unresolved_round : (a : N) → Needs rules a a → IsUnresolved rules a
  unresolved_round a h f w = resolved_apart rules a (f, w) h

  leads_before : (a b c : N) → IsPart rules a b → IsUnresolved rules b → LeadsTo rules b c → LeadsTo rules a c
  leads_before a b c p u (LeadsTo.first q v) = LeadsTo.further (LeadsTo.first p u) q v
  leads_before a b c p u (LeadsTo.further {b = d} l q v) = LeadsTo.further (leads_before a b d p u l) q v

  leads_needs : (a b : N) → Needs rules a b → Needs rules b a → LeadsTo rules a b
  leads_needs a b (one x) back = LeadsTo.first (inr x) (unresolved_round b (needs_joins b a b back (one x)))
  leads_needs a b (more {b = d} x h) back =
      let round : Needs rules b d = needs_joins b a d back (one x) in
      leads_before a d b (inr x) (unresolved_round d (needs_joins d b d h round)) (leads_needs d b h round)

  pub needs_itself : (n : N) → Needs rules n n → LeadsTo rules n n
  needs_itself n h = leads_needs n n h h

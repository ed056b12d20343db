-- Statements in two worlds that differ in the steps that are left.
use Rattle.std.proofs.Common.{◌≡◌, ◌≤◌, ◌+◌, ◌-◌, ◌++◌, refl, subst, length, ℕ, zero, suc, List, [], ◌∷◌, Option, Some, None, Result, Ok, Err, Bool, true, false, arith}
use Rattle.folder_meaning.specs.declared.script_type.ScriptType.{ScriptType}
use Rattle.gd_syntax.specs.declared.fault.Place.{Place}
use Rattle.gd_syntax.specs.declared.tree.statement.AssignOp.{AssignOp}
use Rattle.gd_syntax.specs.declared.tree.statement.AssignOp.TheVariants as assign
use Rattle.gd_syntax.specs.declared.tree.type_name.Identifier.{Identifier}
use Rattle.variant_values.specs.declared.classes.ClassTag.{ClassTag}
use Rattle.variant_values.specs.declared.faults.RunFault.{RunFault}
use Rattle.variant_values.specs.declared.faults.RunFault.TheVariants.{NullAccess, FreedAccess, NoMember, BadType, AssertFailed}
use Rattle.variant_values.specs.declared.values.Value.{Value}
use Rattle.variant_values.specs.declared.values.Value.TheVariants.{Null, Dict, Object}
use Rattle.variant_values.specs.Changes.{Done}
use Rattle.script_meaning.specs.State.{Local, World, Spot, Stop, Failed, and_then}
use Rattle.script_meaning.specs.Projects.{Project, Meant, member_meant}
use Rattle.script_meaning.specs.Types.{fits_at_run, default_of}
use Rattle.script_meaning.specs.Meanings.{Around, Here, Site, site_of, heap_at, Moment, Given-to, Means, Target, ToName, ToMember, ToIndex, Walk, fails}
use Rattle.script_meaning.specs.Members.{class_in, local_of}
use Rattle.script_meaning.specs.Exprs.{truth_of}
use Rattle.script_meaning.specs.Statements
use Rattle.script_meaning.specs.Statements.{Now, Flow, Next, Broke, Continued, Returned, Flowing, Runs, BranchRuns, MatchRuns, Picked, Stored}
use Rattle.script_meaning.specs.Patterns.{Matched}
use Rattle.script_laws.proofs.TwiceForm.{Carrier, Agrees, Grows, Needs, bind, bind_two, grows_bind, Such, such_bind, bind_such, gave, failed, stays, stops, widen, later, worlds, stepped, steps_down, step_grows, needs_step, begins_same, Each, Maybe}
use Rattle.script_laws.proofs.TwiceCalls.{Called, endings}
use Rattle.script_laws.proofs.TwiceMembers.{Twice, moved, given, twice_by, twice_then, twice_name, twice_member_of}
use Rattle.script_laws.proofs.TwiceExprs.{AllTwice, twice_applied}
use Rattle.script_laws.proofs.TwicePatterns.{MatchesTwice, twice_any}

abbrev pub moved_now : ℕ → Now → Now
moved_now k s = record s { world = later k s.world }

abbrev pub nows : Carrier Now
nows = record { move = moved_now; text = λ s. s.world.printed; left = λ s. s.world.left }

abbrev pub moved_flow : ℕ → Flow → Flow
moved_flow k (Next s) = Next (moved_now k s)
moved_flow k (Broke s) = Broke (moved_now k s)
moved_flow k (Continued s) = Continued (moved_now k s)
moved_flow k (Returned v s) = Returned v (moved_now k s)

abbrev pub now_of : Flow → Now
now_of (Next s) = s
now_of (Broke s) = s
now_of (Continued s) = s
now_of (Returned v s) = s

abbrev pub flows : Carrier Flow
flows = record { move = moved_flow; text = λ f. (now_of f).world.printed; left = λ f. (now_of f).world.left }

pub record RunsTwice (k : ℕ) (t : Runs) : Type 0 where
  pub at : (a : Around) → Called k a.call → (s : Now) → Agrees k flows s.world.printed s.world.left (t a s) (t a (moved_now k s))

pub record StoresTwice (k : ℕ) (f : Here → Moment → Stored) : Type 0 where
  pub at : (h : Here) → Called k h.around.call → (m : Moment) → Agrees k endings m.world.printed m.world.left (f h m) (f h (moved k m))

-- a change of the heap that is the same with k steps more
pub record PutsTwice (k : ℕ) (f : Site → Moment → Result World Stop) : Type 0 where
  pub at : (s : Site) → Called k s.call → (m : Moment) → Agrees k worlds m.world.printed m.world.left (f s m) (f s (moved k m))

-- a test that passes in both worlds, or fails in both
pub data Guards (k : ℕ) (w : World) : Result (Unit {0}) Stop → Result (Unit {0}) Stop → Type 0 where
  passes : Guards k w (Ok tt) (Ok tt)
  stopped : (kind : RunFault) (spot : Spot) → Guards k w (Err (Failed kind spot w)) (Err (Failed kind spot (later k w)))

pub guard : {A : Type 0} {k : ℕ} {w : World} {c : Carrier A} {p q : Result (Unit {0}) Stop} {r s : Result A Stop} → Guards k w p q → Agrees k c w.printed w.left r s → Agrees k c w.printed w.left (and_then p (λ x. r)) (and_then q (λ x. s))
guard passes a = a
guard {w = w} (stopped kind spot) a = failed kind spot w

module _ (k : ℕ) where
  -- ---- values that are received

  guards_admits : (b : Bool) (spot : Spot) (w : World) → Guards k w (Statements.admits b spot w) (Statements.admits b spot (later k w))
  guards_admits true spot w = passes
  guards_admits false spot w = stopped BadType spot

  pub guards_received : (P : Project) (fits : Bool) (type : ScriptType) (v : Value) (spot : Spot) (w : World) → Guards k w (Statements.received_by P fits type v spot w) (Statements.received_by P fits type v spot (later k w))
  guards_received P true type v spot w = passes
  guards_received P false type v spot w = guards_admits (fits_at_run w.cells type v) spot w

  -- ---- blocks

  pub twice_close : (a : Around) (n : ℕ) (f : Flow) → Agrees k flows (now_of f).world.printed (now_of f).world.left (Ok (Statements.close a n f)) (Ok (Statements.close a n (moved_flow k f)))
  twice_close a n (Next s) = gave {c = flows} _
  twice_close a n (Broke s) = gave {c = flows} _
  twice_close a n (Continued s) = gave {c = flows} _
  twice_close a n (Returned v s) = gave {c = flows} _

  twice_go : (go : Now → Flowing) → ((s : Now) → Agrees k flows s.world.printed s.world.left (go s) (go (moved_now k s))) → (f : Flow) → Agrees k flows (now_of f).world.printed (now_of f).world.left (Statements.and_go go f) (Statements.and_go go (moved_flow k f))
  twice_go go u (Next s) = u s
  twice_go go u (Broke s) = gave {c = flows} _
  twice_go go u (Continued s) = gave {c = flows} _
  twice_go go u (Returned v s) = gave {c = flows} _

  pub twice_sequence : (ts : List Runs) → Each (RunsTwice k) ts → RunsTwice k (Statements.sequence ts)
  twice_sequence [] us = record { at = λ a c s. gave {c = flows} _ }
  twice_sequence (t ∷ ts) us = record { at = λ a c s. bind (us.0.at a c s) (λ f. twice_go _ (λ now. (twice_sequence ts us.1).at a c now) f) }

  twice_block_with : (new : List Local) (ts : List Runs) → Each (RunsTwice k) ts → RunsTwice k (Statements.block_with new ts)
  twice_block_with new ts us = record { at = λ a c s. bind ((twice_sequence ts us).at a c (record s { locals = s.locals ++ new })) (λ f. twice_close a (length s.locals) f) }

  twice_block : (ts : List Runs) → Each (RunsTwice k) ts → RunsTwice k (Statements.block ts)
  twice_block ts us = record { at = λ a c s. (twice_block_with [] ts us).at a c s }

  -- ---- loops

  -- a turn went on with at most b steps left
  twice_next : (b : ℕ) (more less : Now → Flowing) → ((s : Now) → s.world.left ≤ b → Agrees k flows s.world.printed s.world.left (less s) (more (moved_now k s))) → (f : Flow) → (now_of f).world.left ≤ b
      → Agrees k flows (now_of f).world.printed (now_of f).world.left (Statements.next_turn less f) (Statements.next_turn more (moved_flow k f))
  twice_next b more less u (Next s) le = u s le
  twice_next b more less u (Continued s) le = u s le
  twice_next b more less u (Broke s) le = gave {c = flows} _
  twice_next b more less u (Returned v s) le = gave {c = flows} _

  next_grows : (more : Now → Flowing) → ((s : Now) → Grows flows s.world.printed s.world.left (more s)) → (f : Flow) → Grows flows (now_of f).world.printed (now_of f).world.left (Statements.next_turn more f)
  next_grows more u (Next s) = u s
  next_grows more u (Continued s) = u s
  next_grows more u (Broke s) = stays
  next_grows more u (Returned v s) = stays

  turn_grows : (turn : Value → Walk → Now → Flowing) (s : Now) → ((v : Value) (rest : Walk) → Grows flows s.world.printed s.world.left (turn v rest s)) → (o : Option (Value × Walk)) → Grows flows s.world.printed s.world.left (Statements.turn_by turn o s)
  turn_grows turn s u None = stays
  turn_grows turn s u (Some (v, rest)) = u v rest

  twice_turn : (less more : Value → Walk → Now → Flowing) (s : Now) → ((v : Value) (rest : Walk) → Agrees k flows s.world.printed s.world.left (less v rest s) (more v rest (moved_now k s))) → (o : Option (Value × Walk))
      → Agrees k flows s.world.printed s.world.left (Statements.turn_by less o s) (Statements.turn_by more o (moved_now k s))
  twice_turn less more s u None = gave {c = flows} _
  twice_turn less more s u (Some (v, rest)) = u v rest

  choose_grows : (b : Bool) (x y : Now → Flowing) (s : Now) → Grows flows s.world.printed s.world.left (x s) → Grows flows s.world.printed s.world.left (y s) → Grows flows s.world.printed s.world.left (Statements.choose b x y s)
  choose_grows true x y s u v = u
  choose_grows false x y s u v = v

  twice_choose : (b : Bool) (x y : Now → Flowing) (p q : Now → Flowing) (s : Now) → Agrees k flows s.world.printed s.world.left (x s) (p (moved_now k s)) → Agrees k flows s.world.printed s.world.left (y s) (q (moved_now k s))
      → Agrees k flows s.world.printed s.world.left (Statements.choose b x y s) (Statements.choose b p q (moved_now k s))
  twice_choose true x y p q s u v = u
  twice_choose false x y p q s u v = v

  -- locals that are opened in both worlds, or refused in both
  pub data Opens (w : World) : Result (List Local) Stop → Result (List Local) Stop → Type 0 where
    opened : (new : List Local) → Opens w (Ok new) (Ok new)
    refused : (kind : RunFault) (spot : Spot) → Opens w (Err (Failed kind spot w)) (Err (Failed kind spot (later k w)))

  opens_if : {w : World} {p q : Result (Unit {0}) Stop} (new : List Local) → Guards k w p q → Opens w (and_then p (λ x. Ok new)) (and_then q (λ x. Ok new))
  opens_if new passes = opened new
  opens_if new (stopped kind spot) = refused kind spot

  module _ (a : Around) (c : Called k a.call) (spot : Spot) (body : List Runs) (us : Each (RunsTwice k) body) where
    block_grows : (new : List Local) (s : Now) → Grows flows s.world.printed s.world.left (Statements.block_with new body a s)
    block_grows new s = ((twice_block_with new body us).at a c s).grows

    module _ (opening : Value → World → Result (List Local) Stop) (opens_twice : (v : Value) (w : World) → Opens w (opening v w) (opening v (later k w))) where
      turn_grows_by : (o p : Result (List Local) Stop) (more : Now → Flowing) (now : Now) → Opens now.world o p → ((s : Now) → Grows flows s.world.printed s.world.left (more s)) → Grows flows now.world.printed now.world.left (Statements.turn_of a o body more now)
      turn_grows_by o p more now (opened new) u = grows_bind (block_grows new now) (λ f. next_grows more u f)
      turn_grows_by o p more now (refused kind spot) u = stops kind spot now.world

      twice_turn_by : (o p : Result (List Local) Stop) (less more : Now → Flowing) (now : Now) → Opens now.world o p → ((s : Now) → s.world.left ≤ now.world.left → Agrees k flows s.world.printed s.world.left (less s) (more (moved_now k s)))
          → ((s : Now) → Grows flows s.world.printed s.world.left (more s)) → Agrees k flows now.world.printed now.world.left (Statements.turn_of a o body less now) (Statements.turn_of a p body more (moved_now k now))
      twice_turn_by o p less more now (opened new) u v = bind_two ((twice_block_with new body us).at a c now) (λ f le. twice_next now.world.left more less u f le) (λ f. next_grows more v f)
      twice_turn_by o p less more now (refused kind spot) u v = failed kind spot now.world

      walked_grows : (n : ℕ) (walk : Walk) (s : Now) → Grows flows s.world.printed s.world.left (Statements.walked a spot opening body n walk s)
      walked_grows zero walk s = record { text = begins_same s.world.printed; left = omega arith }
      walked_grows (suc n) walk s = grows_bind (step_grows s.world.left spot s.world refl) (λ w. turn_grows _ (record s { world = w }) (λ v rest. turn_grows_by _ _ _ (record s { world = w }) (opens_twice v w) (λ now. walked_grows n rest now)) (Statements.next_of w.cells walk))

      walked_needs : (n : ℕ) (walk : Walk) (s : Now) → s.world.left ≤ k → Needs k flows (Statements.walked a spot opening body n walk s)
      walked_needs zero walk s le = tt
      walked_needs (suc n) walk s le = needs_step flows k s.world.left spot s.world _ le (λ w. turn_grows _ (record s { world = w }) (λ v rest. turn_grows_by _ _ _ (record s { world = w }) (opens_twice v w) (λ now. walked_grows n rest now)) (Statements.next_of w.cells walk))

      -- with a larger bound the turns are the same
      pub twice_walked : (n m : ℕ) → n ≤ m → (walk : Walk) (s : Now) → s.world.left ≤ n
          → Agrees k flows s.world.printed s.world.left (Statements.walked a spot opening body n walk s) (Statements.walked a spot opening body m walk (moved_now k s))
      twice_walked zero m le walk s few =
          let none : s.world.left ≡ 0 = omega arith in
          let most : s.world.left + k ≤ k = omega arith in
          record { same = record { text = (walked_grows m walk (moved_now k s)).text; none = none; needs = walked_needs m walk (moved_now k s) most }; grows = record { text = begins_same s.world.printed; left = omega arith } }
      twice_walked (suc n) zero le walk s few = absurd (omega arith)
      twice_walked (suc n) (suc m) le walk s few =
          let less : n ≤ m = omega arith in
          let down : s.world.left - 1 ≤ s.world.left = omega arith in
          widen (s.world.left - 1) s.world.left down (bind_two (steps_down spot s.world)
          (λ w fewer. twice_turn _ _ (record s { world = w }) (λ v rest. twice_turn_by _ _ _ _ (record s { world = w }) (opens_twice v w)
          (λ now last. let bound : now.world.left ≤ n = omega arith in twice_walked n m less rest now bound) (λ now. walked_grows m rest now)) (Statements.next_of w.cells walk))
          (λ w. turn_grows _ (record s { world = w }) (λ v rest. turn_grows_by _ _ _ (record s { world = w }) (opens_twice v w) (λ now. walked_grows m rest now)) (Statements.next_of w.cells walk)))

    module _ (P : Project) (line : ℕ) (e : Means) (u : AllTwice k e) where
      tested_grows : (w : World) (s : Now) (go : Bool → Now → Flowing) → ((b : Bool) (now : Now) → Grows flows now.world.printed now.world.left (go b now)) → Grows flows w.printed w.left (Statements.tested P a line e w s go)
      tested_grows w s go h = grows_bind {c = given} (u.value.at (Statements.unit_at P a line s) c (record { held = []; world = w })).grows (λ x. h _ _)

      twice_tested : (w : World) (s : Now) (go more : Bool → Now → Flowing) → ((b : Bool) (now : Now) → now.world.left ≤ w.left → Agrees k flows now.world.printed now.world.left (go b now) (more b (moved_now k now)))
          → ((b : Bool) (now : Now) → Grows flows now.world.printed now.world.left (more b now)) → Agrees k flows w.printed w.left (Statements.tested P a line e w s go) (Statements.tested P a line e (later k w) (moved_now k s) more)
      twice_tested w s go more h g = bind_two (u.value.at (Statements.unit_at P a line s) c (record { held = []; world = w })) (λ x le. h _ (Statements.settled a.outer a s.locals x.1.world) le) (λ x. g _ _)

      abbrev goes_on : ℕ → Now → Flowing
      goes_on n at = and_then (Statements.block body a at) (Statements.next_turn (Statements.turns a spot (Statements.tested P a line e) body n))

      abbrev goes_out : Now → Flowing
      goes_out at = Ok (Next at)

      turns_grows : (n : ℕ) (s : Now) → Grows flows s.world.printed s.world.left (Statements.turns a spot (Statements.tested P a line e) body n s)
      turns_grows zero s = record { text = begins_same s.world.printed; left = omega arith }
      turns_grows (suc n) s = grows_bind (step_grows s.world.left spot s.world refl) (λ w. tested_grows w s _ (λ b now. choose_grows b (goes_on n) goes_out now (grows_bind (block_grows [] now) (λ f. next_grows _ (λ at. turns_grows n at) f)) stays))

      turns_needs : (n : ℕ) (s : Now) → s.world.left ≤ k → Needs k flows (Statements.turns a spot (Statements.tested P a line e) body n s)
      turns_needs zero s le = tt
      turns_needs (suc n) s le = needs_step flows k s.world.left spot s.world _ le (λ w. tested_grows w s _ (λ b now. choose_grows b (goes_on n) goes_out now (grows_bind (block_grows [] now) (λ f. next_grows _ (λ at. turns_grows n at) f)) stays))

      pub twice_turns : (n m : ℕ) → n ≤ m → (s : Now) → s.world.left ≤ n
          → Agrees k flows s.world.printed s.world.left (Statements.turns a spot (Statements.tested P a line e) body n s) (Statements.turns a spot (Statements.tested P a line e) body m (moved_now k s))
      twice_turns zero m le s few =
          let none : s.world.left ≡ 0 = omega arith in
          let most : s.world.left + k ≤ k = omega arith in
          record { same = record { text = (turns_grows m (moved_now k s)).text; none = none; needs = turns_needs m (moved_now k s) most }; grows = record { text = begins_same s.world.printed; left = omega arith } }
      twice_turns (suc n) zero le s few = absurd (omega arith)
      twice_turns (suc n) (suc m) le s few =
          let less : n ≤ m = omega arith in
          let down : s.world.left - 1 ≤ s.world.left = omega arith in
          widen (s.world.left - 1) s.world.left down (bind_two (steps_down spot s.world)
          (λ w fewer. twice_tested w s _ _ (λ b now last. twice_choose b (goes_on n) goes_out (goes_on m) goes_out now
          (bind_two ((twice_block body us).at a c now) (λ f le. twice_next now.world.left _ _ (λ at after. let bound : at.world.left ≤ n = omega arith in twice_turns n m less at bound) f le) (λ f. next_grows _ (λ at. turns_grows m at) f)) (gave {c = flows} _))
          (λ b now. choose_grows b (goes_on m) goes_out now (grows_bind (block_grows [] now) (λ f. next_grows _ (λ at. turns_grows m at) f)) stays))
          (λ w. tested_grows w s _ (λ b now. choose_grows b (goes_on m) goes_out now (grows_bind (block_grows [] now) (λ f. next_grows _ (λ at. turns_grows m at) f)) stays)))

  -- ---- parts of statements

  twice_stored : (o : Done) → PutsTwice k (Statements.stored o)
  twice_stored (Ok (x, heap)) = record { at = λ s c m. gave {c = worlds} _ }
  twice_stored (Err kind) = record { at = λ s c m. failed kind s.spot m.world }

  with_locals_is : (ls : List Local) (r : Result World Stop) → and_then r (λ w. Ok (ls, w)) ≡ Statements.with_locals ls r
  with_locals_is ls (Ok w) = refl
  with_locals_is ls (Err stop) = refl

  twice_locals : {t : List ℕ} {n : ℕ} (ls : List Local) (r s : Result World Stop) → Agrees k worlds t n r s → Agrees k endings t n (Statements.with_locals ls r) (Statements.with_locals ls s)
  twice_locals {t} {n} ls r s a =
      subst (λ z. Agrees k endings t n z (Statements.with_locals ls s)) (with_locals_is ls r)
      (subst (λ z. Agrees k endings t n (and_then r (λ w. Ok (ls, w))) z) (with_locals_is ls s) (bind a (λ w. gave {c = endings} (ls, w))))

  twice_or_null : (e : Option Means) → Maybe (AllTwice k) e → Twice k (Statements.value_or_null e)
  twice_or_null (Some e) u = u.value
  twice_or_null None u = record { at = λ h c m. gave _ }

  twice_asserted_by : (b : Bool) (h : Here) (m : Moment)
      → Agrees k given m.world.printed m.world.left (elim b as (λ x. Result (Value × Moment) Stop) [ true ↦ Ok (Null, m) | false ↦ fails AssertFailed (site_of h) m ]) (elim b as (λ x. Result (Value × Moment) Stop) [ true ↦ Ok (Null, moved k m) | false ↦ fails AssertFailed (site_of h) (moved k m) ])
  twice_asserted_by true h m = gave _
  twice_asserted_by false h m = failed AssertFailed h.spot m.world

  twice_asserted : (e : Means) (message : Option Means) → AllTwice k e → Maybe (AllTwice k) message → Twice k (Statements.asserted e message)
  twice_asserted e message u v = record { at = λ h c m. bind (u.value.at h c m) (λ x. bind ((twice_or_null message v).at h c x.1) (λ y. twice_asserted_by (truth_of x.0 y.1) h y.1)) }

  twice_otherwise : (o : Option (List Runs)) → Maybe (Each (RunsTwice k)) o → RunsTwice k (Statements.otherwise o)
  twice_otherwise None us = record { at = λ a c s. gave {c = flows} _ }
  twice_otherwise (Some body) us = twice_block body us

  -- ---- matches

  abbrev pub BranchTwice : MatchRuns → Type 0
  BranchTwice b = Each (MatchesTwice k) b.patterns × Each (RunsTwice k) b.body

  abbrev PickedTwice : Picked × Moment → Type 0
  PickedTwice x = Maybe (λ p. Each (RunsTwice k) p.1) x.0

  such_pick : (o : Matched) (body : List Runs) (rest : Given-to Picked) (h : Here) (m : Moment) → Each (RunsTwice k) body → Such PickedTwice (rest h m) → Such PickedTwice (Statements.pick_by o body rest h m)
  such_pick (Some ls) body rest h m u v = record { fact = u }
  such_pick None body rest h m u v = v

  such_picked : (all : List MatchRuns) → Each BranchTwice all → (v : Value) (h : Here) (m : Moment) → Such PickedTwice (Statements.picked all v h m)
  such_picked [] us v h m = record { fact = tt }
  such_picked (b ∷ bs) us v h m = such_bind {A = Matched × Moment} _ _ (λ x. such_pick x.0 b.body (Statements.picked bs v) h x.1 us.0.1 (such_picked bs us.1 v h x.1))

  twice_pick : (o : Matched) (body : List Runs) (rest : Given-to Picked) → Twice k rest → Twice k (Statements.pick_by o body rest)
  twice_pick (Some ls) body rest u = record { at = λ h c m. gave _ }
  twice_pick None body rest u = record { at = λ h c m. u.at h c m }

  twice_picked : (all : List MatchRuns) → Each BranchTwice all → (v : Value) → Twice k (Statements.picked all v)
  twice_picked [] us v = record { at = λ h c m. gave _ }
  twice_picked (b ∷ bs) us v = record { at = λ h c m. bind ((twice_any k b.patterns us.0.0 v).at h c m) (λ x. (twice_pick x.0 b.body _ (twice_picked bs us.1 v)).at h c x.1) }

  twice_run_picked : (o : Picked) → Maybe (λ p. Each (RunsTwice k) p.1) o → (a : Around) → Called k a.call → (locals : List Local) (w : World) → Agrees k flows w.printed w.left (Statements.run_picked o a locals w) (Statements.run_picked o a locals (later k w))
  twice_run_picked None u a c locals w = gave {c = flows} _
  twice_run_picked (Some (ls, body)) u a c locals w = bind ((twice_sequence body u).at a c (Statements.settled a.outer a (locals ++ ls) w)) (λ f. twice_close a (length locals) f)

  module _ (P : Project) where
    -- ---- values that are received

    pub twice_received : (type : ScriptType) (e : Means) → AllTwice k e → Twice k (Statements.received_value P type e)
    twice_received type e u = record { at = λ h c m. bind (u.value.at h c m) (λ x. guard (guards_received P _ type x.0 h.spot x.1.world) (gave x)) }

    twice_declared : (type : ScriptType) (e : Option Means) → Maybe (AllTwice k) e → Twice k (Statements.declared_value P type e)
    twice_declared type (Some e) u = twice_received type e u
    twice_declared type None u = record { at = λ h c m. (twice_then k (default_of type (heap_at (site_of h) m))).at (site_of h) c m }

    twice_result : (type : ScriptType) (e : Option Means) → Maybe (AllTwice k) e → Twice k (Statements.returned_value P type e)
    twice_result type (Some e) u = twice_received type e u
    twice_result type None u = record { at = λ h c m. gave _ }

    twice_turn_opens : (a : Around) (spot : Spot) (name : List ℕ) (type : ScriptType) (subject : Place) (v : Value) (w : World)
        → Opens w (Statements.turn_opens P a spot name type subject v w) (Statements.turn_opens P a spot name type subject v (later k w))
    twice_turn_opens a spot name type subject v w = opens_if _ (guards_received P _ type v spot w)

    -- ---- assignments

    pub twice_put_field : (of : Value) (i : Option (ℕ × ScriptType)) (fits : Bool) (v : Value) → PutsTwice k (Statements.put_field P of i fits v)
    twice_put_field (Object s) (Some (i, type)) fits v = record { at = λ at c m. guard (guards_received P fits type v at.spot m.world) ((twice_stored _).at at c m) }
    twice_put_field of place fits v = record { at = λ at c m. failed NoMember at.spot m.world }

    twice_put_in_object : (o : Option ClassTag) (of : Value) (name : List ℕ) (fits : Bool) (v : Value) → PutsTwice k (Statements.put_in_object P o of name fits v)
    twice_put_in_object None of name fits v = record { at = λ at c m. failed FreedAccess at.spot m.world }
    twice_put_in_object (Some class) of name fits v = twice_put_field of (Statements.field_meant (P.fields class) (member_meant P class name)) fits v

    twice_put_member : (of : Value) (name : List ℕ) (fits : Bool) (v : Value) → PutsTwice k (Statements.put_member P of name fits v)
    twice_put_member Null name fits v = record { at = λ at c m. failed NullAccess at.spot m.world }
    twice_put_member (Dict s) name fits v = record { at = λ at c m. (twice_stored _).at at c m }
    twice_put_member (Object s) name fits v = record { at = λ at c m. (twice_put_in_object (class_in m (Object s)) (Object s) name fits v).at at c m }
    twice_put_member of name fits v = record { at = λ at c m. failed NoMember at.spot m.world }

    twice_put_index : (of index v : Value) → PutsTwice k (Statements.put_index P of index v)
    twice_put_index of index v = record { at = λ at c m. (twice_stored _).at at c m }

    twice_put_own : (meant : Option Meant) (fits : Bool) (v : Value) → PutsTwice k (Statements.put_own P meant fits v)
    twice_put_own meant fits v = record { at = λ at c m. (twice_put_field at.self (Statements.field_meant (P.fields at.class) meant) fits v).at at c m }

    twice_put_name : (o : Option Local) (name : List ℕ) (fits : Bool) (v : Value) → StoresTwice k (Statements.put_name P o name fits v)
    twice_put_name (Some l) name fits v = record { at = λ h c m. guard (guards_received P fits l.type v h.spot m.world) (gave {c = endings} (Statements.set_local h.locals name v, m.world)) }
    twice_put_name None name fits v = record { at = λ h c m. twice_locals h.locals _ _ ((twice_put_own (member_meant P h.around.class name) fits v).at (site_of h) c m) }

    twice_put : (target : Target) (fits : Bool) (v : Value) → StoresTwice k (Statements.put P target fits v)
    twice_put (ToName name) fits v = record { at = λ h c m. (twice_put_name (local_of h.locals name) name fits v).at h c m }
    twice_put (ToMember of name) fits v = record { at = λ h c m. twice_locals h.locals _ _ ((twice_put_member of name fits v).at (site_of h) c m) }
    twice_put (ToIndex of index) fits v = record { at = λ h c m. twice_locals h.locals _ _ ((twice_put_index of index v).at (site_of h) c m) }

    twice_old : (target : Target) → Twice k (Statements.old_value P target)
    twice_old (ToName name) = record { at = λ h c m. (twice_name k P name).at h c m }
    twice_old (ToMember of name) = record { at = λ h c m. (twice_member_of k P of name).at (site_of h) c m }
    twice_old (ToIndex of index) = record { at = λ h c m. (twice_by k _).at (site_of h) c m }

    twice_new : (op : AssignOp) (target : Target) (e : Means) → AllTwice k e → Twice k (Statements.new_value P op target e)
    twice_new assign.Set target e u = record { at = λ h c m. u.value.at h c m }
    twice_new op target e u = record { at = λ h c m. bind ((twice_old target).at h c m) (λ x. bind (u.value.at h c x.1) (λ y. (twice_applied k P (Statements.assign_op op) x.0 y.0).at (site_of h) c y.1)) }

    twice_assigned : (to : Means) (op : AssignOp) (e : Means) → AllTwice k to → AllTwice k e → StoresTwice k (Statements.assigned P to op e)
    twice_assigned to op e u v = record { at = λ h c m. bind (u.target.at h c m) (λ t. bind ((twice_new op t.0 e v).at h c t.1) (λ x. (twice_put t.0 (P.fits_at h.around.class e.place) x.0).at h c x.1)) }

    -- ---- simple statements

    pub twice_pass : (line : ℕ) → RunsTwice k (Statements.run_pass P line)
    twice_pass line = record { at = λ a c s. bind (stepped _ s.world) (λ w. gave {c = flows} _) }

    pub twice_break : (line : ℕ) → RunsTwice k (Statements.run_break P line)
    twice_break line = record { at = λ a c s. bind (stepped _ s.world) (λ w. gave {c = flows} _) }

    pub twice_continue : (line : ℕ) → RunsTwice k (Statements.run_continue P line)
    twice_continue line = record { at = λ a c s. bind (stepped _ s.world) (λ w. gave {c = flows} _) }

    pub twice_return : (line : ℕ) (e : Option Means) → Maybe (AllTwice k) e → RunsTwice k (Statements.run_return P line e)
    twice_return line e u = record { at = λ a c s. bind (stepped _ s.world) (λ w. bind ((twice_result a.result e u).at (Statements.unit_at P a line s) c (record { held = []; world = w })) (λ x. gave {c = flows} _)) }

    pub twice_var : (line : ℕ) (name : Identifier) (e : Option Means) → Maybe (AllTwice k) e → RunsTwice k (Statements.run_var P line name e)
    twice_var line name e u = record { at = λ a c s. bind (stepped _ s.world) (λ w. bind ((twice_declared (P.type_at a.class name.place) e u).at (Statements.unit_at P a line s) c (record { held = []; world = w })) (λ x. gave {c = flows} _)) }

    pub twice_const : (line : ℕ) (name : Identifier) → RunsTwice k (Statements.run_const P line name)
    twice_const line name = record { at = λ a c s. bind (stepped _ s.world) (λ w. gave {c = flows} _) }

    pub twice_assert : (line : ℕ) (e : Means) (message : Option Means) → AllTwice k e → Maybe (AllTwice k) message → RunsTwice k (Statements.run_assert P line e message)
    twice_assert line e message u v = record { at = λ a c s. bind (stepped _ s.world) (λ w. bind ((twice_asserted e message u v).at (Statements.unit_at P a line s) c (record { held = []; world = w })) (λ x. gave {c = flows} _)) }

    pub twice_assign : (line : ℕ) (to : Means) (op : AssignOp) (e : Means) → AllTwice k to → AllTwice k e → RunsTwice k (Statements.run_assign P line to op e)
    twice_assign line to op e u v = record { at = λ a c s. bind (stepped _ s.world) (λ w. bind ((twice_assigned to op e u v).at (Statements.unit_at P a line s) c (record { held = []; world = w })) (λ x. gave {c = flows} _)) }

    pub twice_expr : (line : ℕ) (e : Means) → AllTwice k e → RunsTwice k (Statements.run_expr P line e)
    twice_expr line e u = record { at = λ a c s. bind (stepped _ s.world) (λ w. bind (u.value.at (Statements.unit_at P a line s) c (record { held = []; world = w })) (λ x. gave {c = flows} _)) }

    -- ---- statements with blocks

    abbrev pub PartTwice : BranchRuns → Type 0
    PartTwice b = AllTwice k b.condition × Each (RunsTwice k) b.body

    twice_branches : (all : List BranchRuns) → Each PartTwice all → (other : Option (List Runs)) → Maybe (Each (RunsTwice k)) other → RunsTwice k (Statements.branches P all other)
    twice_branches [] us other v = record { at = λ a c s. (twice_otherwise other v).at a c s }
    twice_branches (b ∷ bs) us other v = record {
      at = λ a c s. bind (us.0.0.value.at (Statements.unit_at P a b.place.line s) c (record { held = []; world = s.world })) (λ x.
          let now = Statements.settled a.outer a s.locals x.1.world in
          twice_choose (truth_of x.0 x.1) (Statements.block b.body a) (Statements.branches P bs other a) (Statements.block b.body a) (Statements.branches P bs other a) now ((twice_block b.body us.0.1).at a c now) ((twice_branches bs us.1 other v).at a c now));
    }

    pub twice_if : (line : ℕ) (all : List BranchRuns) → Each PartTwice all → (other : Option (List Runs)) → Maybe (Each (RunsTwice k)) other → RunsTwice k (Statements.run_if P line all other)
    twice_if line all us other v = record { at = λ a c s. bind (stepped _ s.world) (λ w. (twice_branches all us other v).at a c (record s { world = w })) }

    pub twice_while : (line : ℕ) (e : Means) → AllTwice k e → (body : List Runs) → Each (RunsTwice k) body → RunsTwice k (Statements.run_while P line e body)
    twice_while line e u body us = record { at = λ a c s. bind (stepped _ s.world) (λ w. let le : w.left ≤ w.left + k = omega arith in let all : w.left ≤ w.left = omega arith in twice_turns a c _ body us P line e u w.left (w.left + k) le (record s { world = w }) all) }

    pub twice_for : (line : ℕ) (name : Identifier) (e : Means) → AllTwice k e → (body : List Runs) → Each (RunsTwice k) body → RunsTwice k (Statements.run_for P line name e body)
    twice_for line name e u body us = record {
      at = λ a c s. bind (stepped _ s.world) (λ w. bind (u.walk.at (Statements.unit_at P a line s) c (record { held = []; world = w })) (λ x.
          let le : x.1.world.left ≤ x.1.world.left + k = omega arith in
          let all : x.1.world.left ≤ x.1.world.left = omega arith in
          bind (twice_walked a c _ body us _ (twice_turn_opens a (Statements.spot_at P a line) name.name (P.type_at a.class name.place) e.place) x.1.world.left (x.1.world.left + k) le x.0.0 (Statements.settled a.outer a (s.locals ++ Statements.hidden x.0.1) x.1.world) all) (λ f. twice_close a (length s.locals) f)));
    }

    pub twice_match : (line : ℕ) (e : Means) → AllTwice k e → (all : List MatchRuns) → Each BranchTwice all → RunsTwice k (Statements.run_match P line e all)
    twice_match line e u all us = record {
      at = λ a c s. bind (stepped _ s.world) (λ w. bind (u.value.at (Statements.unit_at P a line s) c (record { held = []; world = w })) (λ x.
          bind_such ((twice_picked all us x.0).at (Statements.unit_at P a line s) c x.1) (such_picked all us x.0 _ x.1) (such_picked all us x.0 _ _) (λ y q.
          bind (twice_run_picked y.0 q a c _ y.1.world) (λ f. twice_close a (length s.locals) f))));
    }

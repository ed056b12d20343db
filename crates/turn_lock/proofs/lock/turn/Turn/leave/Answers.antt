use Rattle.std.proofs.Common.{rules, ◌∷◌, ap, ◌∙◌, Some}
use Rattle.atomic_table.specs.Table.{rest}
use Rattle.turn_lock.proofs.Steps.{raised, released, left}
use Rattle.turn_lock.proofs.lock.turn.Turn.leave.Goals as goal

pub store-requires : goal.store-requires
store-requires g c =
    let turn = c.requires.turn in
    let me = c.exchange-empty.ensures.3 in (
      c.exchange-empty.ensures.0 ∙ turn.table,
      search rules,
      raised g.T.Told.project g.T.Told.log _ _ _ _ _ c.args.self.value _ (ap (λ m. m.0.hold) me ∙ turn.took) (ap (λ m. m.1) me ∙ ap (λ s. (0, Some c.args.self.value) ∷ rest s) turn.slot)
          (c.requires.project ∙ turn.same) c.requires.log c.log_len-length.ensures,
    )

pub store-requires-2 : goal.store-requires-2
store-requires-2 g c =
    let turn = c.requires.turn in
    let me = c.exchange-empty.ensures.3 in
    let has = ap (λ m. m.1) me ∙ ap (λ s. (0, Some c.args.self.value) ∷ rest s) turn.slot in
    let did = c.store.ensures.2 c.args.self.value has in (
      c.store.ensures.0 ∙ (c.exchange-empty.ensures.0 ∙ turn.table),
      search rules,
      released g.T.Told.project g.T.Told.log _ g.T.Told.state _ _ _ _ c.args.self.value (ap (λ m. m.0.hold) did) (ap (λ m. m.1) did ∙ has) (c.requires.project ∙ turn.same) (ap (λ m. m.0.seen) did),
    )

pub returns-clause-pass : goal.returns-clause-pass
returns-clause-pass g c =
    let turn = c.requires.turn in
    let out = left g.T.Told.log g.T.Told.state c.args.self.value _ _ _ _ turn.slot c.exchange-empty.ensures.3 c.store.ensures.2 c.store-2.ensures.2 in record {
      table = c.store-2.ensures.0 ∙ (c.store.ensures.0 ∙ (c.exchange-empty.ensures.0 ∙ turn.table));
      its_project = ap (λ m. m.0.project) out ∙ turn.its_project;
      free = ap (λ m. m.0.hold) out;
      no_slots = ap (λ m. m.1) out;
    }

pub returns-clause-seen : goal.returns-clause-seen
returns-clause-seen g c = ap (λ m. m.0.seen) (left g.T.Told.log g.T.Told.state c.args.self.value _ _ _ _ c.requires.turn.slot c.exchange-empty.ensures.3 c.store.ensures.2 c.store-2.ensures.2)

pub returns-clause-splits : goal.returns-clause-splits
returns-clause-splits g c = ap (λ m. m.0.splits) (left g.T.Told.log g.T.Told.state c.args.self.value _ _ _ _ c.requires.turn.slot c.exchange-empty.ensures.3 c.store.ensures.2 c.store-2.ensures.2)

pub returns-clause-lost : goal.returns-clause-lost
returns-clause-lost g c = ap (λ m. m.0.lost) (left g.T.Told.log g.T.Told.state c.args.self.value _ _ _ _ c.requires.turn.slot c.exchange-empty.ensures.3 c.store.ensures.2 c.store-2.ensures.2)

pub returns-clause-turns : goal.returns-clause-turns
returns-clause-turns g c =
    let out = left g.T.Told.log g.T.Told.state c.args.self.value _ _ _ _ c.requires.turn.slot c.exchange-empty.ensures.3 c.store.ensures.2 c.store-2.ensures.2 in
    record { found_log = ap (λ m. m.0.found_log) out; found_state = ap (λ m. m.0.found_state) out; turns = ap (λ m. m.0.turns) out; earlier = ap (λ m. m.0.earlier) out }

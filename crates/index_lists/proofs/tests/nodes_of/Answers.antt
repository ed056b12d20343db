use Rattle.std.proofs.Common.{[], ◌∷◌, ◌++◌, ap, ◌∙◌, sym, append_assoc, append-nil}
use Rattle.std.proofs.Common.{subst}
use Rattle.std.specs.List.{Contains}
use Rattle.index_lists.proofs.RowLaws.{Contains-split, first_split, first_none}
use Rattle.index_lists.proofs.tests.nodes_of.Goals as goal

pub next-at-requires : goal.next-at-requires
next-at-requires c =
    let parts = c.loop-at.invariant in
    let next = first_split parts.0 c.in-Some.node (sym parts.1 ∙ c.in-Some.is) in
    (c.args.head, subst (λ nodes. Contains nodes c.in-Some.node) (ap (λ l. c.loop-at.nodes.items ++ l) (sym next.1) ∙ parts.2) (Contains-split c.loop-at.nodes.items c.in-Some.node next.0))

pub loop-at-preserved : goal.loop-at-preserved
loop-at-preserved c =
    let parts = c.loop-at.invariant in
    let next = first_split parts.0 c.in-Some.node (sym parts.1 ∙ c.in-Some.is) in (
      next.0,
      c.next-at.ensures.value c.args.head c.loop-at.nodes.items next.0 (sym parts.2 ∙ ap (λ l. c.loop-at.nodes.items ++ l) next.1),
      ap (λ l. l ++ next.0) c.in_ok-push.ensures.items ∙ append_assoc c.loop-at.nodes.items (c.in-Some.node ∷ []) next.0 ∙ ap (λ l. c.loop-at.nodes.items ++ l) (sym next.1) ∙ parts.2,
    )

pub returns : goal.returns
returns c =
    let parts = c.loop-at.invariant in
    let none = first_none parts.0 (sym parts.1 ∙ c.in_default.is) in
    sym (append-nil c.loop-at.nodes.items) ∙ ap (λ l. c.loop-at.nodes.items ++ l) (sym none) ∙ parts.2

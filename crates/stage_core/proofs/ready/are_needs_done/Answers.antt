use Rattle.std.proofs.Common.{◌≡◌, ℕ, ◌<◌, true, false, cond, eqb, sym, subst, Contains, []}
use Rattle.stage_core.specs.Rows.{log_of}
use Rattle.stage_core.specs.FileSets.{IsFileSet}
use Rattle.stage_core.specs.Machine.{edges, direct_needs}
use Rattle.stage_core.specs.Stages.{Reaches}
use Rattle.stage_core.proofs.Reach.{empty_file_set, with_file_set, with_file_has, first_file}
use Rattle.stage_core.proofs.ready.are_needs_done.Goals as goal

file_set_of : {n : ℕ} (xs : _) → xs ≡ [] → IsFileSet n xs
file_set_of {n} xs e = rw e (empty_file_set n)

pub add_file-requires-clause-visited : goal.add_file-requires-clause-visited
add_file-requires-clause-visited g c = file_set_of _ c.clear.ensures.items

pub add_reachable-requires-clause-in_range : goal.add_reachable-requires-clause-in_range
add_reachable-requires-clause-in_range g c a b =
    elim (eqb c.args.stage 2) as (λ t. Contains (edges (cond t g.O.StageOut.walk g.O.StageOut.links) (log_of c.args.rows.now) a) b → b < c.args.files) [ true ↦ c.requires.in_range.by_walk a b | false ↦ c.requires.in_range.by_links a b ]

pub add_reachable-requires-clause-visited : goal.add_reachable-requires-clause-visited
add_reachable-requires-clause-visited g c = rw c.add_file.ensures.after (with_file_set _ _ _ c.requires.file (file_set_of _ c.clear.ensures.items))

pub returns-clause-done : goal.returns-clause-done
returns-clause-done g c =
    let has : Contains c.add_file.new.visited.items c.args.file = rw c.add_file.ensures.after (with_file_has c.clear.new.self.items c.args.file) in (
      λ t other need. c.all_done.ensures.0 t other (rw c.deref.ensures.value ((c.add_reachable.ensures.reached other).1 (c.args.file, has, need.reached))),
      λ needs. c.all_done.ensures.1 (λ other there.
          let from = (c.add_reachable.ensures.reached other).0 (subst (λ xs. Contains xs other) c.deref.ensures.value there) in
          let same : c.args.file ≡ from.0 = first_file _ _ _ c.clear.ensures.items (subst (λ xs. Contains xs from.0) c.add_file.ensures.after from.1) in
          needs other (record { above = c.if-stage-lt2.false; reached = subst (λ a. Reaches (direct_needs g.O.StageOut (log_of c.args.rows.now) c.args.stage) a other) (sym same) from.2 })),
    )

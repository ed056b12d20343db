use Rattle.std.proofs.Common.{◌≡◌, ◌∙◌, ◌<◌, ◌↔◌, ℕ, true, false, true≢false, Contains, filter, filter_map, map, sym, subst, subst₂, ap}
use Rattle.stage_core.specs.FileSets.{is_in, files_below}
use Rattle.stage_core.specs.Load.{AreFaults, AreResults, InClosure, fault_entry, result_entry, result_value}
use Rattle.stage_core.specs.Rows.{log_of}
use Rattle.stage_core.specs.Machine.{edges, outcomes, is_done_at}
use Rattle.stage_core.specs.Stages.{Reaches}
use Rattle.stage_core.proofs.Collect.{not_empty, nil_by_test}
use Rattle.stage_core.proofs.CoreSteps.{in_range}
use Rattle.stage_core.proofs.Legal.{Laws}
use Rattle.stage_core.proofs.Load.{LoadLaws, unfinished, finished, are_faults, are_results}
use Rattle.stage_core.proofs.Reach.{empty_file_set, with_file_set, from_one_file}
use Rattle.stage_core.proofs.engine.Core.answer.Goals as goal

pub add_file-requires-clause-visited : goal.add_file-requires-clause-visited
add_file-requires-clause-visited g c = rw c.in_ok-visited.ensures.items (empty_file_set _)

pub add_reachable-requires-clause-in_range : goal.add_reachable-requires-clause-in_range
add_reachable-requires-clause-in_range g c a b =
    let i = c.self.inside in
    let laws : Laws g.O.StageOut = record { links_of_value = g.met.O.StageOut.links_of_value; walk_of_value = g.met.O.StageOut.walk_of_value; links_in_range = g.met.O.StageOut.links_in_range; walk_in_range = g.met.O.StageOut.walk_in_range; walk_within_links = g.met.O.StageOut.walk_within_links } in
    rw c.deref.ensures.value ((in_range g.O.StageOut laws i.project.value i.rows.items i.in_progress.items i.files _ _ _ c.self.invariant).by_links a b)

pub add_reachable-requires-clause-visited : goal.add_reachable-requires-clause-visited
add_reachable-requires-clause-visited g c =
    let i = c.self.inside in
    let file : c.args.file < i.files = rw c.self.invariant.all_files (subst (λ s. c.args.file < g.O.StageOut.files s.project) (sym (ap (λ v. v.state) c.self.view_is)) c.requires) in
    rw c.add_file.ensures.after (with_file_set _ _ _ file (rw c.in_ok-visited.ensures.items (empty_file_set _)))

pub returns-then-not-are_finished-clause-unfinished : goal.returns-then-not-are_finished-clause-unfinished
returns-then-not-are_finished-clause-unfinished g c e =
    let i = c.self.inside in
    let laws : Laws g.O.StageOut = record { links_of_value = g.met.O.StageOut.links_of_value; walk_of_value = g.met.O.StageOut.walk_of_value; links_in_range = g.met.O.StageOut.links_in_range; walk_in_range = g.met.O.StageOut.walk_in_range; walk_within_links = g.met.O.StageOut.walk_within_links } in
    let more : LoadLaws g.O.StageOut = record { absent_after = g.met.O.StageOut.absent_after; blocked_by = g.met.O.StageOut.blocked_by; paths_ascend = g.met.O.StageOut.paths_ascend } in
    let visited = c.add_reachable.new.visited.items in
    let reached : (b : ℕ) → Contains visited b ↔ Reaches (edges g.O.StageOut.links (log_of i.rows.items)) c.args.file b =
    from_one_file _ c.in_ok-visited.visited.items c.args.file visited c.in_ok-visited.ensures.items
    (subst₂ (λ ls first. (b : ℕ) → Contains visited b ↔ ((a : ℕ) × Contains first a × Reaches (edges g.O.StageOut.links (log_of ls)) a b)) c.deref.ensures.value c.add_file.ensures.after c.add_reachable.ensures.reached) in
    let undone : ((b : ℕ) → Contains visited b → is_done_at (outcomes (log_of i.rows.items) b) 5 ≡ true) → ⊥ =
    λ all. true≢false (sym (c.are_finished.ensures.1 (rw (c.deref-2.ensures.value, c.deref-3.ensures.value) all)) ∙ c.if-not-are_finished.true) in
    subst (λ s. (b : ℕ) × InClosure g.O.StageOut s.project c.args.file b × (is_done_at (outcomes s.log b) 5 ≡ false)) (ap (λ v. v.state) c.self.view_is)
    (unfinished g.O.StageOut laws more i.project.value (log_of i.rows.items) c.self.invariant.sound.legal c.args.file visited (λ b. (reached b).0) undone)

pub returns-then-not-is_empty-clause-finished : goal.returns-then-not-is_empty-clause-finished
returns-then-not-is_empty-clause-finished g c =
    let i = c.self.inside in
    let laws : Laws g.O.StageOut = record { links_of_value = g.met.O.StageOut.links_of_value; walk_of_value = g.met.O.StageOut.walk_of_value; links_in_range = g.met.O.StageOut.links_in_range; walk_in_range = g.met.O.StageOut.walk_in_range; walk_within_links = g.met.O.StageOut.walk_within_links } in
    let more : LoadLaws g.O.StageOut = record { absent_after = g.met.O.StageOut.absent_after; blocked_by = g.met.O.StageOut.blocked_by; paths_ascend = g.met.O.StageOut.paths_ascend } in
    let visited = c.add_reachable.new.visited.items in
    let reached : (b : ℕ) → Contains visited b ↔ Reaches (edges g.O.StageOut.links (log_of i.rows.items)) c.args.file b =
    from_one_file _ c.in_ok-visited.visited.items c.args.file visited c.in_ok-visited.ensures.items
    (subst₂ (λ ls first. (b : ℕ) → Contains visited b ↔ ((a : ℕ) × Contains first a × Reaches (edges g.O.StageOut.links (log_of ls)) a b)) c.deref.ensures.value c.add_file.ensures.after c.add_reachable.ensures.reached) in
    let file : c.args.file < g.O.StageOut.files i.project.value = subst (λ s. c.args.file < g.O.StageOut.files s.project) (sym (ap (λ v. v.state) c.self.view_is)) c.requires in
    let done : (b : ℕ) → Contains visited b → is_done_at (outcomes (log_of i.rows.items) b) 5 ≡ true =
    subst₂ (λ ls xs. (b : ℕ) → Contains xs b → is_done_at (outcomes (log_of ls) b) 5 ≡ true) c.deref-2.ensures.value c.deref-3.ensures.value (c.are_finished.ensures.0 c.if-not-are_finished.false) in
    subst (λ s. (other : ℕ) → InClosure g.O.StageOut s.project c.args.file other → is_done_at (outcomes s.log other) 5 ≡ true) (ap (λ v. v.state) c.self.view_is)
    (finished g.O.StageOut laws more i.project.value (log_of i.rows.items) c.self.invariant.sound.legal c.args.file file visited reached done)

pub returns-clause-finished : goal.returns-clause-finished
returns-clause-finished g c =
    let i = c.self.inside in
    let laws : Laws g.O.StageOut = record { links_of_value = g.met.O.StageOut.links_of_value; walk_of_value = g.met.O.StageOut.walk_of_value; links_in_range = g.met.O.StageOut.links_in_range; walk_in_range = g.met.O.StageOut.walk_in_range; walk_within_links = g.met.O.StageOut.walk_within_links } in
    let more : LoadLaws g.O.StageOut = record { absent_after = g.met.O.StageOut.absent_after; blocked_by = g.met.O.StageOut.blocked_by; paths_ascend = g.met.O.StageOut.paths_ascend } in
    let visited = c.add_reachable.new.visited.items in
    let reached : (b : ℕ) → Contains visited b ↔ Reaches (edges g.O.StageOut.links (log_of i.rows.items)) c.args.file b =
    from_one_file _ c.in_ok-visited.visited.items c.args.file visited c.in_ok-visited.ensures.items
    (subst₂ (λ ls first. (b : ℕ) → Contains visited b ↔ ((a : ℕ) × Contains first a × Reaches (edges g.O.StageOut.links (log_of ls)) a b)) c.deref.ensures.value c.add_file.ensures.after c.add_reachable.ensures.reached) in
    let file : c.args.file < g.O.StageOut.files i.project.value = subst (λ s. c.args.file < g.O.StageOut.files s.project) (sym (ap (λ v. v.state) c.self.view_is)) c.requires in
    let done : (b : ℕ) → Contains visited b → is_done_at (outcomes (log_of i.rows.items) b) 5 ≡ true =
    subst₂ (λ ls xs. (b : ℕ) → Contains xs b → is_done_at (outcomes (log_of ls) b) 5 ≡ true) c.deref-2.ensures.value c.deref-3.ensures.value (c.are_finished.ensures.0 c.if-not-are_finished.false) in
    subst (λ s. (other : ℕ) → InClosure g.O.StageOut s.project c.args.file other → is_done_at (outcomes s.log other) 5 ≡ true) (ap (λ v. v.state) c.self.view_is)
    (finished g.O.StageOut laws more i.project.value (log_of i.rows.items) c.self.invariant.sound.legal c.args.file file visited reached done)

pub returns-then-not-is_empty-clause-load : goal.returns-then-not-is_empty-clause-load
returns-then-not-is_empty-clause-load g c =
    let i = c.self.inside in
    let laws : Laws g.O.StageOut = record { links_of_value = g.met.O.StageOut.links_of_value; walk_of_value = g.met.O.StageOut.walk_of_value; links_in_range = g.met.O.StageOut.links_in_range; walk_in_range = g.met.O.StageOut.walk_in_range; walk_within_links = g.met.O.StageOut.walk_within_links } in
    let more : LoadLaws g.O.StageOut = record { absent_after = g.met.O.StageOut.absent_after; blocked_by = g.met.O.StageOut.blocked_by; paths_ascend = g.met.O.StageOut.paths_ascend } in
    let visited = c.add_reachable.new.visited.items in
    let reached : (b : ℕ) → Contains visited b ↔ Reaches (edges g.O.StageOut.links (log_of i.rows.items)) c.args.file b =
    from_one_file _ c.in_ok-visited.visited.items c.args.file visited c.in_ok-visited.ensures.items
    (subst₂ (λ ls first. (b : ℕ) → Contains visited b ↔ ((a : ℕ) × Contains first a × Reaches (edges g.O.StageOut.links (log_of ls)) a b)) c.deref.ensures.value c.add_file.ensures.after c.add_reachable.ensures.reached) in
    let file : c.args.file < g.O.StageOut.files i.project.value = subst (λ s. c.args.file < g.O.StageOut.files s.project) (sym (ap (λ v. v.state) c.self.view_is)) c.requires in
    let done : (b : ℕ) → Contains visited b → is_done_at (outcomes (log_of i.rows.items) b) 5 ≡ true =
    subst₂ (λ ls xs. (b : ℕ) → Contains xs b → is_done_at (outcomes (log_of ls) b) 5 ≡ true) c.deref-2.ensures.value c.deref-3.ensures.value (c.are_finished.ensures.0 c.if-not-are_finished.false) in
    let members : c.in_ok-closure.closure.items ≡ filter (λ f. is_in f visited) (files_below (g.O.StageOut.files i.project.value)) =
    subst₂ (λ n xs. c.in_ok-closure.closure.items ≡ filter (λ f. is_in f xs) (files_below n)) c.self.invariant.all_files c.deref-4.ensures.value c.in_ok-closure.ensures in
    let faults : c.in_ok-faults.faults.items ≡ filter_map (fault_entry (log_of i.rows.items)) (filter (λ f. is_in f visited) (files_below (g.O.StageOut.files i.project.value))) =
    rw (c.deref-5.ensures.value, c.deref-6.ensures.value, members) at c.in_ok-faults.ensures in
    subst₂ (λ s xs. AreFaults g.O.StageOut s.project c.args.file xs) (ap (λ v. v.state) c.self.view_is) (sym faults)
    (are_faults g.O.StageOut laws more i.project.value (log_of i.rows.items) c.self.invariant.sound.legal c.args.file file visited reached done (λ e. not_empty _ _ c.is_empty.result c.in_ok-faults.faults.ok.0 c.is_empty.ensures c.if-not-is_empty.true (faults ∙ e)))

pub returns-clause-load : goal.returns-clause-load
returns-clause-load g c =
    let i = c.self.inside in
    let laws : Laws g.O.StageOut = record { links_of_value = g.met.O.StageOut.links_of_value; walk_of_value = g.met.O.StageOut.walk_of_value; links_in_range = g.met.O.StageOut.links_in_range; walk_in_range = g.met.O.StageOut.walk_in_range; walk_within_links = g.met.O.StageOut.walk_within_links } in
    let more : LoadLaws g.O.StageOut = record { absent_after = g.met.O.StageOut.absent_after; blocked_by = g.met.O.StageOut.blocked_by; paths_ascend = g.met.O.StageOut.paths_ascend } in
    let visited = c.add_reachable.new.visited.items in
    let reached : (b : ℕ) → Contains visited b ↔ Reaches (edges g.O.StageOut.links (log_of i.rows.items)) c.args.file b =
    from_one_file _ c.in_ok-visited.visited.items c.args.file visited c.in_ok-visited.ensures.items
    (subst₂ (λ ls first. (b : ℕ) → Contains visited b ↔ ((a : ℕ) × Contains first a × Reaches (edges g.O.StageOut.links (log_of ls)) a b)) c.deref.ensures.value c.add_file.ensures.after c.add_reachable.ensures.reached) in
    let file : c.args.file < g.O.StageOut.files i.project.value = subst (λ s. c.args.file < g.O.StageOut.files s.project) (sym (ap (λ v. v.state) c.self.view_is)) c.requires in
    let done : (b : ℕ) → Contains visited b → is_done_at (outcomes (log_of i.rows.items) b) 5 ≡ true =
    subst₂ (λ ls xs. (b : ℕ) → Contains xs b → is_done_at (outcomes (log_of ls) b) 5 ≡ true) c.deref-2.ensures.value c.deref-3.ensures.value (c.are_finished.ensures.0 c.if-not-are_finished.false) in
    let members : c.in_ok-closure.closure.items ≡ filter (λ f. is_in f visited) (files_below (g.O.StageOut.files i.project.value)) =
    subst₂ (λ n xs. c.in_ok-closure.closure.items ≡ filter (λ f. is_in f xs) (files_below n)) c.self.invariant.all_files c.deref-4.ensures.value c.in_ok-closure.ensures in
    let faults : c.in_ok-faults.faults.items ≡ filter_map (fault_entry (log_of i.rows.items)) (filter (λ f. is_in f visited) (files_below (g.O.StageOut.files i.project.value))) =
    rw (c.deref-5.ensures.value, c.deref-6.ensures.value, members) at c.in_ok-faults.ensures in
    let results : map result_value c.in_ok-results.results.items ≡ filter_map (result_entry (log_of i.rows.items)) (filter (λ f. is_in f visited) (files_below (g.O.StageOut.files i.project.value))) =
    rw (c.deref-7.ensures.value, c.deref-8.ensures.value, members) at c.in_ok-results.ensures in
    subst₂ (λ s xs. AreResults g.O.StageOut s.project c.args.file xs) (ap (λ v. v.state) c.self.view_is) (sym results)
    (are_results g.O.StageOut laws more i.project.value (log_of i.rows.items) c.self.invariant.sound.legal c.args.file file visited reached done (sym faults ∙ nil_by_test _ _ c.is_empty.result c.in_ok-faults.faults.ok.0 c.is_empty.ensures c.if-not-is_empty.false))

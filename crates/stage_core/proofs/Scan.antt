-- What one more row adds to a scan.
use Rattle.std.proofs.Common.{◌≡◌, ℕ, ◌+◌, ◌<◌, List, ◌∷◌, ◌++◌, length, take, get_or, drop, sym, ap, ◌∙◌}
use Rattle.std.proofs.lemmas.List.{map-append, take-append-drop, drop_more}
use Rattle.std.proofs.lemmas.List.Elements.{filter_map-append}
use Rattle.std.proofs.lemmas.Grind.{common_steps}
use Rattle.stage_core.specs.declared.log_rows.LogRow.{LogRow}
use Rattle.stage_core.specs.Rows.{entry_of, log_of}

pub ruleset scans = (common_steps, filter_map-append)

-- the log, cut at a row
pub log_cut : {O : Type 0} (rows : List (LogRow O)) (i : ℕ) (x : LogRow O) → i < length rows → x ≡ get_or rows i x → log_of rows ≡ log_of (take i rows) ++ entry_of x ∷ log_of (drop (i + 1) rows)
log_cut rows i x l is =
    let cut : rows ≡ take i rows ++ x ∷ drop (i + 1) rows = sym (take-append-drop i rows) ∙ ap (λ (t : List (LogRow _)). take i rows ++ t) (drop_more rows i x l ∙ ap (λ y. y ∷ drop (i + 1) rows) (sym is)) in
    ap log_of cut ∙ map-append entry_of (take i rows) (x ∷ drop (i + 1) rows)

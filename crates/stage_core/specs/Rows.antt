-- The log that rows hold.
use Rattle.std.specs.Prelude.{List, map}
use Rattle.stage_core.specs.Log.{Entry, Request, Claim, Publish, value_of}
use Rattle.stage_core.specs.declared.log_rows.LogRow.{LogRow}
use Rattle.stage_core.specs.declared.log_rows.LogRow.TheVariants as row

-- the entry that a row holds
abbrev pub entry_of : {O : Type 0} → LogRow O → Entry O
entry_of (row.Request file) = Request file
entry_of (row.Claim file stage) = Claim file stage
entry_of (row.Publish file stage outcome) = Publish file stage (value_of outcome)

-- the log that the rows hold
abbrev pub log_of : {O : Type 0} → List (LogRow O) → List (Entry O)
log_of rows = map entry_of rows

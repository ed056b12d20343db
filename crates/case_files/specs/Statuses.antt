-- The exit statuses of a program that runs case files.
use Rattle.std.specs.Prelude.{ℕ}
use Rattle.case_files.specs.declared.stop.Stop.{Stop}
use Rattle.case_files.specs.declared.stop.Stop.TheVariants as stop

abbrev pub number_of_stop : Stop → ℕ
number_of_stop stop.BadCase = 2
number_of_stop stop.Unreadable = 5
number_of_stop stop.Unwritten = 6
number_of_stop stop.NoMemory = 7

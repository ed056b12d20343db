-- The faults that a reading tells are counted.
use Rattle.std.specs.Prelude.{◌≡◌}
use Rattle.host_io.specs.declared.folder.Faults.{Faults}
use Rattle.host_io.specs.Causes.{RoseBy}
use Rattle.folder_meaning.specs.Image.{unreadable_files}
use Rattle.folder_meaning.specs.Reading.{Reading, image_read, folder_fault, folder_limit}

-- the counts of faults that a reading needs
abbrev pub HasFaults : Faults → Faults → Reading → Type 0
HasFaults before now (image_read image) = (now.deciding ≡ before.deciding) × RoseBy (unreadable_files image) before.other now.other
HasFaults before now folder_fault = RoseBy 1 before.deciding now.deciding
HasFaults before now folder_limit = Unit {0}

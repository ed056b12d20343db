-- The status of a machine's ending.
use Rattle.gd_machine.specs.declared.machine.Ending.{Ending}
use Rattle.gd_machine.specs.declared.machine.Ending.TheVariants.{Ended, StepsSpent as EndingSpent, SinkFault as EndingSinkFault, NoMemory as EndingNoMemory}
use Rattle.gdrun.specs.declared.status.Status.{Status}
use Rattle.gdrun.specs.declared.status.Status.TheVariants.{Done, StepsSpent, SinkFault, NoMemory}

abbrev pub status_of_ending : Ending → Status
status_of_ending (Ended steps left) = Done
status_of_ending (EndingSpent at steps) = StepsSpent
status_of_ending EndingSinkFault = SinkFault
status_of_ending EndingNoMemory = NoMemory

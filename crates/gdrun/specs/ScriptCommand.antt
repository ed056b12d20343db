-- The command that the code holds.
use Rattle.std.specs.declared.option.Option.{Option}
use Rattle.std.specs.declared.option.Option.TheVariants.{None, Some}
use Rattle.gdrun.specs.declared.command.ScriptCommand.{ScriptCommand}
use Rattle.gdrun.specs.Words.{Command, no_command, of_folder, script}

abbrev pub command_view : Option ScriptCommand → Command
command_view None = no_command
command_view (Some command) = of_folder (script command.path command.steps)

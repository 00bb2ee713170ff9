-- One step of the machine: what a script line does, by the files and the machine before it.
use Rattle.std.specs.Prelude.{◌≡◌, ℕ, List, Option, Some, None}
use Rattle.pf_reply.specs.declared.refusal.Refusal.TheVariants.{BadCommand}
use Rattle.pf_runs.specs.Runs.{Step, Stepped}
use Rattle.pf_script.specs.Command.{command_of}
use Rattle.pf_script.specs.declared.command.Command.{Command}
use Rattle.pf_script.specs.declared.command.Command.TheVariants as commands
use Rattle.pf_source.specs.Disk.{Disk}
use Rattle.pf_state.specs.declared.machine.Machine.{Machine}
use Rattle.pf_engine.specs.HostLines.{HostsDoes}
use Rattle.pf_engine.specs.LoadLines.{CheckDoes, LoadDoes, OpenDoes}
use Rattle.pf_engine.specs.SessionLines.{CommitDoes, step_flush, step_rollback}
use Rattle.pf_engine.specs.ShowLines.{show}
use Rattle.pf_engine.specs.Steps.{refused}
use Rattle.pf_engine.specs.TableLines.{TableDoes}
use Rattle.pf_engine.specs.TestLines.{TestDoes}

-- what a command does
abbrev pub CommandDoes : Disk → Machine → Command → Stepped Machine → Type 0
CommandDoes disk machine (commands.Load line) does = LoadDoes disk machine line does
CommandDoes disk machine (commands.Check line) does = CheckDoes disk machine line does
CommandDoes disk machine (commands.Open name line) does = OpenDoes disk machine name line does
CommandDoes disk machine (commands.Commit name) does = CommitDoes machine name does
CommandDoes disk machine (commands.Rollback name) does = does ≡ step_rollback machine name
CommandDoes disk machine (commands.Flush path) does = does ≡ step_flush machine path
CommandDoes disk machine (commands.Table path name action) does = TableDoes machine path name action does
CommandDoes disk machine (commands.Show what) does = does ≡ show machine what
CommandDoes disk machine (commands.Hosts file) does = HostsDoes disk machine file does
CommandDoes disk machine (commands.Test text) does = TestDoes machine text does

-- a line that is no command is refused
abbrev pub LineDoes : Disk → Machine → Option Command → Stepped Machine → Type 0
LineDoes disk machine None does = does ≡ refused machine BadCommand
LineDoes disk machine (Some command) does = CommandDoes disk machine command does

unfoldable pub step : Step Machine
step disk machine line does = LineDoes disk machine (command_of line) does

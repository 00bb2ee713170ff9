-- What a refused line leaves.
use Rattle.std.specs.Prelude.{◌≡◌, ◌⊎◌, ℕ, List, Some}
use Rattle.pf_script.specs.Command.{command_of}
use Rattle.pf_script.specs.declared.command.Command.TheVariants.{Commit}
use Rattle.pf_state.specs.Sessions.{closed}
use Rattle.pf_state.specs.declared.machine.Machine.{Machine}

-- a commit of this session was refused
pub record ClosesSession (machine : Machine) (line : List ℕ) (after : Machine) : Type 0 where
  pub name : List ℕ
  pub commits : command_of line ≡ Some (Commit name)
  pub closed_is : after ≡ closed name machine

abbrev pub ChangesNothing : Machine → List ℕ → Machine → Type 0
ChangesNothing machine line after = (after ≡ machine) ⊎ ClosesSession machine line after

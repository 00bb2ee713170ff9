-- What a line does, whatever its files come to.
use Rattle.std.specs.Prelude.{◌≡◌, ◌≤◌, ◌⊎◌, ℕ, List, [], ◌∷◌, length, Option, Some, None, Result, Ok, Err}
use Rattle.pf_optim.specs.declared.rows.Row.{Row}
use Rattle.pf_reply.specs.declared.refusal.Refusal.{Refusal}
use Rattle.pf_reply.specs.declared.refusal.Refusal.TheVariants as refusals
use Rattle.pf_runs.specs.Runs.{Stepped}
use Rattle.pf_script.specs.declared.command.Command.{Command}
use Rattle.pf_script.specs.declared.command.Command.TheVariants as commands
use Rattle.pf_script.specs.declared.command.LoadLine.{LoadLine}
use Rattle.pf_source.specs.Disk.{Disk}
use Rattle.pf_state.specs.Sessions.{entry_refusal}
use Rattle.pf_state.specs.declared.machine.Machine.{Machine}
use Rattle.pf_state.specs.declared.ready.Ready.{Ready}
use Rattle.pf_state.specs.declared.ready.Staged.{Staged}
use Rattle.pf_engine.specs.HostLines.{TakesFacts}
use Rattle.pf_engine.specs.LoadLines.{Checking, Loading, Opening}
use Rattle.pf_engine.specs.Step.{LineDoes}
use Rattle.pf_engine.specs.Steps.{refused}

-- a refusal for the profile, where the line names one: it can't be read, is too large, or a line of it is outside the form
abbrev pub IsOfProfile : Option (List ℕ) → Refusal → Type 0
IsOfProfile (Some profile) (refusals.CannotRead name) = name ≡ profile
IsOfProfile (Some profile) (refusals.ProfileFault line) = Unit {0}
IsOfProfile profile refusal = ⊥

-- a refusal for the file of rules, or for one that it includes or loads: it can't be read, or there is a fault in it
abbrev pub IsOfRules : Refusal → Type 0
IsOfRules (refusals.CannotRead name) = Unit {0}
IsOfRules (refusals.LoadFault kind file line) = Unit {0}
IsOfRules refusal = ⊥

-- each ruleset has at most 16,384 rules as they are written
abbrev pub HaveFewRules : List Staged → Type 0
HaveFewRules [] = Unit {0}
HaveFewRules (part ∷ parts) = (length part.rules.rules ≤ 16384) × HaveFewRules parts

-- what the profile may come to, whatever it holds
abbrev pub ProfileMayCome : Option (List ℕ) → Result (List Row) Refusal → Type 0
ProfileMayCome profile (Ok rows) = Unit {0}
ProfileMayCome profile (Err refusal) = IsOfProfile profile refusal

-- what a file of rules may come to, whatever it holds
abbrev pub FileMayCome : Result Ready Refusal → Type 0
FileMayCome (Ok ready) = HaveFewRules ready.parts
FileMayCome (Err refusal) = IsOfRules refusal

-- what the files of a line may come to, whatever they hold
abbrev pub LineMayCome : LoadLine → Result Ready Refusal → Type 0
LineMayCome line (Ok ready) = HaveFewRules ready.parts
LineMayCome line (Err refusal) = IsOfProfile line.profile refusal ⊎ IsOfRules refusal

-- the files come to some plan or to a refusal of theirs, and this is done with it
pub record UsesSome (line : LoadLine) (Using : Result Ready Refusal → Stepped Machine → Type 0) (does : Stepped Machine) : Type 0 where
  pub answer : Result Ready Refusal
  pub comes : LineMayCome line answer
  pub using : Using answer does

-- where no session may be opened, the line is refused for that, and no file is read
abbrev pub OpensSome : Option Refusal → Machine → List ℕ → LoadLine → Stepped Machine → Type 0
OpensSome (Some refusal) machine name line does = does ≡ refused machine refusal
OpensSome None machine name line does = UsesSome line (Opening machine name) does

abbrev pub DoesWhatever : Machine → Option Command → Stepped Machine → Type 0
DoesWhatever machine (Some (commands.Load line)) does = UsesSome line (Loading machine) does
DoesWhatever machine (Some (commands.Check line)) does = UsesSome line (Checking machine) does
DoesWhatever machine (Some (commands.Open name line)) does = OpensSome (entry_refusal machine name) machine name line does
DoesWhatever machine (Some (commands.Hosts file)) does = TakesFacts machine file does
DoesWhatever machine command does = (disk : Disk) → LineDoes disk machine command does

-- What the calls of the engine do: the machine after a line, what is appended to the output, and what the files were asked.
use Rattle.std.specs.Prelude.{◌≡◌, ℕ, ◌≤◌, Bool, true, false, List, [], ◌∷◌, ◌++◌, length, Option, Some, None}
use Rattle.pf_reply.specs.Refusals.{refusal_text}
use Rattle.pf_reply.specs.declared.refusal.Refusal.TheVariants.{CannotRead}
use Rattle.pf_runs.specs.Runs.{Stepped, reply_text}
use Rattle.pf_script.specs.declared.command.Command.{Command}
use Rattle.pf_script.specs.declared.command.Command.TheVariants as commands
use Rattle.pf_source.specs.Asks.{Asks}
use Rattle.pf_source.specs.Disk.{Disk}
use Rattle.pf_source.specs.Told.{FilesTold}
use Rattle.pf_engine.specs.declared.outcome.Outcome.{Outcome}
use Rattle.pf_engine.specs.declared.outcome.Outcome.TheVariants.{Done, Refused}
use Rattle.pf_engine.specs.Step.{step}
use Rattle.pf_state.specs.declared.machine.Machine.{Machine}

abbrev pub is_refused : Outcome → Bool
is_refused Done = false
is_refused Refused = true

-- to the output these bytes were added
pub record Adds (old new : List ℕ) (P : List ℕ → Type 0) : Type 0 where
  pub bytes : List ℕ
  pub added : new ≡ old ++ bytes
  pub is : P bytes

-- the machine, the bytes of the reply and the outcome are those of the step
pub record Does (stepped : Stepped Machine) (machine : Machine) (reply : List ℕ) (refused : Bool) : Type 0 where
  pub machine_is : machine ≡ stepped.machine
  pub reply_is : reply ≡ reply_text stepped.reply
  pub refused_is : refused ≡ stepped.refused

-- the line does this and asks for no file
pub record DoesAlone (before : Machine) (line : List ℕ) (after : Machine) (reply : List ℕ) (refused : Bool) : Type 0 where
  pub does : Stepped Machine
  pub steps : (disk : Disk) → step disk before line does
  pub is : Does does after reply refused
  pub alone : does.unread ≡ []

-- a read of a file that may have failed in a call
pub record MayFail (old new : FilesTold) : Type 0 where
  pub more : List (List ℕ)
  pub asks : Asks more old new
  pub few : length more ≤ 1

-- what was done is what a command does
pub record DoesSo (Doing : Stepped Machine → Type 0) (after : Machine) (reply : List ℕ) (refused : Bool) : Type 0 where
  pub does : Stepped Machine
  pub so : Doing does
  pub is : Does does after reply refused

-- the line that tells that a file can't be read
abbrev pub cannot_read_line : List ℕ → List ℕ
cannot_read_line name = reply_text (refusal_text (CannotRead name) ∷ [])

-- a line was refused because this file can't be read: that is all that it told, and nothing changed
pub record IsUnread (name : List ℕ) (before after : Machine) (bytes : List ℕ) (refused : Bool) : Type 0 where
  pub told : bytes ≡ cannot_read_line name
  pub refused_is : refused ≡ true
  pub same : after ≡ before

-- at most one read of a call failed, and then the line was refused for it
abbrev pub IsCause : List (List ℕ) → Machine → Machine → List ℕ → Bool → Type 0
IsCause [] before after bytes refused = Unit {0}
IsCause (name ∷ []) before after bytes refused = IsUnread name before after bytes refused
IsCause (name ∷ other ∷ names) before after bytes refused = ⊥

-- What the files were asked, whatever they tell of what they hold: the names of the reads that failed, one exactly where the line
-- was refused because that file can't be read.
pub record AsksFor (before after : Machine) (files files' : FilesTold) (bytes : List ℕ) (refused : Bool) : Type 0 where
  pub unread : List (List ℕ)
  pub asks : Asks unread files files'
  pub cause : IsCause unread before after bytes refused
  pub only : (name : List ℕ) → bytes ≡ cannot_read_line name → unread ≡ name ∷ []

-- whether a command reads files
abbrev pub reads_files : Option Command → Bool
reads_files (Some (commands.Load line)) = true
reads_files (Some (commands.Check line)) = true
reads_files (Some (commands.Open name line)) = true
reads_files (Some (commands.Hosts file)) = true
reads_files command = false

-- whether a command loads a file of rules
abbrev pub loads : Option Command → Bool
loads (Some (commands.Load line)) = true
loads (Some (commands.Check line)) = true
loads (Some (commands.Open name line)) = true
loads command = false

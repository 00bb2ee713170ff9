-- What a command does, as a step of its line.
use Rattle.std.proofs.Common.{◌≡◌, ℕ, ◌+◌, ◌≤◌, Bool, true, false, List, [], ◌∷◌, ◌++◌, Option, Some, None, Result, Ok, Err, refl, sym, ap, ◌∙◌, subst, arith}
use Rattle.std.specs.Prelude.{IfOk, OnErr}
use Rattle.std.proofs.lemmas.Bool.{false≢true}
use Rattle.pf_base.specs.declared.memory.NoMemory.{NoMemory}
use Rattle.pf_reply.specs.declared.refusal.Refusal.TheVariants.{BadCommand}
use Rattle.pf_runs.specs.Runs.{Answers, Step, Stepped}
use Rattle.pf_script.specs.Command.{command_of}
use Rattle.pf_script.specs.declared.command.Command.{Command}
use Rattle.pf_script.specs.declared.command.Command.TheVariants as commands
use Rattle.pf_source.specs.Disk.{Disk, without}
use Rattle.pf_source.specs.Told.{FilesTold, Held, Told, file_of}
use Rattle.pf_state.specs.declared.machine.Machine.{Machine}
use Rattle.pf_engine.specs.declared.outcome.Outcome.{Outcome}
use Rattle.pf_engine.specs.Answering.{Adds, AsksFor, Does, DoesAlone, DoesSo, is_refused, reads_files}
use Rattle.pf_engine.specs.Laws.{ChangesNothing}
use Rattle.pf_engine.specs.Step.{CommandDoes, LineDoes, step}
use Rattle.pf_engine.specs.Whatever.{DoesWhatever}
use Rattle.pf_engine.proofs.Refusing.{leaves}
use Rattle.pf_engine.proofs.Alone.{Quiet, quiet, quiet_bad, quiet_by}
use Rattle.pf_engine.proofs.Asking.{answered_alone, asks_none}

-- what a line does is what its command does
pub steps_so : (disk : Disk) (before : Machine) (line : List ℕ) (command : Option Command) (does : Stepped Machine) → command_of line ≡ command → LineDoes disk before command does → step disk before line does
unfolding step
steps_so disk before line command does is so = subst (λ (c : Option Command). LineDoes disk before c does) (sym is) so

quiet_line : (disk : Disk) (before : Machine) (command : Option Command) (does : Stepped Machine) → reads_files command ≡ false → LineDoes disk before command does → Quiet before does
quiet_line disk before None does reads so = quiet_by before does _ so (quiet_bad before)
quiet_line disk before (Some command) does reads so = quiet disk before command does reads so

does_whatever : (before : Machine) (command : Option Command) (does : Stepped Machine) → reads_files command ≡ false → ((disk : Disk) → LineDoes disk before command does) → DoesWhatever before command does
does_whatever before None does reads so = so
does_whatever before (Some (commands.Load line)) does reads so = absurd (false≢true (sym reads))
does_whatever before (Some (commands.Check line)) does reads so = absurd (false≢true (sym reads))
does_whatever before (Some (commands.Open name line)) does reads so = absurd (false≢true (sym reads))
does_whatever before (Some (commands.Hosts file)) does reads so = absurd (false≢true (sym reads))
does_whatever before (Some command) does reads so = so

-- A line that asks for no file.
module _ (before after : Machine) (line : List ℕ) (command : Option Command) (is : command_of line ≡ command) (reads : reads_files command ≡ false)
    (Doing : Stepped Machine → Type 0) (so : (disk : Disk) (does : Stepped Machine) → Doing does → LineDoes disk before command does) where
  any_disk : Disk
  any_disk name = None

  quietly : (does : Stepped Machine) → Doing does → Quiet before does
  quietly does h = quiet_line any_disk before command does reads (so any_disk does h)

  pub does_alone : (bytes : List ℕ) (refuses : Bool) → DoesSo Doing after bytes refuses → DoesAlone before line after bytes refuses
  does_alone bytes refuses h = record {
    does = h.does;
    steps = λ disk. steps_so disk before line command h.does is (so disk h.does h.so);
    is = h.is;
    alone = (quietly h.does h.so).unread;
  }

  pub answers_alone : (held : Held) (files : FilesTold) (bytes : List ℕ) (refuses : Bool) → DoesSo Doing after bytes refuses → Answers step (file_of held) line before files after files bytes refuses
  answers_alone held files bytes refuses h =
      answered_alone step line before after files bytes refuses (file_of held) h.does (steps_so (file_of held) before line command h.does is (so (file_of held) h.does h.so))
      (quietly h.does h.so).unread h.is

  pub asks_alone : (files : FilesTold) (bytes : List ℕ) (refuses : Bool) → DoesSo Doing after bytes refuses → AsksFor before after files files bytes refuses
  asks_alone files bytes refuses h = asks_none before after h.does bytes refuses files (quietly h.does h.so).asks (quietly h.does h.so).unread h.is

  pub draws_alone : (bytes : List ℕ) (refuses : Bool) → DoesSo Doing after bytes refuses → after.next ≤ before.next + 1
  draws_alone bytes refuses h = subst (λ (m : Machine). m.next ≤ before.next + 1) (sym h.is.machine_is) (quietly h.does h.so).draws

  pub changes_alone : (bytes : List ℕ) → DoesSo Doing after bytes true → ChangesNothing before line after
  changes_alone bytes h =
      subst (λ (m : Machine). ChangesNothing before line m) (sym h.is.machine_is)
      (leaves any_disk before line h.does (steps_so any_disk before line command h.does is (so any_disk h.does h.so)) (sym h.is.refused_is))

  pub whatever_alone : (bytes : List ℕ) (refuses : Bool) → DoesSo Doing after bytes refuses → DoesSo (DoesWhatever before (command_of line)) after bytes refuses
  whatever_alone bytes refuses h = record {
    does = h.does;
    so = subst (λ (c : Option Command). DoesWhatever before c h.does) (sym is) (does_whatever before command h.does reads (λ disk. so disk h.does h.so));
    is = h.is;
  }

-- a line that reads files does whatever its command does
pub whatever_so : (Doing : Stepped Machine → Type 0) (before after : Machine) (line : List ℕ) (command : Option Command) (bytes : List ℕ) (refuses : Bool) → command_of line ≡ command → ((does : Stepped Machine) → Doing does → DoesWhatever before command does) → DoesSo Doing after bytes refuses → DoesSo (DoesWhatever before (command_of line)) after bytes refuses
whatever_so Doing before after line command bytes refuses is turn h = record {
  does = h.does;
  so = subst (λ (c : Option Command). DoesWhatever before c h.does) (sym is) (turn h.does h.so);
  is = h.is;
}

-- it isn't one that reads none
pub reads_some : (line : List ℕ) (command : Option Command) → command_of line ≡ command → reads_files command ≡ true → reads_files (command_of line) ≡ false → ⊥
reads_some line command is reads none = false≢true (sym none ∙ (ap reads_files is ∙ reads))

-- What a line does that asks for files, as a step of it.
pub answers_by_files : (by : Step Machine) (dummy : List ℕ) (before after : Machine) (line : List ℕ) (command : Command) (files files' : FilesTold) (disk : Disk) (bytes : List ℕ) (refuses : Bool) → command_of line ≡ Some command →
    ((disk : Disk) (does : Stepped Machine) → by disk before dummy does → CommandDoes disk before command does) → Answers by disk dummy before files after files' bytes refuses → Answers step disk line before files after files' bytes refuses
answers_by_files by dummy before after line command files files' disk bytes refuses is turn h = record {
  outage = h.outage;
  does = h.does;
  steps = steps_so (without h.outage disk) before line (Some command) h.does is (turn (without h.outage disk) h.does h.steps);
  machine = h.machine;
  replies = h.replies;
  refuses = h.refuses;
  lost = h.lost;
  asks = h.asks;
  sure = h.sure;
}

-- What the words say, and what comes of it.
use Rattle.std.proofs.Common.{◌≡◌, ℕ, ◌+◌, ◌≤◌, List, Option, Some, None, Err, refl, arith, subst}
use Rattle.pf_source.specs.AskingLaws.{CountsOn-none}
use Rattle.pf_source.specs.Causes.{Rose}
use Rattle.pf_source.specs.Told.{Told, file_of}
use Rattle.pf_source.specs.KnownLaws.{Keeps-same}
use Rattle.pf_words.specs.Said.{Task, loads, runs_script, generates}
use Rattle.pfctl.specs.declared.program.Status.{Status}
use Rattle.pfctl.specs.declared.program.Status.TheVariants as status
use Rattle.pfctl.specs.Input.{untouched}
use Rattle.pfctl.specs.Lines.{load_and_test, script}
use Rattle.pfctl.specs.Program.{HasCause, Means, Outside, SummarisesNothing}
use Rattle.pfctl.proofs.Programs.{means_idle}

-- nothing was written of a summary, and no write was tried
summarises_nothing : (before : Outside) → SummarisesNothing before before
summarises_nothing before = record {
  unread = record { files = refl; source = refl };
  written = Keeps-same before.sink.written;
  tries = 0;
  once = omega arith;
  writes = CountsOn-none before.sink.calls;
}

-- nothing was done for want of memory
pub idle_means : (said : Option Task) (before : Outside) → Told before.files.held (λ held. Means said (file_of held) before before status.NoMemory)
idle_means None before = record { at = λ held is. refl }
idle_means (Some (loads words)) before = means_idle (load_and_test words) before
idle_means (Some runs_script) before = means_idle script before
idle_means (Some (generates number)) before = record { at = λ held is. summarises_nothing before }

pub idle_cause : (said : Option Task) (before : Outside) → HasCause said before before status.NoMemory
idle_cause None before = refl
idle_cause (Some (loads words)) before = untouched refl
idle_cause (Some runs_script) before = untouched refl
idle_cause (Some (generates number)) before = (summarises_nothing before, tt)

-- what the words say has another status
pub said_is_read : (task : Task) (before after : Outside) → HasCause (Some task) before after status.Words → ⊥
said_is_read (loads words) before after h = h
said_is_read runs_script before after h = h
said_is_read (generates number) before after h = h.0

rose_nowhere : Rose 0 0 → ⊥
rose_nowhere h = let by = h.by in omega arith

-- objects without faults have none
no_read_fault_at : (said : Option Task) (before after : Outside) → before.source.faults ≡ 0 → after.source.faults ≡ 0 → HasCause said before after status.ReadFault → ⊥
no_read_fault_at None before after old new h = h
no_read_fault_at (Some (loads words)) before after old new h = rose_nowhere (rw (old, new) at h.failed)
no_read_fault_at (Some runs_script) before after old new h = rose_nowhere (rw (old, new) at h.failed)
no_read_fault_at (Some (generates number)) before after old new h = h.0

no_write_fault_at : (said : Option Task) (before after : Outside) → before.sink.faults ≡ 0 → after.sink.faults ≡ 0 → HasCause said before after status.WriteFault → ⊥
no_write_fault_at None before after old new h = h
no_write_fault_at (Some (loads words)) before after old new h = rose_nowhere (rw (old, new) at h.0)
no_write_fault_at (Some runs_script) before after old new h = rose_nowhere (rw (old, new) at h.0)
no_write_fault_at (Some (generates number)) before after old new h = rose_nowhere (rw (old, new) at h.1)

pub no_read_fault : (said : Option Task) (before after : Outside) (got : Status) → before.source.faults ≡ 0 → after.source.faults ≡ 0 → HasCause said before after got → got ≡ status.ReadFault → ⊥
no_read_fault said before after got old new h is = no_read_fault_at said before after old new (subst (λ (s : Status). HasCause said before after s) is h)

pub no_write_fault : (said : Option Task) (before after : Outside) (got : Status) → before.sink.faults ≡ 0 → after.sink.faults ≡ 0 → HasCause said before after got → got ≡ status.WriteFault → ⊥
no_write_fault said before after got old new h is = no_write_fault_at said before after old new (subst (λ (s : Status). HasCause said before after s) is h)

-- words that say something aren't refused
pub said_is_no_words : (task : Task) (before after : Outside) (got : Status) → HasCause (Some task) before after got → got ≡ status.Words → ⊥
said_is_no_words task before after got h is = said_is_read task before after (subst (λ (s : Status). HasCause (Some task) before after s) is h)

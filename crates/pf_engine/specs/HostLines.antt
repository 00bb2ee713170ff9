-- `hosts FILE`: the facts of the host are those of the file.
use Rattle.std.specs.Prelude.{◌≡◌, ℕ, nat_lt, Bool, true, false, List, length, Option, Some, None, Result, Ok, Err}
use Rattle.pf_host.specs.Facts.{HostFacts}
use Rattle.pf_host.specs.Meaning.{IsFactsText, IsFaultAt}
use Rattle.pf_host.specs.declared.fault.FactsCause.{FactsCause}
use Rattle.pf_reply.specs.declared.refusal.Refusal.{Refusal}
use Rattle.pf_reply.specs.declared.refusal.Refusal.TheVariants as refusals
use Rattle.pf_reply.specs.declared.reply.Reply.TheVariants.{Hosts}
use Rattle.pf_runs.specs.Runs.{Stepped}
use Rattle.pf_source.specs.Disk.{Disk}
use Rattle.pf_state.specs.declared.machine.Machine.{Machine}
use Rattle.pf_engine.specs.LoadLines.{most_bytes}
use Rattle.pf_engine.specs.Steps.{done, refused}

-- the first line of the text that is outside the form, for some cause
pub record HasFault (text : List ℕ) (line : ℕ) : Type 0 where
  pub cause : FactsCause
  pub fault : IsFaultAt text line cause

abbrev pub FactsSay : List ℕ → Result HostFacts Refusal → Type 0
FactsSay text (Ok facts) = IsFactsText text facts
FactsSay text (Err (refusals.FactsFault line)) = HasFault text line
FactsSay text (Err refusal) = ⊥

-- the same of a text that may be too large; line 0 stands for the whole file
abbrev pub FactsSized : Bool → List ℕ → Result HostFacts Refusal → Type 0
FactsSized true text answer = answer ≡ Err (refusals.FactsFault 0)
FactsSized false text answer = FactsSay text answer

-- what a file comes to that may be absent
abbrev pub FactsIn : List ℕ → Option (List ℕ) → Result HostFacts Refusal → Type 0
FactsIn name None answer = answer ≡ Err (refusals.CannotRead name)
FactsIn name (Some text) answer = FactsSized (nat_lt most_bytes (length text)) text answer

abbrev pub with_facts : Machine → Result HostFacts Refusal → Stepped Machine
with_facts machine (Ok facts) = done (record machine { facts = facts }) (Hosts (length facts.interfaces))
with_facts machine (Err refusal) = refused machine refusal

pub record HostsDoes (disk : Disk) (machine : Machine) (file : List ℕ) (does : Stepped Machine) : Type 0 where
  pub answer : Result HostFacts Refusal
  pub reads : FactsIn file (disk file) answer
  pub is : does ≡ with_facts machine answer

-- what a facts file may come to, whatever it holds: some facts, or a refusal, since it can't be read, is too large, or a line of it is outside
-- the form
abbrev pub FactsMayCome : List ℕ → Result HostFacts Refusal → Type 0
FactsMayCome file (Ok facts) = Unit {0}
FactsMayCome file (Err (refusals.CannotRead name)) = name ≡ file
FactsMayCome file (Err (refusals.FactsFault line)) = Unit {0}
FactsMayCome file (Err refusal) = ⊥

-- the file comes to some facts or to a refusal for it, and this is done with it
pub record TakesFacts (machine : Machine) (file : List ℕ) (does : Stepped Machine) : Type 0 where
  pub answer : Result HostFacts Refusal
  pub comes : FactsMayCome file answer
  pub is : does ≡ with_facts machine answer

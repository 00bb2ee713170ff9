-- What the target of a translation means (pf.conf(5), TRANSLATION): one address without a mask, and a port where one is written.
use Rattle.std.specs.Prelude.{◌≡◌, ℕ, List, [], ◌∷◌, Result, Ok, Err, Option, Some, None}
use Rattle.pf_base.specs.declared.fault.FaultKind.{FaultKind}
use Rattle.pf_addr.specs.declared.addr.Addr.{Addr}
use Rattle.pf_host.specs.Facts.{HostFacts}
use Rattle.pf_rule.specs.declared.translation.Target.{Target}
use Rattle.pf_syntax.specs.declared.form.TargetWords.{TargetWords}
use Rattle.pf_word.specs.Hosts.{AddressMeans}
use Rattle.pf_word.specs.Numbers.{port_of}
use Rattle.pf_word.specs.Words.{failed, found}
use Rattle.pf_word.specs.declared.words.Words.{Words}

abbrev pub as_some : Result ℕ FaultKind → Result (Option ℕ) FaultKind
as_some (Ok port) = Ok (Some port)
as_some (Err fault) = Err fault

-- the port, where one is written
abbrev pub target_port : HostFacts → Option (List ℕ) → Result (Option ℕ) FaultKind
target_port facts None = Ok None
target_port facts (Some word) = as_some (port_of facts word word)

-- the target, or the faults of its words, the address's first
abbrev pub target_of : Result Addr FaultKind → Result (Option ℕ) FaultKind → Words Target
target_of (Ok addr) (Ok port) = found (record { addr = addr; port = port })
target_of (Ok addr) (Err fault) = failed fault
target_of (Err fault) (Ok port) = failed fault
target_of (Err fault) (Err second) = record { values = []; faults = fault ∷ second ∷ [] }

pub record TargetMeans (facts : HostFacts) (target : TargetWords) (words : Words Target) : Type 0 where
  pub addr : Result Addr FaultKind
  pub address : AddressMeans target.addr addr
  pub are : words ≡ target_of addr (target_port facts target.port)

use Rattle.pf_host.proofs.OneFault.{apart, one_fault}
use Rattle.pf_host.proofs.laws.facts_and_one_fault_exclude_each_other.Goals as goal

pub returns-clause-apart : goal.returns-clause-apart
returns-clause-apart c = apart

pub returns-clause-one : goal.returns-clause-one
returns-clause-one c = one_fault

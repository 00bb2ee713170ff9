use Rattle.pf_auto.proofs.Both.{names_these, numbered}
use Rattle.pf_auto.proofs.laws.tables_are_numbered_on.Goals as goal

pub returns : goal.returns
returns c = record { numbers = numbered; names = names_these }

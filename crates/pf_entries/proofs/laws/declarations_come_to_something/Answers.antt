use Rattle.pf_entries.proofs.Something.{table_comes}
use Rattle.pf_entries.proofs.laws.declarations_come_to_something.Goals as goal

pub returns : goal.returns
returns c = table_comes

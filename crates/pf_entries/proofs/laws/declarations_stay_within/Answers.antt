use Rattle.pf_entries.proofs.Staying.{table_stays}
use Rattle.pf_entries.proofs.laws.declarations_stay_within.Goals as goal

pub returns : goal.returns
returns c = table_stays

use Rattle.pf_entries.proofs.OneTable.{table_without}
use Rattle.pf_entries.proofs.laws.declarations_without_a_file.Goals as goal

pub returns : goal.returns
returns c = table_without

use Rattle.pf_reread.proofs.SetsBack.{ids_back, ports_back}
use Rattle.pf_reread.proofs.law.printed_sets_read_back.Goals as goal

pub returns : goal.returns
returns c = record { ports = ports_back; ids = ids_back }

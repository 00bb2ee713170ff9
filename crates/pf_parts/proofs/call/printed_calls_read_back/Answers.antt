use Rattle.pf_parts.proofs.CallBack.{read_back}
use Rattle.pf_parts.proofs.call.printed_calls_read_back.Goals as goal

pub returns : goal.returns
returns c = read_back

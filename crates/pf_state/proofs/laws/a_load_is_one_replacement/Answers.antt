use Rattle.pf_state.proofs.Replacing.{replaced}
use Rattle.pf_state.proofs.laws.a_load_is_one_replacement.Goals as goal

pub returns : goal.returns
returns c = replaced

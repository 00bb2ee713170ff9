use Rattle.pf_addr.proofs.Short.{with_zeros_is}
use Rattle.pf_addr.proofs.parse.with_zeros.Goals as goal

pub returns : goal.returns
returns c = with_zeros_is _ _ _ _ _ c.copy_from_slice.ensures.after c.copy_from_slice-2.ensures.after

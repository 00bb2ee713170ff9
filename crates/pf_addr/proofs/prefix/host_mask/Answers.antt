use Rattle.std.proofs.Common.{◌∙◌, arith, ◌-◌}
use Rattle.pf_addr.proofs.Stretches.{mask_is}
use Rattle.pf_addr.proofs.prefix.host_mask.Goals as goal

pub returns : goal.returns
returns c = c.without_last.ensures ∙ mask_is c.args.bits (128 - c.args.bits) (omega arith)

use Rattle.pf_optim.proofs.Bare.{new_is_bare}
use Rattle.pf_optim.proofs.node.NodeBlank.fresh.Goals as goal

pub returns : goal.returns
returns c = new_is_bare c.new.result c.new-2.result c.new.ensures c.new-2.ensures

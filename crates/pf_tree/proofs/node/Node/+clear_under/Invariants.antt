use Rattle.std.proofs.Common.{length}
use Rattle.pf_tree.proofs.node.Node.+clear_under.Given as goal

abbrev pub decreases-clear_under : goal.decreases-clear_under
decreases-clear_under g l = length l.names.now

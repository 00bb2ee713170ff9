use Rattle.std.proofs.Common.{length}
use Rattle.pf_tree.proofs.node.Node.+grow.Given as goal

abbrev pub decreases-grow : goal.decreases-grow
decreases-grow g l = length l.names.now

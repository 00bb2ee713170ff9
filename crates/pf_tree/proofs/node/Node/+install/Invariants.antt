use Rattle.std.proofs.Common.{length}
use Rattle.pf_tree.proofs.node.Node.+install.Given as goal

abbrev pub decreases-install : goal.decreases-install
decreases-install g l = length l.names.now

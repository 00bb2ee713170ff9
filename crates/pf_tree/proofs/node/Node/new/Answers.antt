use Rattle.pf_tree.proofs.Nodes.{fresh_prepared}
use Rattle.pf_tree.proofs.node.Node.new.Goals as goal

pub returns-clause-prepared : goal.returns-clause-prepared
returns-clause-prepared g c = fresh_prepared g.P.Blank.is_blank (λ child. child.value) c.fresh.result c.new.result.entries c.new.ensures.empty

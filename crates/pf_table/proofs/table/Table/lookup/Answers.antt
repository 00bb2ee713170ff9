use Rattle.pf_table.proofs.Members.{looked_none, looked_some}
use Rattle.pf_table.proofs.table.Table.lookup.Goals as goal

pub returns-in-None : goal.returns-in-None
returns-in-None c = looked_none c.args.self.now c.self.inside.nodes.items c.deref.result.now c.args.addr.now c.of.result c.self.view_is c.self.invariant.trie c.deref.ensures.value c.of.ensures.value c.in-None.ensures

pub returns-in-Some : goal.returns-in-Some
returns-in-Some c = looked_some c.args.self.now c.self.inside.nodes.items c.deref.result.now c.args.addr.now c.of.result c.in-Some.negated c.self.view_is c.self.invariant.trie c.deref.ensures.value c.of.ensures.value c.in-Some.ensures

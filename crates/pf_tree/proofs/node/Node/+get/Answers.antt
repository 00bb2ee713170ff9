use Rattle.std.proofs.Common.{Some, None, ap, ◌∙◌}
use Rattle.std.specs.FinMap as fin
use Rattle.pf_tree.proofs.Nodes.{get_through}
use Rattle.pf_tree.proofs.node.Node.+get.Goals as goal

pub returns-in-None-get-clause-value : goal.returns-in-None-get-clause-value
returns-in-None-get-clause-value g t c = get_through g.P.Blank.is_blank (λ child. child.value) c.self.inside.payload c.self.inside.children.entries c.args.self.now c.self.view_is c.self.invariant c.args.names.now c.in-Some.name.now c.in-Some.below.now c.in-Some.ensures.cases.0 None c.in-None-get.ensures.value

pub returns-in-Some-get-clause-value : goal.returns-in-Some-get-clause-value
returns-in-Some-get-clause-value g t c = c.get-in-Some-get.ensures.value ∙ ap (λ n. fin.get n.payloads c.in-Some.below.now) c.deref.ensures ∙ get_through g.P.Blank.is_blank (λ child. child.value) c.self.inside.payload c.self.inside.children.entries c.args.self.now c.self.view_is c.self.invariant c.args.names.now c.in-Some.name.now c.in-Some.below.now c.in-Some.ensures.cases.0 (Some c.in-Some-get.child.now) c.in-Some-get.ensures.value

use Rattle.std.proofs.Common.{sym, ◌∙◌}
use Rattle.pf_tree.proofs.Nodes.{own_blank, own_shown}
use Rattle.pf_tree.proofs.node.Node.own_payload.Goals as goal

pub returns-then-is_blank-clause-value : goal.returns-then-is_blank-clause-value
returns-then-is_blank-clause-value g c = sym (own_blank g.P.Blank.is_blank (λ child. child.value) c.self.inside.payload c.self.inside.children.entries c.args.self.now c.self.view_is (sym c.is_blank.ensures ∙ c.if-is_blank.true))

pub returns-clause-value : goal.returns-clause-value
returns-clause-value g c = sym (own_shown g.P.Blank.is_blank (λ child. child.value) c.self.inside.payload c.self.inside.children.entries c.args.self.now c.self.view_is (sym c.is_blank.ensures ∙ c.if-is_blank.false))

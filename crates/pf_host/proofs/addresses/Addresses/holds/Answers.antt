use Rattle.std.proofs.Common.{◌∙◌}
use Rattle.pf_host.proofs.Found.{held}
use Rattle.pf_host.proofs.addresses.Addresses.holds.Goals as goal

pub returns : goal.returns
returns c =
    rw (← c.self.view_is) (rw c.get.ensures at c.any_chosen.ensures ∙ held c.self.inside.rows c.args.what.now c.args.addr.now c.args.iface.now c.self.invariant.firsts)

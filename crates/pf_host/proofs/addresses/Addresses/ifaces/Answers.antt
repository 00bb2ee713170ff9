use Rattle.pf_host.proofs.Found.{listed_shown}
use Rattle.pf_host.proofs.addresses.Addresses.ifaces.Goals as goal

pub returns : goal.returns
returns c = rw (← c.self.view_is, c.items.ensures) (listed_shown c.self.inside.ifaces c.self.inside.rows c.self.invariant.listed)

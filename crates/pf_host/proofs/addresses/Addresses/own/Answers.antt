use Rattle.pf_host.proofs.Found.{own_shown}
use Rattle.pf_host.proofs.addresses.Addresses.own.Goals as goal

pub returns : goal.returns
returns c = rw (← c.self.view_is, c.get.ensures) (own_shown c.self.inside.rows c.args.iface.now)

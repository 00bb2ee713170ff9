use Rattle.std.proofs.Common.{◌∙◌}
use Rattle.pf_host.proofs.Found.{found}
use Rattle.pf_host.proofs.facts.Facts.finds.Goals as goal

pub returns : goal.returns
returns c =
    c.any_reaches.ensures ∙ found c.args.self.now c.args.what.now c.args.addr.now c.ifaces.result.now (rw (← c.self.view_is) c.ifaces.ensures)

use Rattle.std.proofs.Common.{◌∙◌}
use Rattle.pf_host.proofs.Found.{beside_of_name}
use Rattle.pf_host.proofs.addresses.has_beside.Goals as goal

pub returns : goal.returns
returns c = rw c.get.ensures at c.has_family.ensures ∙ beside_of_name c.args.known.now c.args.iface.now c.args.address.now

use Rattle.std.proofs.Common.{arith}
use Rattle.pf_addr.specs.NetworkLaws.{network-width, network-host_bits}
use Rattle.pf_addr.proofs.parse.prefix_of.Goals as goal

pub invariant_of-result : goal.invariant_of-result
invariant_of-result c = record {
  fits = rw (c.network.ensures, network-width c.args.addr c.in-Ok.len) (omega arith);
  no_host_bits = rw c.network.ensures (network-host_bits c.args.addr c.in-Ok.len);
}

use Rattle.std.proofs.Common.{arith, refl}
use Rattle.pf_addr.specs.NetworkLaws.{network-width, network-host_bits}
use Rattle.pf_table.proofs.Leading.{leading-network}
use Rattle.pf_table.proofs.bits.front.Goals as goal

pub network-requires : goal.network-requires
network-requires c = let fits = c.args.prefix.now.fits in omega arith

pub invariant_of-result : goal.invariant_of-result
invariant_of-result c = record {
  fits = rw (c.network.ensures, network-width c.args.prefix.now.addr c.args.len) (let fits = c.args.prefix.now.fits in omega arith);
  no_host_bits = rw c.network.ensures (network-host_bits c.args.prefix.now.addr c.args.len);
}

pub returns : goal.returns
returns c = record {
  family = rw c.network.ensures (network-width c.args.prefix.now.addr c.args.len);
  long = refl;
  bits = rw c.network.ensures (leading-network c.args.prefix.now.addr c.args.len);
}

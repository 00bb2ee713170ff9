use Rattle.std.proofs.Common.{◌∙◌}
use Rattle.std.specs.Net.Addr.{ipv6_bits, ipv6_segments}
use Rattle.pf_addr.proofs.Values.{hex_value}
use Rattle.pf_addr.proofs.parse.parse_ipv6.Goals as goal

pub returns-in-Ok : goal.returns-in-Ok
unfolding ipv6_bits
returns-in-Ok c = record {
  groups = ipv6_segments c.in-Ok.addr;
  hex = c.in-Ok.ensures;
  value = c.to_bits.ensures ∙ hex_value _ _ c.in-Ok.ensures;
}

pub returns-in-Err : goal.returns-in-Err
returns-in-Err c n h = c.in-Err.ensures (record { segments = h.groups }) h.hex

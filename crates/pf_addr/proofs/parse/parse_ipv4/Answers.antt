use Rattle.std.proofs.Common.{◌∙◌}
use Rattle.std.specs.Net.Addr.{ipv4_bits, ipv4_octets}
use Rattle.pf_addr.proofs.Values.{dotted_value}
use Rattle.pf_addr.proofs.parse.parse_ipv4.Goals as goal

pub returns-in-Ok : goal.returns-in-Ok
unfolding ipv4_bits
returns-in-Ok c = record {
  octets = ipv4_octets c.in-Ok.addr;
  dotted = c.in-Ok.ensures;
  value = c.to_bits.ensures ∙ dotted_value _ _ c.in-Ok.ensures;
}

pub returns-in-Err : goal.returns-in-Err
returns-in-Err c n h = c.in-Err.ensures (record { octets = h.octets }) h.dotted

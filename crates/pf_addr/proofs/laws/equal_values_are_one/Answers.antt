use Rattle.pf_addr.specs.AddrOrder.{addr_cmp-total, addrs}
use Rattle.pf_addr.specs.PrefixOrder.{prefix_cmp-total, prefixes}
use Rattle.pf_addr.specs.RangeOrder.{ranges}
use Rattle.pf_addr.specs.EqualLaws.{addrs_level, families_by_width, prefixes_level}
use Rattle.pf_addr.proofs.laws.equal_values_are_one.Goals as goal

pub returns : goal.returns
returns c = record {
  addresses = addrs.decides;
  prefixes = prefixes.decides;
  ranges = ranges.decides;
  level_addresses = addrs_level;
  level_prefixes = prefixes_level;
  addr_order = addr_cmp-total;
  prefix_order = prefix_cmp-total;
  families = families_by_width;
}

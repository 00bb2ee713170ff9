use Rattle.std.proofs.Common.{◌≡◌, take, map, ◌++◌}
use Rattle.pf_addr.specs.Prefix.{whole}
use Rattle.pf_word.proofs.host.whole_prefixes.Given as goal

abbrev pub invariant-loop-addr : goal.invariant-loop-addr
invariant-loop-addr l = l.prefixes ≡ map whole (take l.addr-index l.addrs)

use Rattle.std.proofs.Common.{◌≡◌, take, map, ◌++◌}
use Rattle.pf_word.specs.Hosts.{prefix_tests}
use Rattle.pf_word.proofs.item.add_prefixes.Given as goal

abbrev pub invariant-loop-prefix : goal.invariant-loop-prefix
invariant-loop-prefix l = l.values ≡ l.initial.values ++ prefix_tests l.negated (take l.prefix-index l.prefixes)

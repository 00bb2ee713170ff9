use Rattle.std.proofs.Common.{◌≡◌, take, map, ◌++◌}
use Rattle.pf_combine.specs.Antispoof.{from_prefix, of_written}
use Rattle.pf_combine.proofs.antispoof.add_prefixes.Given as goal

abbrev pub invariant-loop-prefix : goal.invariant-loop-prefix
invariant-loop-prefix l = l.found ≡ take l.room (l.initial.found ++ map (from_prefix l.start l.test) (of_written l.written (take l.prefix-index l.prefixes)))

use Rattle.std.proofs.Common.{◌≡◌, take, map, filter, ◌++◌}
use Rattle.std.specs.List.{filter_map}
use Rattle.pf_expand.specs.Readings.{unknown_name}
use Rattle.pf_expand.proofs.readings.add_unknown_names.Given as goal

abbrev pub invariant-loop-test : goal.invariant-loop-test
invariant-loop-test l = l.faults ≡ l.initial.faults ++ filter_map (unknown_name l.facts) (take l.test-index l.tests)

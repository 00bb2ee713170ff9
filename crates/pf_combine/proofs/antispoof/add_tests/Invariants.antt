use Rattle.std.proofs.Common.{◌≡◌, take, ◌++◌}
use Rattle.std.specs.List.{flat_map}
use Rattle.pf_combine.specs.Antispoof.{of_test}
use Rattle.pf_combine.proofs.antispoof.add_tests.Given as goal

abbrev pub invariant-loop-test : goal.invariant-loop-test
invariant-loop-test l = l.found ≡ take l.room (l.initial.found ++ flat_map (of_test l.facts l.written l.start) (take l.test-index l.list))

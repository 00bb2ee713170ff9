use Rattle.std.proofs.Common.{◌≡◌, take, filter, ◌++◌}
use Rattle.std.specs.List.{flat_map}
use Rattle.pf_host.specs.Queries.{is_meant}
use Rattle.pf_combine.specs.Antispoof.{of_iface}
use Rattle.pf_combine.proofs.antispoof.add_name.Given as goal

abbrev pub invariant-loop-iface : goal.invariant-loop-iface
invariant-loop-iface l = l.found ≡ take l.room (l.initial.found ++ flat_map (of_iface l.facts l.written l.start) (filter (is_meant l.facts l.name) (take l.iface-index l.iface-items)))

-- `antispoof` (pf.conf(5), "antispoof"): of each interface that a name means its own networks, which may come in on no other, and
-- then its own addresses, which may come in on none, unless it is a loopback interface.
use Rattle.std.specs.Prelude.{ℕ, true, false, List, [], ◌++◌, map, filter, codes, Option, Some, if◌then◌else◌}
use Rattle.std.specs.List.{flat_map}
use Rattle.pf_base.specs.declared.kind.Family.{Family}
use Rattle.pf_addr.specs.Addr.{family_of}
use Rattle.pf_addr.specs.declared.prefix.Prefix.{Prefix}
use Rattle.pf_host.specs.Facts.{HostFacts}
use Rattle.pf_host.specs.Queries.{in_group, is_meant, own_addresses}
use Rattle.pf_parts.specs.declared.matching.IfTest.{IfTest}
use Rattle.pf_parts.specs.declared.matching.IfTest.TheVariants as ifaces
use Rattle.pf_rule.specs.declared.criteria.AddrSet.TheVariants as sets
use Rattle.pf_rule.specs.declared.criteria.AddrTest.TheVariants as tests
use Rattle.pf_rule.specs.declared.criteria.Criteria.{Criteria}
use Rattle.pf_combine.specs.Walk.{fits}

-- those of the written family
abbrev pub of_written : Option Family → List Prefix → List Prefix
of_written written prefixes = filter (λ prefix. fits written (Some (family_of prefix.addr))) prefixes

-- from a prefix, on this interface test
abbrev pub from_prefix : Criteria → IfTest → Prefix → Criteria
from_prefix start test prefix = record start { iface = test; family = Some (family_of prefix.addr); source = tests.Test false (sets.Prefix prefix) }

-- a network of an interface on every other
abbrev pub elsewhere : List ℕ → IfTest
elsewhere iface = ifaces.On iface true

abbrev pub loopback : List ℕ
loopback = codes "lo"

-- the rules of one interface
abbrev pub of_iface : HostFacts → Option Family → Criteria → List ℕ → List Criteria
of_iface facts written start iface =
    map (from_prefix start (elsewhere iface)) (of_written written (own_addresses facts iface true))
    ++ (if in_group facts loopback iface then [] else map (from_prefix start ifaces.Any) (of_written written (own_addresses facts iface false)))

-- those of each interface that a name means, in the order of the facts; `self` means all
abbrev pub of_name : HostFacts → Option Family → Criteria → List ℕ → List Criteria
of_name facts written start name = flat_map (of_iface facts written start) (filter (is_meant facts name) facts.interfaces)

abbrev pub of_test : HostFacts → Option Family → Criteria → IfTest → List Criteria
of_test facts written start ifaces.Any = []
of_test facts written start (ifaces.On name negated) = of_name facts written start name

abbrev pub of_tests : HostFacts → Option Family → Criteria → List IfTest → List Criteria
of_tests facts written start list = flat_map (of_test facts written start) list

-- When one rule covers another (pf.conf(5), "set ruleset-optimization": a rule that is a subset of another rule is
-- removed). It is told criterion by criterion, by the rules' text alone: what a table or an interface has at the
-- moment plays no part.
use Rattle.std.specs.Prelude.{List, [], ◌∷◌, Bool, true, false, not, ◌&&◌, ◌||◌, Option, Some, None}
use Rattle.pf_addr.specs.Stretch.{encloses, prefix_stretch, range_stretch}
use Rattle.pf_addr.specs.declared.stretch.Stretch.{Stretch}
use Rattle.pf_base.specs.Equality.{Equality, numbers, truths}
use Rattle.pf_base.specs.Kinds.{families}
use Rattle.pf_ops.specs.Equal.{icmp_types, tcp_flags}
use Rattle.pf_ops.specs.Numbers as sets
use Rattle.pf_ops.specs.declared.numbers.Numbers.{Numbers}
use Rattle.pf_parts.specs.Equal.{directions, interface_tests, tag_tests}
use Rattle.pf_parts.specs.declared.matching.IfTest.{IfTest}
use Rattle.pf_parts.specs.declared.matching.IfTest.TheVariants as interface
use Rattle.pf_parts.specs.declared.matching.TagTest.{TagTest}
use Rattle.pf_parts.specs.declared.matching.TagTest.TheVariants as tag
use Rattle.pf_rule.specs.Equal.{address_sets}
use Rattle.pf_rule.specs.Hit.{all_hold}
use Rattle.pf_rule.specs.declared.criteria.AddrSet.{AddrSet}
use Rattle.pf_rule.specs.declared.criteria.AddrSet.TheVariants.{Prefix, Range, Table, Dynamic, Auto}
use Rattle.pf_rule.specs.declared.criteria.AddrTest.{AddrTest}
use Rattle.pf_rule.specs.declared.criteria.AddrTest.TheVariants as address
use Rattle.pf_rule.specs.declared.criteria.Criteria.{Criteria}

-- a criterion that isn't given covers every one, and none that is given covers it; of two that are given the test tells
abbrev pub given_covers : {A : Type 0} → (A → A → Bool) → Option A → Option A → Bool
given_covers test None narrow = true
given_covers test (Some wide) None = false
given_covers test (Some wide) (Some narrow) = test wide narrow

-- one that isn't given covers every one, and one that is given only its equal
abbrev pub equal_covers : {A : Type 0} → Equality A → Option A → Option A → Bool
equal_covers equal = given_covers equal.same

-- a set of ports, users or groups covers its subsets
abbrev pub numbers_cover : Option Numbers → Option Numbers → Bool
numbers_cover = given_covers sets.covers

-- `on`: any interface covers every test, a given one only its equal
abbrev pub interface_covers : IfTest → IfTest → Bool
interface_covers interface.Any narrow = true
interface_covers (interface.On name negated) narrow = interface_tests.same (interface.On name negated) narrow

-- `tagged`: the same
abbrev pub tag_covers : TagTest → TagTest → Bool
tag_covers tag.Any narrow = true
tag_covers (tag.Is name negated) narrow = tag_tests.same (tag.Is name negated) narrow

-- the addresses of a prefix or a range, which lie side by side. Those of a table, of an interface and of an automatic
-- table aren't known from the rule.
abbrev pub stretch_of : AddrSet → Option Stretch
stretch_of (Prefix prefix) = Some (prefix_stretch prefix)
stretch_of (Range range) = Some (range_stretch range)
stretch_of (Table name) = None
stretch_of (Dynamic what) = None
stretch_of (Auto number) = None

-- both are stretches, and the second lies inside the first
abbrev pub lies_inside : Option Stretch → Option Stretch → Bool
lies_inside None narrow = false
lies_inside (Some wide) None = false
lies_inside (Some wide) (Some narrow) = encloses wide narrow

-- two sets of addresses, each with its `!`: they are equal, or both are prefixes or ranges without `!`, and the second
-- lies inside the first
abbrev pub set_covers : Bool → AddrSet → Bool → AddrSet → Bool
set_covers negated wide turned narrow =
    (truths.same negated turned && address_sets.same wide narrow)
    || ((not negated && not turned) && lies_inside (stretch_of wide) (stretch_of narrow))

-- `from` and `to`: any address covers every test
abbrev pub address_covers : AddrTest → AddrTest → Bool
address_covers address.Any narrow = true
address_covers (address.Test negated wide) address.Any = false
address_covers (address.Test negated wide) (address.Test turned narrow) = set_covers negated wide turned narrow

-- the eight skip fields, in the order of their numbers
abbrev pub skip_covers : Criteria → Criteria → List Bool
skip_covers wide narrow =
    interface_covers wide.iface narrow.iface
    ∷ equal_covers directions wide.direction narrow.direction
    ∷ equal_covers families wide.family narrow.family
    ∷ equal_covers numbers wide.proto narrow.proto
    ∷ address_covers wide.source narrow.source
    ∷ numbers_cover wide.source_port narrow.source_port
    ∷ address_covers wide.target narrow.target
    ∷ numbers_cover wide.target_port narrow.target_port
    ∷ []

-- the other criteria
abbrev pub other_covers : Criteria → Criteria → List Bool
other_covers wide narrow =
    numbers_cover wide.user narrow.user
    ∷ numbers_cover wide.group narrow.group
    ∷ equal_covers tcp_flags wide.flags narrow.flags
    ∷ equal_covers icmp_types wide.icmp narrow.icmp
    ∷ equal_covers numbers wide.tos narrow.tos
    ∷ equal_covers numbers wide.prio narrow.prio
    ∷ tag_covers wide.tagged narrow.tagged
    ∷ []

-- criteria cover others where each of them covers the other's
unfoldable pub covers : Criteria → Criteria → Bool
covers wide narrow = all_hold (skip_covers wide narrow) && all_hold (other_covers wide narrow)

-- What the rules of a statement are like: they name no automatic table, each is of one family or of none, and `floating` is off.
use Rattle.std.specs.Prelude.{Bool, true, false, ◌&&◌, not, List, ◌++◌, Option, Some, None}
use Rattle.std.specs.List.{list_all}
use Rattle.std.specs.Option.{option_map, option_to_list}
use Rattle.pf_base.specs.declared.kind.Family.{Family}
use Rattle.pf_combine.specs.Combinations.{is_same}
use Rattle.pf_combine.specs.Members.{family_of_test}
use Rattle.pf_ops.specs.declared.flags.IcmpType.{IcmpType}
use Rattle.pf_rule.specs.declared.criteria.AddrSet.TheVariants as sets
use Rattle.pf_rule.specs.declared.criteria.AddrTest.{AddrTest}
use Rattle.pf_rule.specs.declared.criteria.AddrTest.TheVariants as tests
use Rattle.pf_rule.specs.declared.criteria.Criteria.{Criteria}
use Rattle.pf_rule.specs.declared.rule.Rule.{Rule}

-- the test names no automatic table, which only an optimiser makes
abbrev pub tests_no_auto : AddrTest → Bool
tests_no_auto tests.Any = true
tests_no_auto (tests.Test negated (sets.Prefix prefix)) = true
tests_no_auto (tests.Test negated (sets.Range range)) = true
tests_no_auto (tests.Test negated (sets.Table name)) = true
tests_no_auto (tests.Test negated (sets.Dynamic what)) = true
tests_no_auto (tests.Test negated (sets.Auto number)) = false

-- neither end of the rule names one
abbrev pub has_no_auto : Rule → Bool
has_no_auto rule = tests_no_auto rule.criteria.source && tests_no_auto rule.criteria.target

-- the family of an ICMP type
abbrev pub icmp_family : IcmpType → Family
icmp_family icmp = icmp.family

-- the families that a rule's ICMP type, source and target name
abbrev pub tested_families : Criteria → List Family
tested_families criteria =
    option_to_list (option_map icmp_family criteria.icmp) ++ option_to_list (family_of_test criteria.source) ++ option_to_list (family_of_test criteria.target)

-- the rule is of this family
abbrev pub is_of : Option Family → Family → Bool
is_of None family = false
is_of (Some whole) family = is_same whole family

-- each family that its tests name is the rule's
abbrev pub is_of_one_family : Rule → Bool
is_of_one_family rule = list_all (is_of rule.criteria.family) (tested_families rule.criteria)

-- `floating` is off: it has done its work, against the state policy of the moment
abbrev pub is_settled : Rule → Bool
is_settled rule = not rule.effect.options.floating

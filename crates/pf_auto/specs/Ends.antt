-- The two ends of a rule, and the prefix at one of them.
use Rattle.std.specs.Prelude.{true, false, Option, Some, None}
use Rattle.pf_addr.specs.declared.prefix.Prefix.{Prefix as AddrPrefix}
use Rattle.pf_auto.specs.declared.place.End.{End}
use Rattle.pf_auto.specs.declared.place.End.TheVariants.{Source, Target}
use Rattle.pf_rule.specs.declared.criteria.AddrSet.TheVariants.{Prefix, Range, Table, Dynamic, Auto}
use Rattle.pf_rule.specs.declared.criteria.AddrTest.{AddrTest}
use Rattle.pf_rule.specs.declared.criteria.AddrTest.TheVariants.{Any, Test}
use Rattle.pf_rule.specs.declared.rule.Rule.{Rule}

-- the test of the source, or of the target
abbrev pub test_at : End → Rule → AddrTest
test_at Source rule = rule.criteria.source
test_at Target rule = rule.criteria.target

-- the rule with this test there
abbrev pub with_test : End → AddrTest → Rule → Rule
with_test Source test rule = record rule { criteria = record rule.criteria { source = test } }
with_test Target test rule = record rule { criteria = record rule.criteria { target = test } }

-- the prefix of a test for one prefix without `!`
abbrev pub prefix_of : AddrTest → Option AddrPrefix
prefix_of Any = None
prefix_of (Test true what) = None
prefix_of (Test false (Prefix prefix)) = Some prefix
prefix_of (Test false (Range range)) = None
prefix_of (Test false (Table name)) = None
prefix_of (Test false (Dynamic what)) = None
prefix_of (Test false (Auto number)) = None

abbrev pub prefix_at : End → Rule → Option AddrPrefix
prefix_at end rule = prefix_of (test_at end rule)

-- what a rule is beside its test there
abbrev pub beside : End → Rule → Rule
beside end rule = with_test end Any rule

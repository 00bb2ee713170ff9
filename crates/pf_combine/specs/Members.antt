-- The members of a statement's lists: what one of them gives a rule (pf.conf(5), lists and PARAMETERS).
use Rattle.std.specs.Prelude.{List, [], ◌∷◌, Option, Some, None}
use Rattle.pf_base.specs.declared.kind.Family.{Family}
use Rattle.pf_addr.specs.Addr.{family_of}
use Rattle.pf_rule.specs.declared.criteria.AddrSet.{AddrSet}
use Rattle.pf_rule.specs.declared.criteria.AddrSet.TheVariants as sets
use Rattle.pf_rule.specs.declared.criteria.AddrTest.{AddrTest}
use Rattle.pf_rule.specs.declared.criteria.AddrTest.TheVariants as tests
use Rattle.pf_rule.specs.declared.criteria.Criteria.{Criteria}
use Rattle.pf_combine.specs.declared.member.Member.{Member}
use Rattle.pf_combine.specs.declared.member.Member.TheVariants as members

-- a prefix or a range is of one family; tables and interfaces may have addresses of both
abbrev pub family_of_set : AddrSet → Option Family
family_of_set (sets.Prefix prefix) = Some (family_of prefix.addr)
family_of_set (sets.Range range) = Some (family_of range.low)
family_of_set (sets.Table name) = None
family_of_set (sets.Dynamic what) = None
family_of_set (sets.Auto number) = None

abbrev pub family_of_test : AddrTest → Option Family
family_of_test tests.Any = None
family_of_test (tests.Test negated what) = family_of_set what

-- the family that a member names: an ICMP type, a source and a target may name one
abbrev pub names : Member → Option Family
names (members.Iface test) = None
names (members.Proto number) = None
names (members.Icmp icmp) = Some icmp.family
names (members.Source test) = family_of_test test
names (members.SourcePort ports) = None
names (members.Target test) = family_of_test test
names (members.TargetPort ports) = None
names (members.User ids) = None
names (members.Group ids) = None

-- the criteria with this member
abbrev pub with_member : Criteria → Member → Criteria
with_member criteria (members.Iface test) = record criteria { iface = test }
with_member criteria (members.Proto number) = record criteria { proto = Some number }
with_member criteria (members.Icmp icmp) = record criteria { icmp = Some icmp }
with_member criteria (members.Source test) = record criteria { source = test }
with_member criteria (members.SourcePort ports) = record criteria { source_port = Some ports }
with_member criteria (members.Target test) = record criteria { target = test }
with_member criteria (members.TargetPort ports) = record criteria { target_port = Some ports }
with_member criteria (members.User ids) = record criteria { user = Some ids }
with_member criteria (members.Group ids) = record criteria { group = Some ids }

abbrev pub with_members : Criteria → List Member → Criteria
with_members criteria [] = criteria
with_members criteria (member ∷ others) = with_members (with_member criteria member) others

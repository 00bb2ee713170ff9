-- Combinations of lists, computed.
use Rattle.std.proofs.Common.{◌≡◌, false, [], ◌∷◌, Some, None, refl}
use Rattle.pf_base.specs.declared.kind.Family.TheVariants.{Inet, Inet6}
use Rattle.pf_addr.specs.declared.addr.Addr.TheVariants.{V4, V6}
use Rattle.pf_addr.specs.declared.addr.Addr.{Addr}
use Rattle.pf_addr.specs.Prefix.{whole}
use Rattle.pf_rule.specs.declared.criteria.AddrSet.TheVariants as sets
use Rattle.pf_rule.specs.declared.criteria.AddrTest.{AddrTest}
use Rattle.pf_rule.specs.declared.criteria.AddrTest.TheVariants as tests
use Rattle.pf_rule.specs.declared.criteria.Criteria.{Criteria}
use Rattle.pf_combine.specs.Combinations.{combined}
use Rattle.pf_combine.specs.declared.member.Member.TheVariants as members

one : Addr → AddrTest
one addr = tests.Test false (sets.Prefix (whole addr))

-- `from { 10.0.0.1, ::1 } to 10.0.0.2` is one rule, for `inet`
one_family : (start : Criteria)
    → combined [] start ((members.Source (one (V4 167772161)) ∷ members.Source (one (V6 1)) ∷ []) ∷ (members.Target (one (V4 167772162)) ∷ []) ∷ [])
    ≡ record start { family = Some Inet; source = one (V4 167772161); target = one (V4 167772162) } ∷ []
unfolding one
one_family start = refl

-- the same with `inet6` is none
no_family : (start : Criteria)
    → combined (Inet6 ∷ []) start ((members.Source (one (V4 167772161)) ∷ []) ∷ (members.Target (one (V4 167772162)) ∷ []) ∷ []) ≡ []
unfolding one
no_family start = refl

-- the first list is the outermost
nested : (start : Criteria)
    → combined [] start ((members.Proto 6 ∷ members.Proto 17 ∷ []) ∷ (members.Source tests.Any ∷ members.Source (one (V6 1)) ∷ []) ∷ [])
    ≡ record start { family = None; proto = Some 6; source = tests.Any } ∷ record start { family = Some Inet6; proto = Some 6; source = one (V6 1) }
    ∷ record start { family = None; proto = Some 17; source = tests.Any } ∷ record start { family = Some Inet6; proto = Some 17; source = one (V6 1) } ∷ []
unfolding one
nested start = refl

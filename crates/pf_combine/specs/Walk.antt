-- The combinations as they are walked, member by member: only members that fit the family so far, and only where the lists
-- behind have members that fit.
use Rattle.std.specs.Prelude.{Bool, true, ◌&&◌, ◌||◌, List, [], Option, Some, None, if◌then◌else◌}
use Rattle.std.specs.List.{list_all, list_any}
use Rattle.std.specs.Option.{option_or, option_to_list}
use Rattle.pf_base.specs.declared.kind.Family.{Family}
use Rattle.pf_base.specs.declared.kind.Family.TheVariants.{Inet, Inet6}
use Rattle.pf_rule.specs.declared.criteria.Criteria.{Criteria}
use Rattle.pf_combine.specs.Combinations.{combined, is_same}
use Rattle.pf_combine.specs.Members.{names, with_member}
use Rattle.pf_combine.specs.declared.member.Member.{Member}

-- the family so far and one that is named don't differ
abbrev pub fits : Option Family → Option Family → Bool
fits None named = true
fits (Some family) None = true
fits (Some family) (Some other) = is_same family other

-- each list has a member that fits the family
abbrev pub completes : Family → List (List Member) → Bool
completes family lists = list_all (λ members. list_any (λ member. fits (Some family) (names member)) members) lists

-- with this family so far the lists behind complete, where it is known whether they do for each family
abbrev pub is_open : Option Family → Bool → Bool → Bool
is_open None inet inet6 = inet || inet6
is_open (Some Inet) inet inet6 = inet
is_open (Some Inet6) inet inet6 = inet6

-- the family so far behind a member, unless it doesn't fit or nothing completes
abbrev pub next_family : Option Family → Option Family → Bool → Bool → Option (Option Family)
next_family chosen named inet inet6 =
    if fits chosen named && is_open (option_or chosen named) inet inet6 then Some (option_or chosen named) else None

-- what a member gives
abbrev pub combined_with : Option Family → Criteria → List (List Member) → Member → List Criteria
combined_with chosen start lists member =
    if fits chosen (names member) then combined (option_to_list (option_or chosen (names member))) (with_member start member) lists else []

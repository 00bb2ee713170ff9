-- The combinations of a statement's lists (pf.conf(5), lists): one member of each, the first list outermost, without those of
-- which two members name different families.
use Rattle.std.specs.Prelude.{Bool, true, List, [], ◌∷◌, ◌++◌, map, filter, ◌==◌}
use Rattle.std.specs.List.{filter_map, flat_map, list_all, slice_get}
use Rattle.pf_base.specs.declared.kind.Family.{Family}
use Rattle.pf_addr.specs.Addr.{bits_of}
use Rattle.pf_rule.specs.declared.criteria.Criteria.{Criteria}
use Rattle.pf_combine.specs.Members.{names, with_members}
use Rattle.pf_combine.specs.declared.member.Member.{Member}

-- one member of each list
abbrev pub product : List (List Member) → List (List Member)
product [] = [] ∷ []
product (members ∷ lists) = flat_map (λ member. map (λ others. member ∷ others) (product lists)) members

abbrev pub is_same : Family → Family → Bool
is_same one other = bits_of one == bits_of other

-- no two of them differ
abbrev pub is_one : List Family → Bool
is_one [] = true
is_one (family ∷ families) = list_all (is_same family) families

-- the families that a combination names, behind those that the statement names as a whole
abbrev pub families : List Family → List Member → List Family
families written members = written ++ filter_map names members

-- the criteria of a combination; its family is the one that it names, or none
abbrev pub criteria_of : List Family → Criteria → List Member → Criteria
criteria_of written start members = record (with_members start members) { family = slice_get (families written members) 0 }

abbrev pub combined : List Family → Criteria → List (List Member) → List Criteria
combined written start lists = map (criteria_of written start) (filter (λ members. is_one (families written members)) (product lists))

-- What the map of groups has at a key: the group of the rules that are this beside their prefix.
use Rattle.std.specs.Prelude.{ℕ, ◌+◌, List, [], ◌∷◌, ◌++◌, Bool, ◌&&◌, Option, Some, None, is_some, if◌then◌else◌}
use Rattle.std.specs.List.{filter, list_any, position_or_len}
use Rattle.std.specs.Option.{option_map_or, unwrap_or}
use Rattle.pf_addr.specs.declared.prefix.Prefix.{Prefix}
use Rattle.pf_auto.specs.Ends.{beside, prefix_at}
use Rattle.pf_auto.specs.Merged.{entries_at, entry_of, group_weight}
use Rattle.pf_auto.specs.declared.group.Group.{Group}
use Rattle.pf_auto.specs.declared.place.End.{End}
use Rattle.pf_rule.specs.Equal.{rules}
use Rattle.pf_rule.specs.declared.rule.Rule.{Rule}

-- the rule has a prefix there, and is this beside it
abbrev pub is_member : End → Rule → Rule × ℕ → Bool
is_member end key item = is_some (prefix_at end item.0) && rules.same (beside end item.0) key

abbrev pub members : End → List (Rule × ℕ) → Rule → List (Rule × ℕ)
members end items key = filter (is_member end key) items

-- their group: the place of the first, their weights together, and their prefixes
abbrev pub gathered : End → List (Rule × ℕ) → Rule → Option Group
gathered end items key =
    if list_any (is_member end key) items then
    Some (record {
      first = position_or_len (is_member end key) items;
      weight = group_weight (members end items key);
      entries = entries_at end (members end items key);
    })
    else None

-- a group of no rules yet
abbrev pub begun : ℕ → Group
begun place = record { first = place; weight = 0; entries = [] }

abbrev pub grown : Prefix → ℕ → Group → Group
grown prefix weight group =
    record { first = group.first; weight = group.weight + weight; entries = group.entries ++ entry_of prefix ∷ [] }

abbrev pub grown_by : Option Prefix → ℕ → Group → Option Group
grown_by None weight group = None
grown_by (Some prefix) weight group = Some (grown prefix weight group)

-- the group at a key once the rule at this place is added
abbrev pub after : End → ℕ → Rule × ℕ → Rule → Option Group → Option Group
after end place item key old =
    if is_member end key item then grown_by (prefix_at end item.0) item.1 (unwrap_or old (begun place)) else old

abbrev pub weight_of : Option Group → ℕ
weight_of group = option_map_or (λ one. one.weight) group 0

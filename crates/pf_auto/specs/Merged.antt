-- Rules of a block that differ in one address alone become one rule with a table (pf.conf(5), "set ruleset-optimization":
-- multiple rules are combined into a table when advantageous).
use Rattle.std.specs.Prelude.{ℕ, ◌+◌, List, [], ◌∷◌, ◌++◌, length, map, Bool, false, ◌&&◌, nat_le, is_some, if◌then◌else◌}
use Rattle.std.specs.List.{filter, filter_map, list_any, sum_by, zip}
use Rattle.std.specs.Option.{option_map}
use Rattle.pf_addr.specs.declared.prefix.Prefix.{Prefix as AddrPrefix}
use Rattle.pf_auto.specs.Ends.{beside, prefix_at, with_test}
use Rattle.pf_auto.specs.declared.place.End.{End}
use Rattle.pf_auto.specs.declared.place.End.TheVariants.{Source, Target}
use Rattle.pf_auto.specs.declared.merging.AutoTable.{AutoTable}
use Rattle.pf_auto.specs.declared.merging.Merged.{Merged}
use Rattle.pf_rule.specs.Equal.{rules}
use Rattle.pf_rule.specs.declared.criteria.AddrSet.TheVariants.{Auto}
use Rattle.pf_rule.specs.declared.criteria.AddrTest.TheVariants.{Test}
use Rattle.pf_rule.specs.declared.rule.Rule.{Rule}
use Rattle.pf_table.specs.Table.{entries_of, table_of}
use Rattle.pf_table.specs.declared.entry.Entry.{Entry}

-- two rules of one group: both have a prefix there, and they are equal in all else
unfoldable pub are_mates : End → Rule → Rule → Bool
are_mates end one other =
    (is_some (prefix_at end one) && is_some (prefix_at end other)) && rules.same (beside end one) (beside end other)

-- the rules of a list, with their weights, that stand in one group with a rule
abbrev pub group_of : End → List (Rule × ℕ) → Rule → List (Rule × ℕ)
group_of end items rule = filter (λ item. are_mates end item.0 rule) items

-- a group of six or more is merged
abbrev pub is_large : List (Rule × ℕ) → Bool
is_large group = nat_le 6 (length group)

-- the prefixes of a group, each once, as positive entries in the order of a table
abbrev pub entry_of : AddrPrefix → Entry
entry_of prefix = record { prefix = prefix; negated = false }

abbrev pub entries_at : End → List (Rule × ℕ) → List Entry
entries_at end group = filter_map (λ item. option_map entry_of (prefix_at end item.0)) group

abbrev pub group_table : End → List (Rule × ℕ) → List Entry
group_table end group = entries_of (table_of (entries_at end group))

-- the weights of a group together
abbrev pub group_weight : List (Rule × ℕ) → ℕ
group_weight group = sum_by (λ item. item.1) group

-- the rule that stands for a group, with the table of this number
abbrev pub merged_rule : End → ℕ → Rule → Rule
merged_rule end number rule = with_test end (Test false (Auto number)) rule

-- rules with their weights, and the tables that they name
pub record Combined : Type 0 where
  pub items : List (Rule × ℕ)
  pub tables : List AutoTable

abbrev pub with_item : Rule × ℕ → Combined → Combined
with_item item combined = record combined { items = item ∷ combined.items }

abbrev pub with_table : AutoTable → Combined → Combined
with_table table combined = record combined { tables = table ∷ combined.tables }

-- the merged rule of a group and its table
abbrev pub with_group : End → ℕ → List (Rule × ℕ) → Rule → Combined → Combined
with_group end number group rule combined =
    with_item (merged_rule end number rule, group_weight group)
    (with_table (record { number = number; entries = group_table end group }) combined)

-- The items from one place of the list on, behind those in front of it, where `next` is the next table's number. A rule of
-- a large group is merged where it is the group's first, and goes where it isn't; every other rule stays.
abbrev pub merged_behind : End → List (Rule × ℕ) → ℕ → List (Rule × ℕ) → List (Rule × ℕ) → Combined
merged_behind end all next front [] = record { items = []; tables = [] }
merged_behind end all next front (item ∷ items) =
    if is_large (group_of end all item.0) then
    (if list_any (λ other. are_mates end other.0 item.0) front then merged_behind end all next (front ++ item ∷ []) items
    else
    with_group end next (group_of end all item.0) item.0 (merged_behind end all (next + 1) (front ++ item ∷ []) items))
    else with_item item (merged_behind end all next (front ++ item ∷ []) items)

abbrev pub merged_at : End → ℕ → List (Rule × ℕ) → Combined
merged_at end next items = merged_behind end items next [] items

-- first by sources, then the resulting list by targets
unfoldable pub merged_from : ℕ → List (Rule × ℕ) → Combined
merged_from next items =
    let first = merged_at Source next items in
    let second = merged_at Target (next + length first.tables) first.items in
    record { items = second.items; tables = first.tables ++ second.tables }

-- the same of a list of rules and one of their weights
abbrev pub merge_of : List Rule → List ℕ → ℕ → Merged
merge_of rules weights next =
    let combined = merged_from next (zip rules weights) in
    record { rules = map (λ item. item.0) combined.items; weights = map (λ item. item.1) combined.items; tables = combined.tables }

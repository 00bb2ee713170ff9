-- What is done with each rule in turn: what stands already, and what is put behind it.
use Rattle.std.specs.Prelude.{ℕ, [], ◌∷◌, ◌++◌, map, length, nat_le, nat_lt, Option, Some, None, if◌then◌else◌}
use Rattle.pf_auto.specs.Merged.{Combined, merged_rule}
use Rattle.pf_auto.specs.declared.group.Group.{Group}
use Rattle.pf_auto.specs.declared.merging.Merged.{Merged}
use Rattle.pf_auto.specs.declared.place.End.{End}
use Rattle.pf_rule.specs.declared.rule.Rule.{Rule}
use Rattle.pf_table.specs.Table.{entries_of, table_of}

abbrev pub behind : Merged → Combined → Merged
behind merged combined = record {
  rules = merged.rules ++ map (λ item. item.0) combined.items;
  weights = merged.weights ++ map (λ item. item.1) combined.items;
  tables = merged.tables ++ combined.tables;
}

abbrev pub with_kept : Rule × ℕ → Merged → Merged
with_kept item merged = record merged { rules = merged.rules ++ item.0 ∷ []; weights = merged.weights ++ item.1 ∷ [] }

abbrev pub with_lead : End → ℕ → Group → Rule → Merged → Merged
with_lead end number group rule merged = record {
  rules = merged.rules ++ merged_rule end number rule ∷ [];
  weights = merged.weights ++ group.weight ∷ [];
  tables = merged.tables ++ record { number = number; entries = entries_of (table_of group.entries) } ∷ [];
}

-- the rule at this place put behind the others, where it is in this group
abbrev pub put_by : End → ℕ → Option Group → ℕ → Rule × ℕ → Merged → Merged
put_by end number None place item merged = with_kept item merged
put_by end number (Some group) place item merged =
    if nat_le 6 (length group.entries) then
    (if nat_lt group.first place then merged else with_lead end number group item.0 merged)
    else with_kept item merged

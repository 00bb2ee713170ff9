-- The optimised form of a ruleset (pf.conf(5), "set ruleset-optimization"). Within each block, rules that others cover go,
-- groups of rules become one rule with a table, and what is left is sorted. Blocks stay in their order.
use Rattle.std.specs.Prelude.{ℕ, ◌+◌, List, [], ◌∷◌, ◌++◌, length, map, Bool, true, false, ◌&&◌, if◌then◌else◌}
use Rattle.std.specs.List.{list_all, zip}
use Rattle.pf_auto.specs.Merged.{merged_from}
use Rattle.pf_auto.specs.declared.merging.AutoTable.{AutoTable}
use Rattle.pf_cover.specs.Kept.{kept_rules, kept_weights}
use Rattle.pf_base.specs.declared.kind.Level.{Level}
use Rattle.pf_base.specs.declared.kind.Level.TheVariants.{None, Basic, Profile}
use Rattle.pf_order.specs.Blocks.{joins, runs_of}
use Rattle.pf_order.specs.Order.{gain_order, profile_order}
use Rattle.pf_rule.specs.declared.rule.Rule.{Rule}

-- the rules of a list of rules with weights, and the weights
abbrev pub rules_in : List (Rule × ℕ) → List Rule
rules_in items = map (λ item. item.0) items

abbrev pub weights_in : List (Rule × ℕ) → List ℕ
weights_in items = map (λ item. item.1) items

-- the kept rules of a block, with the weights of all
abbrev pub kept_in : List (Rule × ℕ) → List (Rule × ℕ)
kept_in block = zip (kept_rules (rules_in block)) (kept_weights (rules_in block) (weights_in block))

-- all rules of a block are quick
abbrev pub is_quick : List Rule → Bool
is_quick rules = list_all (λ rule. rule.effect.quick) rules

-- whether quick blocks are sorted by weights
abbrev pub is_profiled : Level → Bool
is_profiled None = false
is_profiled Basic = false
is_profiled Profile = true

-- the order of what is left of a block
abbrev pub ordered : Level → List (Rule × ℕ) → List Rule
ordered level items =
    if is_profiled level && is_quick (rules_in items) then profile_order (rules_in items) (weights_in items)
    else gain_order (rules_in items)

-- rules, and the tables that they name
pub record Listed : Type 0 where
  pub rules : List Rule
  pub tables : List AutoTable

abbrev pub nothing : Listed
nothing = record { rules = []; tables = [] }

abbrev pub joined : Listed → Listed → Listed
joined first second = record { rules = first.rules ++ second.rules; tables = first.tables ++ second.tables }

-- one block, whose tables are numbered from this number on
unfoldable pub block_optimised : Level → ℕ → List (Rule × ℕ) → Listed
block_optimised level next block =
    let merged = merged_from next (kept_in block) in
    record { rules = ordered level merged.items; tables = merged.tables }

-- blocks in a row, whose tables are numbered on
abbrev pub blocks_optimised : Level → ℕ → List (List (Rule × ℕ)) → Listed
blocks_optimised level next [] = nothing
blocks_optimised level next (block ∷ blocks) =
    let first = block_optimised level next block in
    joined first (blocks_optimised level (next + length first.tables) blocks)

-- the blocks of rules with weights
abbrev pub blocks_in : List (Rule × ℕ) → List (List (Rule × ℕ))
blocks_in items = runs_of (λ one other. joins one.0 other.0) items

-- a list of rules with their weights, at a level
abbrev pub optimised : Level → List Rule → List ℕ → Listed
optimised None rules weights = record { rules = rules; tables = [] }
optimised Basic rules weights = blocks_optimised Basic 0 (blocks_in (zip rules weights))
optimised Profile rules weights = blocks_optimised Profile 0 (blocks_in (zip rules weights))

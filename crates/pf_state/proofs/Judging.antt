-- The refusal of the rulesets that have these outlines.
use Rattle.std.proofs.Common.{◌≡◌, ℕ, ◌<◌, List, [], ◌∷◌, map, Option, Some, None, refl, sym, ap, subst, ◌∙◌}
use Rattle.std.specs.Prelude.{◌↔◌}
use Rattle.std.specs.Option.{option_map, option_or}
use Rattle.std.specs.List.{sum_by}
use Rattle.std.specs.FinMap as fin
use Rattle.std.specs.FinMap.{FinMap}
use Rattle.pf_calls.specs.Calls.{graph_of}
use Rattle.pf_calls.specs.Graph.{Graph, IsDeep, IsFirstOnCycle, IsShallow}
use Rattle.pf_calls.specs.declared.row.CallFault.{CallFault}
use Rattle.pf_calls.specs.declared.row.CallFault.TheVariants.{Cycle, Deep}
use Rattle.pf_calls.specs.declared.row.CallRow.{CallRow}
use Rattle.pf_tree.specs.Order.{path_cmp}
use Rattle.pf_reply.specs.declared.refusal.Refusal.{Refusal}
use Rattle.pf_state.specs.Judging.{CallsAre, Judged, call_refusal}
use Rattle.pf_state.specs.Limits.{first_of, limits, tree_limits}
use Rattle.pf_state.specs.Outlines.{AreOutlined}
use Rattle.pf_state.specs.Rulesets.{Rulesets, graph_in}
use Rattle.pf_state.specs.declared.outline.Outline.{Outline}
use Rattle.pf_state.proofs.Calling.{graph_same, rows_of}
use Rattle.pf_state.proofs.Counting.{entries_counted, nodes_counted, rules_counted}

-- a fault of calls, or the first limit that is gone past
abbrev pub judged_as : Option CallFault → Option Refusal → Option Refusal
judged_as None limit = limit
judged_as (Some fault) limit = Some (call_refusal fault)

no_first : (fault : Option CallFault) (limit : List (Option Refusal)) → judged_as fault (first_of limit) ≡ first_of (first_of [] ∷ option_map call_refusal fault ∷ limit)
no_first None limit = refl
no_first (Some fault) limit = refl

limits_same : (rulesets : Rulesets) (outlines : FinMap path_cmp Outline) (are : AreOutlined rulesets outlines) → limits (sum_by (λ (e : List (List ℕ) × Outline). e.1.rules) (fin.entries outlines)) (fin.len outlines) (sum_by (λ (e : List (List ℕ) × Outline). e.1.entries) (fin.entries outlines)) ≡ tree_limits rulesets
limits_same rulesets outlines are = λ i. limits (rules_counted rulesets outlines are i) (nodes_counted rulesets outlines are i) (entries_counted rulesets outlines are i)

-- what is judged of the rows of the outlines is judged of the rulesets
pub judged : (outlines : FinMap path_cmp Outline) (rows : List CallRow) (fault : Option CallFault) (refusal : Option Refusal)
    → rows ≡ rows_of (fin.entries outlines)
    → CallsAre (graph_of rows) fault
    → refusal ≡ judged_as fault (first_of (limits (sum_by (λ (e : List (List ℕ) × Outline). e.1.rules) (fin.entries outlines)) (fin.len outlines) (sum_by (λ (e : List (List ℕ) × Outline). e.1.entries) (fin.entries outlines))))
    → (rulesets : Rulesets) → AreOutlined rulesets outlines → Judged [] rulesets refusal
judged outlines rows fault refusal rows_are calls is rulesets are = record {
  calls = fault;
  are = subst (λ (g : Graph (List (List ℕ))). CallsAre g fault) (ap graph_of rows_are ∙ graph_same rulesets outlines are) calls;
  is = is ∙ ap (λ limit. judged_as fault (first_of limit)) (limits_same rulesets outlines are) ∙ no_first fault (tree_limits rulesets);
}

-- a refusal that comes before all others
pub with_first : (first : Option Refusal) (rulesets : Rulesets) (other refusal : Option Refusal) → refusal ≡ option_or first other → Judged [] rulesets other → Judged (first ∷ []) rulesets refusal
with_first None rulesets other refusal e j = record { calls = j.calls; are = j.are; is = e ∙ j.is }
with_first (Some r) rulesets other refusal e j = record { calls = j.calls; are = j.are; is = e }

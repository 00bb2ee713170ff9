use Rattle.std.proofs.Common.{◌≡◌, ℕ, List, map, Option, Some, None, sym, ap, subst, ◌∙◌}
use Rattle.std.proofs.lemmas.Iterator.Consumers.{YieldsList-end, YieldsList-from_rest}
use Rattle.std.proofs.lemmas.List.{map-id}
use Rattle.std.specs.List.Sorted.{IsStrictlySortedBy}
use Rattle.std.specs.List.{sum_by}
use Rattle.std.specs.FinMap as fin
use Rattle.pf_base.specs.OrderedMap.{map_of}
use Rattle.pf_calls.specs.Calls.{graph_of, paths_of}
use Rattle.pf_calls.specs.declared.row.CallFault.{CallFault}
use Rattle.pf_calls.specs.declared.row.CallRow.{CallRow}
use Rattle.pf_reply.specs.declared.refusal.Refusal.{Refusal}
use Rattle.pf_tree.specs.Order.{path_cmp}
use Rattle.pf_state.specs.Limits.{first_of, limits}
use Rattle.pf_state.specs.declared.outline.Outline.{Outline}
use Rattle.pf_state.proofs.Calling.{paths_same, rows_of}
use Rattle.pf_state.proofs.Judging.{judged, judged_as}
use Rattle.pf_state.proofs.judge.judge.Goals as goal

abbrev rules_told : List (List (List ℕ) × Outline) → ℕ
rules_told entries = sum_by (λ (e : List (List ℕ) × Outline). e.1.rules) entries

abbrev entries_told : List (List (List ℕ) × Outline) → ℕ
entries_told entries = sum_by (λ (e : List (List ℕ) × Outline). e.1.entries) entries

pub call_fault-requires : goal.call_fault-requires
call_fault-requires c =
    let all = YieldsList-end (YieldsList-from_rest c.args.outlines.entries c.into_iter-path-iterator.ensures.into_iter_gives.0) c.loop-path.yielded _ c.loop-path.yielded_by _ _ c.in-None.is c.next.ensures.steps in
    subst (IsStrictlySortedBy path_cmp)
    (sym (ap paths_of (c.deref.ensures.value ∙ c.loop-path.invariant.rows ∙ ap rows_of (sym (map-id c.loop-path.yielded) ∙ all.0)) ∙ paths_same c.args.outlines.entries))
    c.len-count.ensures.ordered

pub returns-in-Some-2 : goal.returns-in-Some-2
returns-in-Some-2 c =
    let all = YieldsList-end (YieldsList-from_rest c.args.outlines.entries c.into_iter-path-iterator.ensures.into_iter_gives.0) c.loop-path.yielded _ c.loop-path.yielded_by _ _ c.in-None.is c.next.ensures.steps in
    let told = sym (map-id c.loop-path.yielded) ∙ all.0 ∙ sym (c.path_map_laws.ensures.listed c.args.outlines c.len-count.ensures.ordered) in
    let entries = fin.entries (map_of path_cmp c.args.outlines) in
    let limit = first_of (limits (rules_told entries) (fin.len (map_of path_cmp c.args.outlines)) (entries_told entries)) in
    judged (map_of path_cmp c.args.outlines) c.deref.result.now c.in_ok-fault.field-0 (Some c.refusal_of.result)
    (c.deref.ensures.value ∙ c.loop-path.invariant.rows ∙ ap rows_of told)
    (record { cycle = c.in_ok-fault.ensures.cycle; deep = c.in_ok-fault.ensures.deep; none = c.in_ok-fault.ensures.none })
    (ap (λ (r : Refusal). Some r) c.refusal_of.ensures ∙ ap (λ (f : Option CallFault). judged_as f limit) (sym c.in-Some-2.is))

pub returns : goal.returns
returns c =
    let all = YieldsList-end (YieldsList-from_rest c.args.outlines.entries c.into_iter-path-iterator.ensures.into_iter_gives.0) c.loop-path.yielded _ c.loop-path.yielded_by _ _ c.in-None.is c.next.ensures.steps in
    let told = sym (map-id c.loop-path.yielded) ∙ all.0 ∙ sym (c.path_map_laws.ensures.listed c.args.outlines c.len-count.ensures.ordered) in
    let entries = fin.entries (map_of path_cmp c.args.outlines) in
    let limit = first_of (limits (rules_told entries) (fin.len (map_of path_cmp c.args.outlines)) (entries_told entries)) in
    let rules = c.loop-path.invariant.rules ∙ ap rules_told told in
    let count = c.len-count.ensures.len ∙ sym (c.path_map_laws.ensures.counted c.args.outlines c.len-count.ensures.ordered) in
    let sum = c.loop-path.invariant.entries ∙ ap entries_told told in
    judged (map_of path_cmp c.args.outlines) c.deref.result.now c.in_ok-fault.field-0 c.limit_refusal.result
    (c.deref.ensures.value ∙ c.loop-path.invariant.rows ∙ ap rows_of told)
    (record { cycle = c.in_ok-fault.ensures.cycle; deep = c.in_ok-fault.ensures.deep; none = c.in_ok-fault.ensures.none })
    (c.limit_refusal.ensures ∙ (λ i. first_of (limits (rules i) (count i) (sum i))) ∙ ap (λ (f : Option CallFault). judged_as f limit) (sym c.in-None-2.is))

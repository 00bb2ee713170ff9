-- A plan of the main ruleset alone, without calls, may be put in place where nothing stands.
use Rattle.std.proofs.Common.{◌≡◌, ℕ, suc, ◌+◌, ◌<◌, ◌≤◌, Bool, true, false, cond, List, [], ◌∷◌, Option, Some, None, length, map, refl, ap, sym, subst, ◌∙◌, arith}
use Rattle.std.specs.Prelude.{filter, not, Contains, if◌then◌else◌}
use Rattle.std.specs.FinMap as finite
use Rattle.std.specs.List.{filter_map, flat_map, list_all, sum_by}
use Rattle.std.specs.Ordering.{eq_by_cmp}
use Rattle.std.specs.Option.{option_map}
use Rattle.std.proofs.lemmas.Bool.{and_parts, le-ltb, ne_eqb}
use Rattle.pf_base.specs.declared.kind.Level.{Level}
use Rattle.pf_calls.specs.Calls.{called}
use Rattle.pf_calls.specs.Graph.{Graph, IsDeep, OnCycle, greatest}
use Rattle.pf_calls.specs.GraphLaws.{none_in}
use Rattle.pf_calls.specs.declared.row.CallFault.{CallFault}
use Rattle.pf_calls.specs.declared.row.CallFault.TheVariants.{Cycle, Deep}
use Rattle.pf_optim.specs.declared.node.Node.{Node}
use Rattle.pf_plan.specs.Ends.{level_of}
use Rattle.pf_plan.specs.declared.plan.Part.{Part}
use Rattle.pf_reply.specs.declared.refusal.Refusal.{Refusal}
use Rattle.pf_rule.specs.Effect.{is_anchor}
use Rattle.pf_rule.specs.declared.effect.Action.{Action}
use Rattle.pf_rule.specs.declared.effect.Action.TheVariants as actions
use Rattle.pf_rule.specs.declared.rule.Rule.{Rule}
use Rattle.pf_shelf.specs.Renewed.{persists, renewed}
use Rattle.pf_shelf.specs.Shelf.{Tables, entries_in, name_cmp, total}
use Rattle.pf_shelf.specs.declared.decl.Shelved.{Shelved}
use Rattle.pf_state.specs.Commits.{committed, is_cleared, node_of, ready_of, shown_node, staged_of}
use Rattle.pf_state.specs.Judging.{CallsAre, Judged, LoadJudged, call_refusal}
use Rattle.pf_state.specs.Limits.{first_of, limits, tree_limits}
use Rattle.pf_state.specs.Machine.{empty_machine}
use Rattle.pf_state.specs.Rulesets.{Rulesets, call_of, calls_in, count_entries, count_rules, graph_in, tables_in, written_in}
use Rattle.pf_tree.specs.GrownLaws.{path_same, path_total}
use Rattle.pf_tree.specs.Meaning.{put_payload}
use Rattle.pf_tree.specs.Order.{path_cmp}
use Rattle.pf_base.specs.Path.{is_reserved}
use Rattle.pf_eval.specs.Answers.{answer_of, is_skipped, skipped_answer, written_world}
use Rattle.pf_eval.specs.World.{World, packet_walker, walk_at}
use Rattle.pf_rule.specs.Answer.{answer_of_walk}
use Rattle.pf_rule.specs.Opening.{opening_walk}
use Rattle.pf_tree.specs.Paths.{in_byte_order, name_behind}
use Rattle.pf_eval.specs.Rulesets as evaluated
use Rattle.pf_host.specs.Facts.{HostFacts}
use Rattle.pf_rule.specs.declared.packet.Packet.{Packet}
use Rattle.pf_genload.specs.Generated.{calls_no_ruleset, plan_with}

-- ---- the ruleset that stands then

nothing_in : {A : Type 0} (items : List A) → length items ≡ 0 → items ≡ []
nothing_in [] e = refl
nothing_in (item ∷ items) e = absurd (omega arith)

abbrev no_rulesets : Rulesets
no_rulesets = finite.empty

no_entries : finite.entries no_rulesets ≡ []
no_entries = nothing_in (finite.entries no_rulesets) (sym (finite.len-entries no_rulesets) ∙ finite.len-empty path_cmp Node)

abbrev nothing_shelved : Tables
nothing_shelved = finite.empty

no_tables : finite.entries nothing_shelved ≡ []
no_tables = nothing_in (finite.entries nothing_shelved) (sym (finite.len-entries nothing_shelved) ∙ finite.len-empty name_cmp Shelved)

none_either : (b : Bool) → ◌≡◌ {A = Option Node} (cond b None None) None
none_either true = refl
none_either false = refl

-- where nothing stands nothing goes
all_go : (test : List (List ℕ) → Bool) → finite.retain_keys no_rulesets test ≡ no_rulesets
all_go test = finite.same_map path_total path_same (finite.retain_keys no_rulesets test) no_rulesets (λ path.
    finite.get-retain_keys no_rulesets test path (λ other tied. ap test (sym (path_same path other tied)))
    ∙ ap (λ (found : Option Node). cond (test path) found None) (finite.get-empty path_cmp path)
    ∙ none_either (test path)
    ∙ sym (finite.get-empty path_cmp path))

shelf_is : renewed (tables_in (finite.get no_rulesets [])) [] ≡ finite.empty
shelf_is =
    ap (λ (found : Option Node). renewed (tables_in found) []) (finite.get-empty path_cmp [])
    ∙ ap (λ (tables : List (List ℕ × Shelved)). finite.from_entries (filter persists tables)) no_tables

no_total : total (renewed (tables_in (finite.get no_rulesets [])) []) ≡ 0
no_total = ap total shelf_is ∙ ap entries_in no_tables

-- the main ruleset with these rules
abbrev main_part : List Rule → Part
main_part rules = record { path = []; rules = rules; tables = [] }

abbrev main_node : Level → List Rule → Node
main_node level rules = node_of no_rulesets (staged_of level [] (main_part rules))

abbrev with_main : Node → Rulesets
with_main node = finite.insert no_rulesets [] node

not_bare : (level : Level) (rule : Rule) (more : List Rule) → shown_node (main_node level (rule ∷ more)) ≡ Some (main_node level (rule ∷ more))
not_bare level rule more = rw (ne_eqb (suc (length more)) 0 (λ same. omega arith)) refl

one_stands : (level : Level) (rule : Rule) (more : List Rule) → committed (staged_of level [] (main_part (rule ∷ more)) ∷ []) no_rulesets ≡ with_main (main_node level (rule ∷ more))
one_stands level rule more =
    ap (put_payload (finite.retain_keys no_rulesets (λ at. not (is_cleared (staged_of level [] (main_part (rule ∷ more)) ∷ []) at))) []) (not_bare level rule more)
    ∙ ap (λ (rulesets : Rulesets). finite.insert rulesets [] (main_node level (rule ∷ more))) (all_go (λ at. not (is_cleared (staged_of level [] (main_part (rule ∷ more)) ∷ []) at)))

entries_are : (node : Node) → finite.entries (with_main node) ≡ ([], node) ∷ []
entries_are node = finite.entries-insert path_total no_rulesets [] node ∙ ap (finite.put path_cmp [] node) no_entries

-- ---- no rule calls a ruleset

not_called : (action : Action) → not (is_anchor action) ≡ true → call_of action ≡ None
not_called actions.Pass is = refl
not_called (actions.Block kind) is = refl
not_called actions.Match is = refl
not_called (actions.Anchor call) is = absurd (cc)

no_calls : (rules : List Rule) → list_all calls_no_ruleset rules ≡ true → calls_in rules ≡ []
no_calls [] is = refl
no_calls (rule ∷ rules) is =
    let p = and_parts (calls_no_ruleset rule) (list_all calls_no_ruleset rules) is in
    rw (not_called rule.effect.action p.0) (no_calls rules p.1)

written_by : (b : Bool) (node : Node) → calls_in node.rules.rules ≡ [] → calls_in (written_in (cond b (Some node) None)) ≡ []
written_by true node is = is
written_by false node is = refl

no_calls_at : (node : Node) → calls_in node.rules.rules ≡ [] → (at : List (List ℕ)) → calls_in (written_in (finite.get (with_main node) at)) ≡ []
no_calls_at node is at =
    ap (λ (found : Option Node). calls_in (written_in found)) (finite.get-insert path_total no_rulesets [] node at ∙ ap (cond (eq_by_cmp path_cmp at []) (Some node)) (finite.get-empty path_cmp at))
    ∙ written_by (eq_by_cmp path_cmp at []) node is

no_steps : (node : Node) → calls_in node.rules.rules ≡ [] → (at : List (List ℕ)) → (graph_in (with_main node)).steps at ≡ []
no_steps node is at = ap (flat_map (called (finite.keys (with_main node)) at)) (no_calls_at node is at)

module _ (graph : Graph (List (List ℕ))) (stays : (at : List (List ℕ)) → graph.steps at ≡ []) where
  never_back : (at : List (List ℕ)) → OnCycle graph at → ⊥
  never_back at cycle = none_in cycle.leads.0 (subst (λ (steps : List (List (List ℕ))). Contains steps cycle.leads.0) (stays at) cycle.leads.1.leads)

  low : (b : Bool) → (if b then greatest [] + 1 else 0) ≤ 1
  low true = omega arith
  low false = omega arith

  never_deep : (depth : ℕ) → 64 < depth → IsDeep graph depth → ⊥
  never_deep depth over deep =
      let rank = deep.ranking.is deep.deepest in
      let least = low (graph.has deep.deepest) in
      let rank_is : deep.rank deep.deepest ≡ (if graph.has deep.deepest then greatest [] + 1 else 0) =
      subst (λ (steps : List (List (List ℕ))). deep.rank deep.deepest ≡ (if graph.has deep.deepest then greatest (map deep.rank steps) + 1 else 0)) (stays deep.deepest) rank in
      let there = deep.there in
      omega arith

  no_call_fault : (calls : Option CallFault) → CallsAre graph calls → calls ≡ None
  no_call_fault None are = refl
  no_call_fault (Some (Cycle path)) are = absurd (never_back path ((are.cycle path).0 refl).there)
  no_call_fault (Some (Deep depth)) are = let deep = (are.deep depth).0 refl in absurd (never_deep depth deep.0 deep.1)

-- ---- no limit is passed

within : (rules rulesets entries : ℕ) → rules ≤ 131072 → rulesets ≤ 4096 → entries ≤ 262144 → first_of (limits rules rulesets entries) ≡ None
within rules rulesets entries a b c = rw (le-ltb 131072 rules a, le-ltb 4096 rulesets b, le-ltb 262144 entries c) refl

rules_counted : (node : Node) → count_rules (with_main node) ≡ 0 + length node.rules.rules
rules_counted node = ap (λ (entries : List (List (List ℕ) × Node)). sum_by (λ (one : Node). length one.rules.rules) (map (λ entry. entry.1) entries)) (entries_are node)

entries_counted : (node : Node) → count_entries (with_main node) ≡ 0 + total node.shelf
entries_counted node = ap (λ (entries : List (List (List ℕ) × Node)). sum_by (λ (one : Node). total one.shelf) (map (λ entry. entry.1) entries)) (entries_are node)

rulesets_counted : (node : Node) → finite.len (with_main node) ≡ 1
rulesets_counted node = finite.len-entries (with_main node) ∙ ap length (entries_are node)

no_refusal : (node : Node) (refusal : Option Refusal) → calls_in node.rules.rules ≡ [] → length node.rules.rules ≤ 131072 → total node.shelf ≡ 0
    → Judged [] (with_main node) refusal → refusal ≡ None
no_refusal node refusal none few empty judged =
    let calls = no_call_fault (graph_in (with_main node)) (no_steps node none) judged.calls judged.are in
    let rules = rules_counted node in
    let entries = entries_counted node in
    let rulesets = rulesets_counted node in
    judged.is
    ∙ ap (λ (fault : Option CallFault). first_of (None ∷ (option_map call_refusal fault ∷ tree_limits (with_main node)))) calls
    ∙ within (count_rules (with_main node)) (finite.len (with_main node)) (count_entries (with_main node)) (omega arith) (omega arith) (omega arith)

main_stands : (level : Level) (rules : List Rule) (refusal : Option Refusal) → 0 < length rules → length rules ≤ 131072 → list_all calls_no_ruleset rules ≡ true
    → Judged [] (committed (staged_of level [] (main_part rules) ∷ []) no_rulesets) refusal → refusal ≡ None
main_stands level [] refusal some few calls judged = absurd (omega arith)
main_stands level (rule ∷ more) refusal some few calls judged =
    no_refusal (main_node level (rule ∷ more)) refusal (no_calls (rule ∷ more) calls) few no_total
    (subst (λ (rulesets : Rulesets). Judged [] rulesets refusal) (one_stands level rule more) judged)

pub plan_stands : (rules : List Rule) (level : Option Level) (refusal : Option Refusal) → 0 < length rules → length rules ≤ 131072 → list_all calls_no_ruleset rules ≡ true
    → LoadJudged empty_machine (ready_of [] (plan_with rules level)) refusal → refusal ≡ None
plan_stands rules level refusal some few calls judged = main_stands (level_of level []) rules refusal some few calls judged

-- ---- what it has, and what it answers

pub main_counted : (rules : List Rule) (level : Option Level) → 0 < length rules → count_rules (committed (ready_of [] (plan_with rules level)).parts no_rulesets) ≡ length rules
main_counted [] level some = absurd (omega arith)
main_counted (rule ∷ more) level some =
    let counted = rules_counted (main_node (level_of level []) (rule ∷ more)) in
    ap count_rules (one_stands (level_of level []) rule more) ∙ omega (arith, counted)

found_at : (node : Node) (at : List (List ℕ)) → finite.get (with_main node) at ≡ cond (eq_by_cmp path_cmp at []) (Some node) None
found_at node at = finite.get-insert path_total no_rulesets [] node at ∙ ap (cond (eq_by_cmp path_cmp at []) (Some node)) (finite.get-empty path_cmp at)

-- two rulesets with the same rules and the same tables
module _ (one other : Node) (rules : one.rules.rules ≡ other.rules.rules) (shelves : one.shelf ≡ other.shelf) where
  same_written : (b : Bool) → evaluated.written_in (cond b (Some one) None) ≡ evaluated.written_in (cond b (Some other) None)
  same_written true = rules
  same_written false = refl

  same_tables : (b : Bool) → evaluated.tables_in (cond b (Some one) None) ≡ evaluated.tables_in (cond b (Some other) None)
  same_tables true = shelves
  same_tables false = refl

  written_at : (at : List (List ℕ)) → evaluated.written_in (finite.get (with_main one) at) ≡ evaluated.written_in (finite.get (with_main other) at)
  written_at at = ap evaluated.written_in (found_at one at) ∙ same_written (eq_by_cmp path_cmp at []) ∙ sym (ap evaluated.written_in (found_at other at))

  tables_at : (at : List (List ℕ)) → evaluated.tables_in (finite.get (with_main one) at) ≡ evaluated.tables_in (finite.get (with_main other) at)
  tables_at at = ap evaluated.tables_in (found_at one at) ∙ same_tables (eq_by_cmp path_cmp at []) ∙ sym (ap evaluated.tables_in (found_at other at))

  same_keys : finite.keys (with_main one) ≡ finite.keys (with_main other)
  same_keys = ap (map (λ (entry : List (List ℕ) × Node). entry.0)) (entries_are one) ∙ sym (ap (map (λ (entry : List (List ℕ) × Node). entry.0)) (entries_are other))

  same_world : (facts : HostFacts) → written_world (with_main one) facts ≡ written_world (with_main other) facts
  same_world facts i = record {
    rules = λ at. written_at at i;
    around = λ at. evaluated.around_in facts (tables_at at i) (tables_at [] i) [];
    children = λ at. filter (λ name. not (is_reserved name)) (in_byte_order (filter_map (name_behind at) (same_keys i)));
  }

  same_answer : (facts : HostFacts) (skip : List (List ℕ)) (packet : Packet) → answer_of (with_main one) facts skip packet ≡ answer_of (with_main other) facts skip packet
  unfolding answer_of
  same_answer facts skip packet =
      let walk = opening_walk packet in
      ap (λ (world : World). if is_skipped facts skip walk then skipped_answer walk else answer_of_walk (walk_at packet_walker world [] walk)) (same_world facts)

pub main_alike : (rules : List Rule) (a b : Option Level) (facts : HostFacts) (skip : List (List ℕ)) (packet : Packet) → 0 < length rules
    → answer_of (committed (ready_of [] (plan_with rules a)).parts no_rulesets) facts skip packet ≡ answer_of (committed (ready_of [] (plan_with rules b)).parts no_rulesets) facts skip packet
main_alike [] a b facts skip packet some = absurd (omega arith)
main_alike (rule ∷ more) a b facts skip packet some =
    ap (λ (rulesets : Rulesets). answer_of rulesets facts skip packet) (one_stands (level_of a []) rule more)
    ∙ same_answer (main_node (level_of a []) (rule ∷ more)) (main_node (level_of b []) (rule ∷ more)) refl refl facts skip packet
    ∙ sym (ap (λ (rulesets : Rulesets). answer_of rulesets facts skip packet) (one_stands (level_of b []) rule more))

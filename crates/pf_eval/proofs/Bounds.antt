-- Where calls go in no circle and not too deep, the bound of a walk isn't seen.
use Rattle.std.proofs.Common.{◌≡◌, ℕ, zero, suc, ◌<◌, ◌≤◌, cond, Bool, true, false, not, ◌||◌, List, [], ◌∷◌, ◌++◌, get_or, map, Option, Some, None, is_some, refl, sym, ap, ◌∙◌, subst, inl, inr, arith, if◌then◌else◌}
use Rattle.std.specs.Prelude.{Contains}
use Rattle.std.proofs.lemmas.Bool.{false≢true}
use Rattle.std.proofs.lemmas.Map.Made.{is_member-Decides}
use Rattle.std.proofs.lemmas.Slice.Eq.{bytes_eq-Decides}
use Rattle.std.specs.Bool.{Decides}
use Rattle.std.specs.Cmp.{tied_itself}
use Rattle.std.specs.Cmp.Lexicographic.{pointwise_decides}
use Rattle.std.specs.FinMap as fin
use Rattle.std.specs.FinMap.{find as find_key}
use Rattle.std.specs.List.{filter_map, list_any}
use Rattle.std.specs.Option.{option_and_then}
use Rattle.std.specs.Ordering.{eq_by_cmp, is_eq}
use Rattle.std.specs.declared.cmp.Ordering.{Ordering}
use Rattle.std.specs.declared.cmp.Ordering.TheVariants.{Less, Equal, Greater}
use Rattle.pf_base.specs.Path.{is_reserved}
use Rattle.pf_calls.specs.Calls.{called as called_paths, child_on, children_of, led_to, named_below, path_eq}
use Rattle.pf_calls.specs.Graph.{Graph, IsRanking, IsShallow}
use Rattle.pf_calls.specs.GraphLaws.{in_or_out, later_in, now_in, rank_falls, rank_inside}
use Rattle.pf_eval.specs.Answers.{written_world}
use Rattle.pf_eval.specs.Rulesets.{Rulesets, call_of, calls_in, graph_in, named_children, written_in}
use Rattle.pf_eval.specs.World.{IsWalk, Walker, World, acted, called, each_child, has_stopped, walk_at, walk_within, walking_at}
use Rattle.pf_eval.proofs.Lists.{any_passes, given, gives, in_flat, passes, place_in, some_passes}
use Rattle.pf_host.specs.Facts.{HostFacts}
use Rattle.pf_optim.specs.declared.node.Node.{Node}
use Rattle.pf_parts.specs.CallTarget.{target_of}
use Rattle.pf_parts.specs.declared.call.Call.{Call}
use Rattle.pf_rule.specs.Walking.{DoAlike, Walking, walked_through}
use Rattle.pf_rule.specs.declared.effect.Action.{Action}
use Rattle.pf_rule.specs.declared.effect.Action.TheVariants.{Pass, Block, Match, Anchor}
use Rattle.pf_rule.specs.declared.effect.Effect.{Effect}
use Rattle.pf_rule.specs.declared.rule.Rule.{Rule}
use Rattle.pf_tree.specs.GrownLaws.{name_same, name_total, path_same}
use Rattle.pf_tree.specs.Order.{name_cmp, path_cmp}
use Rattle.pf_tree.specs.Paths.{child_names, in_byte_order, name_behind}

-- ---- paths of a map, and their children

equal_is : (o : Ordering) → is_eq o ≡ true → o ≡ Equal
equal_is Less h = absurd (false≢true h)
equal_is Equal h = refl
equal_is Greater h = absurd (false≢true h)

paths_decide : (p q : List (List ℕ)) → Decides (path_eq p q) (p ≡ q)
paths_decide = pointwise_decides bytes_eq-Decides

-- a path with a ruleset is one of the map's
pub has_path : (trees : Rulesets) (at : List (List ℕ)) (node : Node) → fin.get trees at ≡ Some node → (graph_in trees).has at ≡ true
has_path trees at node there =
    let some : list_any (eq_by_cmp path_cmp at) (fin.keys trees) ≡ true = sym (fin.contains_key-keys trees at) ∙ ap is_some there in
    let found = some_passes (eq_by_cmp path_cmp at) (fin.keys trees) some in
    let same : at ≡ found.item = path_same at found.item (equal_is (path_cmp at found.item) found.so) in
    (is_member-Decides paths_decide (fin.keys trees) at).1 (subst (λ (p : List (List ℕ)). Contains (fin.keys trees) p) (sym same) found.among)

-- outside the map there are no rules
pub no_rules : (trees : Rulesets) (at : List (List ℕ)) → (graph_in trees).has at ≡ false → written_in (fin.get trees at) ≡ []
no_rules trees at out = cases (fin.get trees at) refl
  where
    cases : (o : Option Node) → fin.get trees at ≡ o → written_in o ≡ []
    cases None e = refl
    cases (Some node) e = absurd (false≢true (sym out ∙ has_path trees at node e))

abbrev marked : List (List ℕ) → List (List ℕ × Unit {0})
marked names = map (λ name. (name, tt {0})) names

marked_found : (q : List ℕ) (names : List (List ℕ)) → is_some (find_key name_cmp q (marked names)) ≡ true → list_any (eq_by_cmp name_cmp q) names ≡ true
marked_found q [] h = absurd (false≢true h)
marked_found q (name ∷ names) h =
    elim (eq_by_cmp name_cmp q name) as (λ b. is_some (cond b (Some (tt {0})) (find_key name_cmp q (marked names))) ≡ true → (b || list_any (eq_by_cmp name_cmp q) names) ≡ true) [
      | true ↦ λ h. refl
      | false ↦ λ h. marked_found q names h
    ] h

-- names in byte order are names that there were
ordered_in : (names : List (List ℕ)) (name : List ℕ) → Contains (in_byte_order names) name → Contains names name
ordered_in names name within =
    let tied : eq_by_cmp name_cmp name name ≡ true = ap is_eq (tied_itself name_total name) in
    let any = any_passes (eq_by_cmp name_cmp name) (in_byte_order names) name within tied in
    let here = fin.contains_key-keys (fin.from_entries {R = name_cmp} (marked names)) name ∙ any in
    let some = ap is_some (sym (fin.get-from_entries name_total (marked names) name)) ∙ here in
    let found = some_passes (eq_by_cmp name_cmp name) names (marked_found name names some) in
    subst (λ (n : List ℕ). Contains names n) (sym (name_same name found.item (equal_is (name_cmp name found.item) found.so))) found.among

not_so : (b : Bool) → not b ≡ true → b ≡ false
not_so true h = absurd (false≢true h)
not_so false h = refl

-- a child that a wildcard walks is one to which it leads
pub child_led_to : (trees : Rulesets) (at : List (List ℕ)) (name : List ℕ) → Contains (named_children trees at) name → Contains (children_of (fin.keys trees) at) (at ++ name ∷ [])
child_led_to trees at name within =
    let kept = passes (λ (n : List ℕ). not (is_reserved n)) (child_names trees at) name within in
    let behind = given (name_behind at) (fin.keys trees) name (ordered_in (filter_map (name_behind at) (fin.keys trees)) name kept.0) in
    let child : child_on at behind.item ≡ Some (at ++ name ∷ []) =
    ap (option_and_then (named_below at)) behind.so
    ∙ ap (λ (b : Bool). if b then None else Some (at ++ name ∷ [])) (not_so (is_reserved name) kept.1) in
    gives (child_on at) (fin.keys trees) behind.item (at ++ name ∷ []) behind.among child

-- ---- what a rule does depends on the paths alone to which it leads

module _ {W : Type 0} (by : Walker W) (trees : Rulesets) (one other : List (List ℕ) → W → W) where
  children_same : (at : List (List ℕ)) (names : List (List ℕ)) → ((name : List ℕ) → Contains names name → (walk : W) → one (at ++ name ∷ []) walk ≡ other (at ++ name ∷ []) walk) → (walk : W) → each_child by one at names walk ≡ each_child by other at names walk
  children_same at [] same walk = refl
  children_same at (name ∷ names) same walk =
      elim (has_stopped by walk) as (λ b. cond b walk (each_child by one at names (one (at ++ name ∷ []) walk)) ≡ cond b walk (each_child by other at names (other (at ++ name ∷ []) walk))) [
        | true ↦ refl
        | false ↦
            ap (each_child by one at names) (same name (now_in name names) walk)
            ∙ children_same at names (λ next within. same next (later_in name names next within)) (other (at ++ name ∷ []) walk)
      ]

  called_same : (children : Bool) (target : Option (List (List ℕ))) → ((path : List (List ℕ)) → Contains (led_to (fin.keys trees) children target) path → (walk : W) → one path walk ≡ other path walk) → (walk : W) → called by (named_children trees) one children target walk ≡ called by (named_children trees) other children target walk
  called_same true None same walk = refl
  called_same false None same walk = refl
  called_same false (Some target) same walk = same target (now_in target []) walk
  called_same true (Some target) same walk =
      children_same target (named_children trees target) (λ name within. same (target ++ name ∷ []) (child_led_to trees target name within)) walk

  -- where the calls of a rule lead
  abbrev rule_leads : List (List ℕ) → Option Call → List (List ℕ) → Type 0
  rule_leads at None path = ⊥
  rule_leads at (Some to) path = Contains (called_paths (fin.keys trees) at to) path

  pub acted_same : (at : List (List ℕ)) (action : Action) (effect : Effect) → ((path : List (List ℕ)) → rule_leads at (call_of action) path → (walk : W) → one path walk ≡ other path walk) → (walk : W) → acted by (named_children trees) one at action effect walk ≡ acted by (named_children trees) other at action effect walk
  acted_same at Pass effect same walk = refl
  acted_same at (Block kind) effect same walk = refl
  acted_same at Match effect same walk = refl
  acted_same at (Anchor to) effect same walk =
      ap (by.leave effect.quick walk) (called_same to.children (target_of to at) same (by.enter walk))

  -- so do the rules of a path
  leads_on : (at : List (List ℕ)) (rule : Rule) (path : List (List ℕ)) → Contains (written_in (fin.get trees at)) rule → rule_leads at (call_of rule.effect.action) path → Contains ((graph_in trees).steps at) path
  leads_on at rule path within = cases (call_of rule.effect.action) refl
    where
      cases : (o : Option Call) → call_of rule.effect.action ≡ o → rule_leads at o path → Contains ((graph_in trees).steps at) path
      cases None e leads = absurd leads
      cases (Some to) e leads =
          in_flat (called_paths (fin.keys trees) at) (calls_in (written_in (fin.get trees at))) to path
          (gives (λ (r : Rule). call_of r.effect.action) (written_in (fin.get trees at)) rule to within e) leads

  pub do_alike : (facts : HostFacts) (at : List (List ℕ)) → ((path : List (List ℕ)) → Contains ((graph_in trees).steps at) path → (walk : W) → one path walk ≡ other path walk) → DoAlike (walking_at by (written_world trees facts) one at) (walking_at by (written_world trees facts) other at) (written_in (fin.get trees at))
  do_alike facts at same = record {
    stops = λ walk. refl;
    hits = λ k d low walk going. refl;
    deeds = λ k d low walk going hits.
        let rule = get_or (written_in (fin.get trees at)) k d in
        acted_same at rule.effect.action rule.effect (λ path leads. same path (leads_on at rule path (place_in (written_in (fin.get trees at)) k d low) leads)) walk;
  }

-- ---- the bound

-- what is promised of walks through lists of rules
pub record ListLaws (W : Type 0) : Type 0 where
  pub alike : (one other : Walking W Rule) (rules : List Rule) (walk : W) → DoAlike one other rules → walked_through one rules walk ≡ walked_through other rules walk

module _ {W : Type 0} (laws : ListLaws W) (by : Walker W) (trees : Rulesets) (facts : HostFacts) where
  abbrev world : World
  world = written_world trees facts

  abbrev graph : Graph (List (List ℕ))
  graph = graph_in trees

  abbrev rules_at : List (List ℕ) → List Rule
  rules_at at = written_in (fin.get trees at)

  -- where no ruleset is, nothing is walked
  nothing_walked : (at : List (List ℕ)) → graph.has at ≡ false → (on : Walking W Rule) (walk : W) → walked_through on (rules_at at) walk ≡ walk
  nothing_walked at out on walk = ap (λ (rules : List Rule). walked_through on rules walk) (no_rules trees at out)

  within_outside : (n : ℕ) (at : List (List ℕ)) → graph.has at ≡ false → (walk : W) → walk_within by world n at walk ≡ walk
  within_outside zero at out walk = refl
  within_outside (suc n) at out walk = nothing_walked at out (walking_at by world (walk_within by world n) at) walk

  module _ (rank : List (List ℕ) → ℕ) (ranking : IsRanking graph rank) where
    pub falls : (at path : List (List ℕ)) → graph.has at ≡ true → Contains (graph.steps at) path → rank path < rank at
    falls at path inside leads = rank_falls graph rank ranking at path (record { inside = inside; leads = leads })

    pub not_zero : (at : List (List ℕ)) → graph.has at ≡ true → rank at ≤ 0 → ⊥
    not_zero at inside low = let is = rank_inside graph rank ranking at inside in omega arith

    -- any two bounds that are large enough
    pub within_enough : (n m : ℕ) (at : List (List ℕ)) → rank at ≤ n → rank at ≤ m → (walk : W) → walk_within by world n at walk ≡ walk_within by world m at walk
    within_enough zero m at low high walk =
        elim (in_or_out graph at) [
          | inr out ↦ sym (within_outside m at out walk)
          | inl inside ↦ absurd (not_zero at inside low)
        ]
    within_enough (suc n) zero at low high walk =
        elim (in_or_out graph at) [
          | inr out ↦ within_outside (suc n) at out walk
          | inl inside ↦ absurd (not_zero at inside high)
        ]
    within_enough (suc n) (suc m) at low high walk =
        elim (in_or_out graph at) [
          | inr out ↦ within_outside (suc n) at out walk ∙ sym (within_outside (suc m) at out walk)
          | inl inside ↦
              laws.alike (walking_at by world (walk_within by world n) at) (walking_at by world (walk_within by world m) at) (rules_at at) walk
              (do_alike by trees (walk_within by world n) (walk_within by world m) facts at (λ path leads w.
              let less = falls at path inside leads in
              within_enough n m path (omega arith) (omega arith) w))
        ]

    -- a walk by the rules is the walk with a bound that is large enough
    pub walk_is_within : (walk_from : List (List ℕ) → W → W) → IsWalk by world walk_from → (n : ℕ) (at : List (List ℕ)) → rank at ≤ n → (walk : W) → walk_from at walk ≡ walk_within by world n at walk
    walk_is_within walk_from is zero at low walk =
        elim (in_or_out graph at) [
          | inr out ↦ is.is at walk ∙ nothing_walked at out (walking_at by world walk_from at) walk
          | inl inside ↦ absurd (not_zero at inside low)
        ]
    walk_is_within walk_from is (suc n) at low walk =
        elim (in_or_out graph at) [
          | inr out ↦ is.is at walk ∙ nothing_walked at out (walking_at by world walk_from at) walk ∙ sym (within_outside (suc n) at out walk)
          | inl inside ↦
              is.is at walk
              ∙ laws.alike (walking_at by world walk_from at) (walking_at by world (walk_within by world n) at) (rules_at at) walk
              (do_alike by trees walk_from (walk_within by world n) facts at (λ path leads w.
              let less = falls at path inside leads in
              walk_is_within walk_from is n path (omega arith) w))
        ]

  -- the walk with a bound that no rank exceeds
  within_walks : (n : ℕ) → IsShallow graph n → IsWalk by world (walk_within by world n)
  within_walks n shallow = record {
    is = λ at walk.
        let deep = shallow.no_deep at in
        within_enough shallow.rank shallow.ranking n (suc n) at deep (omega (arith, deep)) walk;
  }

  within_only : (n : ℕ) → IsShallow graph n → (walk_from : List (List ℕ) → W → W) → IsWalk by world walk_from → (at : List (List ℕ)) (walk : W) → walk_from at walk ≡ walk_within by world n at walk
  within_only n shallow walk_from is at walk = walk_is_within shallow.rank shallow.ranking walk_from is n at (shallow.no_deep at) walk

  pub bound_walks : IsShallow graph 64 → IsWalk by world (walk_at by world)
  unfolding walk_at
  bound_walks shallow = within_walks 64 shallow

  pub bound_only : IsShallow graph 64 → (walk_from : List (List ℕ) → W → W) → IsWalk by world walk_from → (at : List (List ℕ)) (walk : W) → walk_from at walk ≡ walk_at by world at walk
  unfolding walk_at
  bound_only shallow walk_from is at walk = within_only 64 shallow walk_from is at walk

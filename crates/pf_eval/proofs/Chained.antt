-- Where calls go in no circle and not too deep, the bound of the tests isn't seen.
use Rattle.std.proofs.Common.{◌≡◌, ℕ, zero, suc, ◌+◌, ◌≤◌, cond, Bool, true, false, not, ◌||◌, List, [], ◌∷◌, ◌++◌, length, Option, Some, None, refl, sym, ap, ◌∙◌, inl, inr, arith, if◌then◌else◌}
use Rattle.std.specs.Prelude.{Contains}
use Rattle.std.proofs.lemmas.Bool.{false≢true}
use Rattle.std.proofs.lemmas.Map.Made.{is_member-Decides}
use Rattle.std.specs.FinMap as fin
use Rattle.std.specs.List.{list_all}
use Rattle.std.specs.Set.{is_member}
use Rattle.pf_base.specs.declared.kind.Level.{Level}
use Rattle.pf_calls.specs.CallLaws.{paths_decide}
use Rattle.pf_calls.specs.Calls.{called as called_paths, led_to, path_eq}
use Rattle.pf_calls.specs.Graph.{IsRanking, IsShallow}
use Rattle.pf_calls.specs.GraphLaws.{in_or_out, later_in, none_in, now_in, pass_all, pass_each}
use Rattle.pf_eval.proofs.Bounds.{ListLaws, acted_same, child_led_to, falls, has_path, not_zero, walk_is_within, within_enough}
use Rattle.pf_eval.proofs.Lists.{gives, in_flat}
use Rattle.pf_eval.specs.Answers.{optimised_world, written_world}
use Rattle.pf_eval.specs.Chain.{IsChain, passed_over, tests_acted, tests_at, tests_below, tests_called, tests_in, tests_within}
use Rattle.pf_eval.specs.Rulesets.{AreSound, Rulesets, call_of, calls_in, graph_in, named_children, optimised_in, written_in}
use Rattle.pf_eval.specs.World.{IsWalk, Walker, World, acted, has_stopped, walk_at, walk_within, walking_at}
use Rattle.pf_host.specs.Facts.{HostFacts}
use Rattle.pf_optim.specs.Optimised.{optimised}
use Rattle.pf_optim.specs.declared.node.Node.{Node}
use Rattle.pf_parts.specs.CallTarget.{target_of}
use Rattle.pf_parts.specs.declared.call.Call.{Call}
use Rattle.pf_rule.specs.Effect.{is_anchor}
use Rattle.pf_rule.specs.Hit.{tested_at}
use Rattle.pf_rule.specs.Walking.{Walking, walked_past}
use Rattle.pf_rule.specs.declared.effect.Action.{Action}
use Rattle.pf_rule.specs.declared.effect.Action.TheVariants.{Pass, Block, Match, Anchor}
use Rattle.pf_rule.specs.declared.rule.Rule.{Rule}
use Rattle.pf_rule.specs.declared.testing.Tested.{Tested}

-- what is promised of the anchor rules of an optimised form
pub record AnchorLaws : Type 0 where
  pub anchors : (test : Rule → Bool) (level : Level) (rules : List Rule) (weights : List ℕ) → length rules ≡ length weights → list_all (λ rule. not (is_anchor rule.effect.action) || test rule) rules ≡ true → list_all (λ rule. not (is_anchor rule.effect.action) || test rule) (optimised level rules weights).rules ≡ true

-- ---- where optimised rules lead

module _ (trees : Rulesets) (at : List (List ℕ)) where
  -- the paths to which a call leads, where there is one
  abbrev pub paths_led : Option Call → List (List (List ℕ))
  paths_led None = []
  paths_led (Some to) = called_paths (fin.keys trees) at to

  abbrev leads_inside : Rule → Bool
  leads_inside rule = list_all (λ path. is_member path_eq ((graph_in trees).steps at) path) (paths_led (call_of rule.effect.action))

  written_leads : (rule : Rule) (path : List (List ℕ)) → Contains (written_in (fin.get trees at)) rule → Contains (paths_led (call_of rule.effect.action)) path → Contains ((graph_in trees).steps at) path
  written_leads rule path within = cases (call_of rule.effect.action) refl
    where
      cases : (o : Option Call) → call_of rule.effect.action ≡ o → Contains (paths_led o) path → Contains ((graph_in trees).steps at) path
      cases None e leads = absurd (none_in path leads)
      cases (Some to) e leads =
          in_flat (called_paths (fin.keys trees) at) (calls_in (written_in (fin.get trees at))) to path
          (gives (λ (r : Rule). call_of r.effect.action) (written_in (fin.get trees at)) rule to within e) leads

  written_pass : list_all (λ rule. not (is_anchor rule.effect.action) || leads_inside rule) (written_in (fin.get trees at)) ≡ true
  written_pass =
      pass_all (λ rule. not (is_anchor rule.effect.action) || leads_inside rule) (written_in (fin.get trees at)) (λ rule within.
      either (not (is_anchor rule.effect.action)) (leads_inside rule)
      (pass_all (λ path. is_member path_eq ((graph_in trees).steps at) path) (paths_led (call_of rule.effect.action)) (λ path leads.
      (is_member-Decides paths_decide ((graph_in trees).steps at) path).1 (written_leads rule path within leads))))
    where
      either : (b c : Bool) → c ≡ true → (b || c) ≡ true
      either true c e = refl
      either false c e = e

  anchor_calls : (action : Action) (to : Call) → call_of action ≡ Some to → is_anchor action ≡ true
  anchor_calls Pass to e = absurd cc
  anchor_calls (Block kind) to e = absurd cc
  anchor_calls Match to e = absurd cc
  anchor_calls (Anchor call) to e = refl

  pub optimised_leads : AnchorLaws → AreSound trees → (rule : Rule) (path : List (List ℕ)) → Contains (optimised_in (fin.get trees at)) rule → Contains (paths_led (call_of rule.effect.action)) path → Contains ((graph_in trees).steps at) path
  optimised_leads laws sound rule path within leads =
      (is_member-Decides paths_decide ((graph_in trees).steps at) path).0
      (pass_each (λ path. is_member path_eq ((graph_in trees).steps at) path) (paths_led (call_of rule.effect.action))
      (inside (call_of rule.effect.action) refl leads (passed (fin.get trees at) refl written_pass within)) path leads)
    where
      inside : (o : Option Call) → call_of rule.effect.action ≡ o → Contains (paths_led o) path → (not (is_anchor rule.effect.action) || leads_inside rule) ≡ true → leads_inside rule ≡ true
      inside None e leads h = absurd (none_in path leads)
      inside (Some to) e leads h = sym (ap (λ (b : Bool). not b || leads_inside rule) (anchor_calls rule.effect.action to e)) ∙ h

      passed : (o : Option Node) → fin.get trees at ≡ o → list_all (λ rule. not (is_anchor rule.effect.action) || leads_inside rule) (written_in o) ≡ true → Contains (optimised_in o) rule → (not (is_anchor rule.effect.action) || leads_inside rule) ≡ true
      passed None e h within = absurd (none_in rule within)
      passed (Some node) e h within =
          pass_each (λ rule. not (is_anchor rule.effect.action) || leads_inside rule) (optimised node.rules.level node.rules.rules node.rules.weights).rules
          (laws.anchors leads_inside node.rules.level node.rules.rules node.rules.weights (sound.each at node e).weighed h) rule within

-- ---- tests depend on the paths alone to which rules lead

module _ {W : Type 0} (by : Walker W) (trees : Rulesets) (one other : List (List ℕ) → W → W) (few many : List (List ℕ) → W → ℕ) where
  below_same : (at : List (List ℕ)) (names : List (List ℕ)) → ((name : List ℕ) → Contains names name → (walk : W) → one (at ++ name ∷ []) walk ≡ other (at ++ name ∷ []) walk) → ((name : List ℕ) → Contains names name → (walk : W) → few (at ++ name ∷ []) walk ≡ many (at ++ name ∷ []) walk) → (walk : W) → tests_below by one few at names walk ≡ tests_below by other many at names walk
  below_same at [] same alike walk = refl
  below_same at (name ∷ names) same alike walk =
      elim (has_stopped by walk) as (λ b. cond b 0 (few (at ++ name ∷ []) walk + tests_below by one few at names (one (at ++ name ∷ []) walk)) ≡ cond b 0 (many (at ++ name ∷ []) walk + tests_below by other many at names (other (at ++ name ∷ []) walk))) [
        | true ↦ refl
        | false ↦
            ap (λ (n : ℕ). n + tests_below by one few at names (one (at ++ name ∷ []) walk)) (alike name (now_in name names) walk)
            ∙ ap (λ (w : W). many (at ++ name ∷ []) walk + tests_below by one few at names w) (same name (now_in name names) walk)
            ∙ ap (λ (n : ℕ). many (at ++ name ∷ []) walk + n) (below_same at names (λ next within. same next (later_in name names next within)) (λ next within. alike next (later_in name names next within)) (other (at ++ name ∷ []) walk))
      ]

  called_same : (children : Bool) (target : Option (List (List ℕ))) → ((path : List (List ℕ)) → Contains (led_to (fin.keys trees) children target) path → (walk : W) → one path walk ≡ other path walk) → ((path : List (List ℕ)) → Contains (led_to (fin.keys trees) children target) path → (walk : W) → few path walk ≡ many path walk) → (walk : W) → tests_called by (named_children trees) one few children target walk ≡ tests_called by (named_children trees) other many children target walk
  called_same true None same alike walk = refl
  called_same false None same alike walk = refl
  called_same false (Some target) same alike walk = alike target (now_in target []) walk
  called_same true (Some target) same alike walk =
      below_same target (named_children trees target)
      (λ name within. same (target ++ name ∷ []) (child_led_to trees target name within))
      (λ name within. alike (target ++ name ∷ []) (child_led_to trees target name within)) walk

  cost_same : (at : List (List ℕ)) (action : Action) → ((path : List (List ℕ)) → Contains (paths_led trees at (call_of action)) path → (walk : W) → one path walk ≡ other path walk) → ((path : List (List ℕ)) → Contains (paths_led trees at (call_of action)) path → (walk : W) → few path walk ≡ many path walk) → (walk : W) → tests_acted by (named_children trees) one few at action walk ≡ tests_acted by (named_children trees) other many at action walk
  cost_same at Pass same alike walk = refl
  cost_same at (Block kind) same alike walk = refl
  cost_same at Match same alike walk = refl
  cost_same at (Anchor to) same alike walk = called_same to.children (target_of to at) same alike (by.enter walk)

  deed_same : (at : List (List ℕ)) (rule : Rule) → ((path : List (List ℕ)) → Contains (paths_led trees at (call_of rule.effect.action)) path → (walk : W) → one path walk ≡ other path walk) → (walk : W) → acted by (named_children trees) one at rule.effect.action rule.effect walk ≡ acted by (named_children trees) other at rule.effect.action rule.effect walk
  deed_same at rule same walk = by_action rule.effect.action same
    where
      by_action : (action : Action) → ((path : List (List ℕ)) → Contains (paths_led trees at (call_of action)) path → (walk : W) → one path walk ≡ other path walk) → acted by (named_children trees) one at action rule.effect walk ≡ acted by (named_children trees) other at action rule.effect walk
      by_action Pass same = refl
      by_action (Block kind) same = refl
      by_action Match same = refl
      by_action (Anchor to) same = acted_same by trees one other at (Anchor to) rule.effect same walk

  module _ (world : World) (children_are : world.children ≡ named_children trees) (at : List (List ℕ)) where
    abbrev on : (List (List ℕ) → W → W) → Walking W Rule
    on call = record {
      stopped = has_stopped by;
      hits = λ rule walk. (walking_at by world call at).hits rule walk;
      deed = λ rule walk. acted by (named_children trees) call at rule.effect.action rule.effect walk;
    }

    abbrev cost : (List (List ℕ) → W → W) → (List (List ℕ) → W → ℕ) → Rule → W → ℕ
    cost call tests rule walk = tests_acted by (named_children trees) call tests at rule.effect.action walk

    list_same : (test : Rule → W → Tested) (rules : List Rule) (passed : ℕ) → ((rule : Rule) → Contains rules rule → (walk : W) → (on one).deed rule walk ≡ (on other).deed rule walk) → ((rule : Rule) → Contains rules rule → (walk : W) → cost one few rule walk ≡ cost other many rule walk) → (walk : W) → tests_in (on one) test (cost one few) rules passed walk ≡ tests_in (on other) test (cost other many) rules passed walk
    list_same test [] passed deeds costs walk = refl
    list_same test (rule ∷ rules) (suc passed) deeds costs walk =
        list_same test rules passed (λ r within. deeds r (later_in rule rules r within)) (λ r within. costs r (later_in rule rules r within)) walk
    list_same test (rule ∷ rules) zero deeds costs walk =
        elim (has_stopped by walk) as (λ b. cond b 0 (1 + (if (on one).hits rule walk then cost one few rule walk else 0) + tests_in (on one) test (cost one few) rules (passed_over (test rule walk) rule rules) (walked_past (on one) rule walk)) ≡ cond b 0 (1 + (if (on one).hits rule walk then cost other many rule walk else 0) + tests_in (on other) test (cost other many) rules (passed_over (test rule walk) rule rules) (walked_past (on other) rule walk))) [
          | true ↦ refl
          | false ↦
              ap (λ (n : ℕ). 1 + (if (on one).hits rule walk then n else 0) + tests_in (on one) test (cost one few) rules (passed_over (test rule walk) rule rules) (walked_past (on one) rule walk)) (costs rule (now_in rule rules) walk)
              ∙ ap (λ (w : W). 1 + (if (on one).hits rule walk then cost other many rule walk else 0) + tests_in (on one) test (cost one few) rules (passed_over (test rule walk) rule rules) (if (on one).hits rule walk then w else walk)) (deeds rule (now_in rule rules) walk)
              ∙ ap (λ (n : ℕ). 1 + (if (on one).hits rule walk then cost other many rule walk else 0) + n)
              (list_same test rules (passed_over (test rule walk) rule rules) (λ r within. deeds r (later_in rule rules r within)) (λ r within. costs r (later_in rule rules r within)) (walked_past (on other) rule walk))
        ]

-- ---- the bound

module _ {W : Type 0} (lists : ListLaws W) (laws : AnchorLaws) (by : Walker W) (trees : Rulesets) (facts : HostFacts) (sound : AreSound trees) where
  abbrev fast : World
  fast = optimised_world trees facts

  abbrev plain : World
  plain = written_world trees facts

  -- the tests at a path, where the rulesets that are called are walked and tested like this
  abbrev tests_by : (List (List ℕ) → W → W) → (List (List ℕ) → W → ℕ) → List (List ℕ) → W → ℕ
  tests_by call tests at walk =
      tests_in (walking_at by fast call at) (λ rule walk. tested_at (fast.around at) rule (by.seen walk))
      (λ rule walk. tests_acted by (named_children trees) call tests at rule.effect.action walk) (fast.rules at) 0 walk

  tests_same : (one other : List (List ℕ) → W → W) (few many : List (List ℕ) → W → ℕ) (at : List (List ℕ)) → ((path : List (List ℕ)) → Contains ((graph_in trees).steps at) path → (walk : W) → one path walk ≡ other path walk) → ((path : List (List ℕ)) → Contains ((graph_in trees).steps at) path → (walk : W) → few path walk ≡ many path walk) → (walk : W) → tests_by one few at walk ≡ tests_by other many at walk
  tests_same one other few many at same alike walk =
      list_same by trees one other few many fast refl at (λ rule walk. tested_at (fast.around at) rule (by.seen walk)) (fast.rules at) 0
      (λ rule within w. deed_same by trees one other few many at rule (λ path leads. same path (optimised_leads trees at laws sound rule path within leads)) w)
      (λ rule within w. cost_same by trees one other few many at rule.effect.action (λ path leads. same path (optimised_leads trees at laws sound rule path within leads)) (λ path leads. alike path (optimised_leads trees at laws sound rule path within leads)) w)
      walk

  -- outside the map there are no rules
  no_tests : (call : List (List ℕ) → W → W) (tests : List (List ℕ) → W → ℕ) (at : List (List ℕ)) → (graph_in trees).has at ≡ false → (walk : W) → tests_by call tests at walk ≡ 0
  no_tests call tests at out walk = cases (fin.get trees at) refl
    where
      cases : (o : Option Node) → fin.get trees at ≡ o → tests_by call tests at walk ≡ 0
      cases None e =
          ap (λ (n : Option Node). tests_in (walking_at by fast call at) (λ rule walk. tested_at (fast.around at) rule (by.seen walk))
          (λ rule walk. tests_acted by (named_children trees) call tests at rule.effect.action walk) (optimised_in n) 0 walk) e
      cases (Some node) e = absurd (false≢true (sym out ∙ has_path trees at node e))

  none_within : (n : ℕ) (at : List (List ℕ)) → (graph_in trees).has at ≡ false → (walk : W) → tests_within by fast plain n at walk ≡ 0
  none_within zero at out walk = refl
  none_within (suc n) at out walk = no_tests (walk_within by plain n) (tests_within by fast plain n) at out walk

  module _ (rank : List (List ℕ) → ℕ) (ranking : IsRanking (graph_in trees) rank) where
    tests_enough : (n m : ℕ) (at : List (List ℕ)) → rank at ≤ n → rank at ≤ m → (walk : W) → tests_within by fast plain n at walk ≡ tests_within by fast plain m at walk
    tests_enough zero m at low high walk =
        elim (in_or_out (graph_in trees) at) [
          | inr out ↦ sym (none_within m at out walk)
          | inl inside ↦ absurd (not_zero lists by trees facts rank ranking at inside low)
        ]
    tests_enough (suc n) zero at low high walk =
        elim (in_or_out (graph_in trees) at) [
          | inr out ↦ none_within (suc n) at out walk
          | inl inside ↦ absurd (not_zero lists by trees facts rank ranking at inside high)
        ]
    tests_enough (suc n) (suc m) at low high walk =
        elim (in_or_out (graph_in trees) at) [
          | inr out ↦ none_within (suc n) at out walk ∙ sym (none_within (suc m) at out walk)
          | inl inside ↦
              tests_same (walk_within by plain n) (walk_within by plain m) (tests_within by fast plain n) (tests_within by fast plain m) at
              (λ path leads w.
              let less = falls lists by trees facts rank ranking at path inside leads in
              within_enough lists by trees facts rank ranking n m path (omega arith) (omega arith) w)
              (λ path leads w.
              let less = falls lists by trees facts rank ranking at path inside leads in
              tests_enough n m path (omega arith) (omega arith) w) walk
        ]

    chain_within : (walk_from : List (List ℕ) → W → W) (tests_from : List (List ℕ) → W → ℕ) → IsWalk by plain walk_from → IsChain by fast walk_from tests_from → (n : ℕ) (at : List (List ℕ)) → rank at ≤ n → (walk : W) → tests_from at walk ≡ tests_within by fast plain n at walk
    chain_within walk_from tests_from is chain zero at low walk =
        elim (in_or_out (graph_in trees) at) [
          | inr out ↦ chain.is at walk ∙ no_tests walk_from tests_from at out walk
          | inl inside ↦ absurd (not_zero lists by trees facts rank ranking at inside low)
        ]
    chain_within walk_from tests_from is chain (suc n) at low walk =
        elim (in_or_out (graph_in trees) at) [
          | inr out ↦ chain.is at walk ∙ no_tests walk_from tests_from at out walk ∙ sym (none_within (suc n) at out walk)
          | inl inside ↦
              chain.is at walk
              ∙ tests_same walk_from (walk_within by plain n) tests_from (tests_within by fast plain n) at
              (λ path leads w.
              let less = falls lists by trees facts rank ranking at path inside leads in
              walk_is_within lists by trees facts rank ranking walk_from is n path (omega arith) w)
              (λ path leads w.
              let less = falls lists by trees facts rank ranking at path inside leads in
              chain_within walk_from tests_from is chain n path (omega arith) w) walk
        ]

  within_is : (n : ℕ) → IsShallow (graph_in trees) n → IsChain by fast (walk_within by plain n) (tests_within by fast plain n)
  within_is n shallow = record {
    is = λ at walk.
        let deep = shallow.no_deep at in
        tests_enough shallow.rank shallow.ranking n (suc n) at deep (omega (arith, deep)) walk;
  }

  pub chain_is : IsShallow (graph_in trees) 64 → IsChain by fast (walk_at by plain) (tests_at by fast plain)
  unfolding walk_at tests_at
  chain_is shallow = within_is 64 shallow

  within_only : (n : ℕ) → IsShallow (graph_in trees) n → (walk_from : List (List ℕ) → W → W) (tests_from : List (List ℕ) → W → ℕ) → IsWalk by plain walk_from → IsChain by fast walk_from tests_from → (at : List (List ℕ)) (walk : W) → tests_from at walk ≡ tests_within by fast plain n at walk
  within_only n shallow walk_from tests_from is chain at walk =
      chain_within shallow.rank shallow.ranking walk_from tests_from is chain n at (shallow.no_deep at) walk

  pub chain_only : IsShallow (graph_in trees) 64 → (walk_from : List (List ℕ) → W → W) (tests_from : List (List ℕ) → W → ℕ) → IsWalk by plain walk_from → IsChain by fast walk_from tests_from → (at : List (List ℕ)) (walk : W) → tests_from at walk ≡ tests_at by fast plain at walk
  unfolding tests_at
  chain_only shallow walk_from tests_from is chain at walk = within_only 64 shallow walk_from tests_from is chain at walk

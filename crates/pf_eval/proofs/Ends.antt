-- What the parts of a walk come to, over plain variables: a ruleset, an anchor rule, the children that a wildcard walks.
use Rattle.std.proofs.Common.{◌≡◌, ℕ, zero, suc, ◌+◌, ◌-◌, ◌<◌, ◌≤◌, Bool, true, false, not, ◌&&◌, ◌||◌, List, [], ◌∷◌, ◌++◌, length, drop, Option, Some, None, refl, sym, ap, ◌∙◌, arith, if◌then◌else◌}
use Rattle.std.specs.FinMap as fin
use Rattle.std.specs.List.{filter}
use Rattle.pf_base.specs.Path.{is_reserved}
use Rattle.pf_eval.proofs.Behind as behind
use Rattle.pf_eval.proofs.Skipping as skipping
use Rattle.pf_eval.specs.Rulesets.{Rulesets, named_children, optimised_in, written_in}
use Rattle.pf_eval.specs.Steps.{call_at, call_tests, children_tests, children_walk, found_at, list_tests, named_after, names_after, on_optimised, on_written, rule_tests, tests_left, walk_left}
use Rattle.pf_eval.specs.World.{anchored, behind_anchor, inside_anchor, packet_walker}
use Rattle.pf_host.specs.Facts.{HostFacts}
use Rattle.pf_optim.specs.Ruleset.{form_of}
use Rattle.pf_optim.specs.declared.node.Node.{Node}
use Rattle.pf_parts.specs.CallTarget.{target_of}
use Rattle.pf_parts.specs.declared.call.Call.{Call}
use Rattle.pf_rule.specs.Probe.{marks_of, with_marks}
use Rattle.pf_rule.specs.Walking.{walked_through}
use Rattle.pf_rule.specs.declared.rule.Rule.{Rule}
use Rattle.pf_rule.specs.declared.walk.Marks.{Marks}
use Rattle.pf_rule.specs.declared.walk.Walk.{Walk}
use Rattle.pf_tree.specs.Paths.{child_names, next_name}

drop_past : {A : Type 0} (n : ℕ) (xs : List A) → length xs ≤ n → drop n xs ≡ []
drop_past zero [] h = refl
drop_past zero (x ∷ xs) h = absurd (omega arith)
drop_past (suc n) [] h = refl
drop_past (suc n) (x ∷ xs) h = drop_past n xs (omega arith)

-- ---- the rules of a ruleset

module _ (trees : Rulesets) (facts : HostFacts) (left : ℕ) (at : List (List ℕ)) (rules : List Rule) (place : ℕ) (now : Walk) where
  -- no rule is left
  pub rules_end : length rules ≤ place → walked_through (on_optimised trees facts left at) (drop place rules) now ≡ now
  rules_end past = ap (λ (t : List Rule). walked_through (on_optimised trees facts left at) t now) (drop_past place rules past)

  pub rules_end_tests : length rules ≤ place → list_tests trees facts left at (drop place rules) now ≡ 0
  rules_end_tests past = ap (λ (t : List Rule). list_tests trees facts left at t now) (drop_past place rules past)

  -- the walk has stopped
  pub rules_stop : now.stop ≡ true → walked_through (on_optimised trees facts left at) (drop place rules) now ≡ now
  rules_stop stop = skipping.stopped_walk (on_optimised trees facts left at) (drop place rules) now stop

  pub rules_stop_tests : now.stop ≡ true → list_tests trees facts left at (drop place rules) now ≡ 0
  rules_stop_tests stop =
      skipping.stopped_tests (on_optimised trees facts left at) (found_at trees facts left at) (rule_tests trees facts left at) (drop place rules) now stop

-- ---- a ruleset

module _ (trees : Rulesets) (facts : HostFacts) (at : List (List ℕ)) (walk : Walk) where
  -- no more rulesets may be walked
  pub none_left : (left : ℕ) → left ≡ 0 → walk_left trees facts left at walk ≡ walk
  none_left left e = ap (λ (n : ℕ). walk_left trees facts n at walk) e

  pub none_left_tests : (left : ℕ) → left ≡ 0 → tests_left trees facts left at walk ≡ 0
  none_left_tests left e = ap (λ (n : ℕ). tests_left trees facts n at walk) e

  -- no ruleset is there
  pub none_there : (left : ℕ) → fin.get trees at ≡ None → walk_left trees facts left at walk ≡ walk
  none_there zero none = refl
  none_there (suc left) none = ap (λ (o : Option Node). walked_through (on_written trees facts left at) (written_in o) walk) none

  pub none_there_tests : (left : ℕ) → fin.get trees at ≡ None → tests_left trees facts left at walk ≡ 0
  none_there_tests zero none = refl
  none_there_tests (suc left) none = ap (λ (o : Option Node). list_tests trees facts left at (optimised_in o) walk) none

  -- the one that is
  pub ruleset_walk : (node : Node) (left : ℕ) → 0 < left → fin.get trees at ≡ Some node →
      walked_through (on_optimised trees facts (left - 1) at) (form_of node.rules).rules walk ≡ walked_through (on_written trees facts (left - 1) at) node.rules.rules walk →
      walk_left trees facts left at walk ≡ walked_through (on_optimised trees facts (left - 1) at) (form_of node.rules).rules walk
  ruleset_walk node zero some there stands = absurd (omega arith)
  ruleset_walk node (suc left) some there stands =
      let less : left ≡ suc left - 1 = omega arith in
      ap (λ (o : Option Node). walked_through (on_written trees facts left at) (written_in o) walk) there
      ∙ ap (λ (n : ℕ). walked_through (on_written trees facts n at) node.rules.rules walk) less
      ∙ sym stands

  pub ruleset_tests : (node : Node) (left : ℕ) → 0 < left → fin.get trees at ≡ Some node → tests_left trees facts left at walk ≡ list_tests trees facts (left - 1) at (form_of node.rules).rules walk
  ruleset_tests node zero some there = absurd (omega arith)
  ruleset_tests node (suc left) some there =
      let less : left ≡ suc left - 1 = omega arith in
      ap (λ (o : Option Node). list_tests trees facts left at (optimised_in o) walk) there
      ∙ ap (λ (n : ℕ). list_tests trees facts n at (form_of node.rules).rules walk) less

-- ---- an anchor rule

module _ (trees : Rulesets) (facts : HostFacts) (left : ℕ) (at : List (List ℕ)) (to : Call) (walk one : Walk) (before : Marks) (before_is : before ≡ marks_of walk) (one_is : one ≡ with_marks (record { matched = false; stop = before.stop }) walk) where
  pub inside_is : one ≡ inside_anchor walk
  inside_is = one_is ∙ ap (λ (m : Marks). with_marks (record { matched = false; stop = m.stop }) walk) before_is

  pub anchor_tests : call_tests trees facts left to.children (target_of to at) one ≡ call_tests trees facts left to.children (target_of to at) (packet_walker.enter walk)
  anchor_tests = ap (λ (w : Walk). call_tests trees facts left to.children (target_of to at) w) inside_is

  pub anchor_walk : (quick : Bool) (two new : Walk) (after : Marks) → two ≡ call_at trees facts left to.children (target_of to at) one → after ≡ marks_of two →
      new ≡ with_marks (record { matched = before.matched || after.matched; stop = after.stop || (quick && after.matched) }) two →
      new ≡ anchored packet_walker (named_children trees) (walk_left trees facts left) at to quick walk
  anchor_walk quick two new after two_is after_is new_is =
      new_is
      ∙ ap (λ (m : Marks). with_marks (record { matched = m.matched || after.matched; stop = after.stop || (quick && after.matched) }) two) before_is
      ∙ ap (λ (m : Marks). with_marks (record { matched = walk.matched || m.matched; stop = m.stop || (quick && m.matched) }) two) after_is
      ∙ ap (behind_anchor quick walk) (two_is ∙ ap (λ (w : Walk). call_at trees facts left to.children (target_of to at) w) inside_is)

-- ---- children

module _ (trees : Rulesets) (facts : HostFacts) (left : ℕ) (at : List (List ℕ)) (now : Walk) where
  -- before the first
  pub children_start : named_after trees at None ≡ named_children trees at
  children_start = ap (λ (names : List (List ℕ)). filter (λ (name : List ℕ). not (is_reserved name)) names) (behind.all_names (child_names trees at))

  -- behind the last
  pub children_end : (last : Option (List ℕ)) → next_name trees at last ≡ None → children_walk trees facts left at (named_after trees at last) now ≡ now
  children_end last none =
      ap (λ (names : List (List ℕ)). children_walk trees facts left at (filter (λ (name : List ℕ). not (is_reserved name)) names) now) (behind.no_more trees at last none)

  pub children_end_tests : (last : Option (List ℕ)) → next_name trees at last ≡ None → children_tests trees facts left at (named_after trees at last) now ≡ 0
  children_end_tests last none =
      ap (λ (names : List (List ℕ)). children_tests trees facts left at (filter (λ (name : List ℕ). not (is_reserved name)) names) now) (behind.no_more trees at last none)

  -- after a walk that has stopped
  pub children_stop : (names : List (List ℕ)) → now.stop ≡ true → children_walk trees facts left at names now ≡ now
  children_stop names stop = behind.stopped_children packet_walker (walk_left trees facts left) (tests_left trees facts left) at now names stop

  pub children_stop_tests : (names : List (List ℕ)) → now.stop ≡ true → children_tests trees facts left at names now ≡ 0
  children_stop_tests names stop = behind.stopped_below packet_walker (walk_left trees facts left) (tests_left trees facts left) at now names stop

  module _ (last : Option (List ℕ)) (name : List ℕ) (some : next_name trees at last ≡ Some name) where
    -- fewer are left
    pub children_less : length (names_after (Some name) (child_names trees at)) < length (names_after last (child_names trees at))
    children_less =
        let more = ap (λ (names : List (List ℕ)). length names) (behind.one_more trees at last name some) in
        omega (arith, more)

    left_names : named_after trees at last ≡ filter (λ (n : List ℕ). not (is_reserved n)) (name ∷ names_after (Some name) (child_names trees at))
    left_names = ap (λ (names : List (List ℕ)). filter (λ (n : List ℕ). not (is_reserved n)) names) (behind.one_more trees at last name some)

    pub children_step : now.stop ≡ false → (new : Walk) → new ≡ (if is_reserved name then now else walk_left trees facts left (at ++ name ∷ []) now) → children_walk trees facts left at (named_after trees at (Some name)) new ≡ children_walk trees facts left at (named_after trees at last) now
    children_step going new new_is =
        ap (λ (w : Walk). children_walk trees facts left at (named_after trees at (Some name)) w) new_is
        ∙ sym (ap (λ (names : List (List ℕ)). children_walk trees facts left at names now) left_names
        ∙ behind.next_child packet_walker (walk_left trees facts left) (tests_left trees facts left) at now name (names_after (Some name) (child_names trees at)) going)

    pub children_step_tests : now.stop ≡ false → (new : Walk) (before after : ℕ) → new ≡ (if is_reserved name then now else walk_left trees facts left (at ++ name ∷ []) now) → after ≡ before + (if is_reserved name then 0 else tests_left trees facts left (at ++ name ∷ []) now) →
        after + children_tests trees facts left at (named_after trees at (Some name)) new ≡ before + children_tests trees facts left at (named_after trees at last) now
    children_step_tests going new before after new_is after_is =
        let moved = ap (λ (w : Walk). children_tests trees facts left at (named_after trees at (Some name)) w) new_is in
        let here : children_tests trees facts left at (named_after trees at last) now ≡ (if is_reserved name then 0 else tests_left trees facts left (at ++ name ∷ []) now) + children_tests trees facts left at (named_after trees at (Some name)) (if is_reserved name then now else walk_left trees facts left (at ++ name ∷ []) now) =
        ap (λ (names : List (List ℕ)). children_tests trees facts left at names now) left_names
        ∙ behind.next_below packet_walker (walk_left trees facts left) (tests_left trees facts left) at now name (names_after (Some name) (child_names trees at)) going in
        omega (arith, after_is, moved, here)

use Rattle.std.proofs.Common.{◌≡◌, ℕ, ◌+◌, ◌-◌, List, [], ◌∷◌, ◌++◌, length, get_or, drop, Some, None, refl, sym, ap, ◌∙◌, subst, arith}
use Rattle.std.specs.FinMap as fin
use Rattle.std.specs.Option.{option_copied}
use Rattle.pf_base.specs.Path.{is_reserved}
use Rattle.pf_eval.proofs.Answering.{if_false, if_true}
use Rattle.pf_eval.proofs.Arms.{around_here, hit_tests, hit_walk, other_tests, other_walk, skip_tests, skip_walk}
use Rattle.pf_eval.proofs.Deeds.{below_tests, below_walk, call_cost, call_walk, none_plain, nowhere_tests, nowhere_walk, plain_cost, plain_walk, target_tests, target_walk}
use Rattle.pf_eval.proofs.Ends.{anchor_tests, anchor_walk, children_end, children_end_tests, children_less, children_start, children_step, children_step_tests, children_stop, children_stop_tests, none_left, none_left_tests, none_there, none_there_tests, rules_end, rules_end_tests, rules_stop, rules_stop_tests, ruleset_tests, ruleset_walk}
use Rattle.pf_eval.specs.Steps.{children_tests, children_walk, deed_at, list_tests, named_after, on_optimised, rule_tests, tests_left, walk_left}
use Rattle.pf_optim.specs.Ruleset.{form_of}
use Rattle.pf_parts.specs.CallTarget.{target_of}
use Rattle.pf_rule.specs.Around.{Around}
use Rattle.pf_rule.specs.Hit.{Finds}
use Rattle.pf_rule.specs.Probe.{with_marks}
use Rattle.pf_rule.specs.Walking.{walked_through}
use Rattle.pf_rule.specs.declared.rule.Rule.{Rule}
use Rattle.pf_rule.specs.declared.testing.Tested.TheVariants.{Hit, Field, Other}
use Rattle.pf_rule.specs.declared.walk.Marks.{Marks}
use Rattle.pf_rule.specs.declared.walk.Walk.{Walk}
use Rattle.pf_tree.specs.Paths.{next_name}
use Rattle.pf_eval.proofs.walk.+walk.Goals as goal

-- ---- what a rule does

pub act-apply-requires : goal.act-apply-requires
act-apply-requires g t c = none_plain c.args.rule.now.effect.action c.in-None.ensures

pub act-returns-in-Some-clause-walk : goal.act-returns-in-Some-clause-walk
act-returns-in-Some-clause-walk g t c =
    c.walk_anchor.ensures.walk
    ∙ call_walk c.args.site.now.tree.now.payloads c.args.site.now.facts.now c.args.left c.args.at.now c.args.rule.now.effect (g.P.Probe.walk c.args.probe.now) c.args.rule.now.effect.action c.in-Some.call.now c.in-Some.ensures

pub act-returns-in-Some-clause-counted : goal.act-returns-in-Some-clause-counted
act-returns-in-Some-clause-counted g t c =
    c.walk_anchor.ensures.counted
    ∙ ap (λ (n : ℕ). c.args.steps.now + n) (call_cost c.args.site.now.tree.now.payloads c.args.site.now.facts.now c.args.left c.args.at.now c.args.rule.now.effect (g.P.Probe.walk c.args.probe.now) c.args.rule.now.effect.action c.in-Some.call.now c.in-Some.ensures)

pub act-returns-in-None-clause-walk : goal.act-returns-in-None-clause-walk
act-returns-in-None-clause-walk g t c =
    c.apply.ensures
    ∙ plain_walk c.args.site.now.tree.now.payloads c.args.site.now.facts.now c.args.left c.args.at.now c.args.rule.now.effect (g.P.Probe.walk c.args.probe.now) c.args.rule.now.effect.action c.in-None.ensures

pub act-returns-in-None-clause-counted : goal.act-returns-in-None-clause-counted
act-returns-in-None-clause-counted g t c =
    let none = plain_cost c.args.site.now.tree.now.payloads c.args.site.now.facts.now c.args.left c.args.at.now c.args.rule.now.effect (g.P.Probe.walk c.args.probe.now) c.args.rule.now.effect.action c.in-None.ensures in
    omega (arith, none)

-- ---- a rule and its test

pub take_rule-returns-in-Hit-clause-walk : goal.take_rule-returns-in-Hit-clause-walk
take_rule-returns-in-Hit-clause-walk g t c =
    let trees = c.args.site.now.tree.now.payloads in
    let facts = c.args.site.now.facts.now in
    let left = c.args.left in
    let at = c.args.at.now in
    let node = c.args.tables.now.own.now in
    let rules = (form_of node.rules).rules in
    let rule = c.index-fast-place.result in
    let walk = g.P.Probe.walk c.args.probe.now in
    let is : rule ≡ get_or rules c.args.place rule = c.index-fast-place.is ∙ ap (λ (xs : List Rule). get_or xs c.args.place rule) c.fast.ensures.rules in
    let finds = subst (λ (a : Around). Finds a rule walk Hit) (around_here trees facts at node (option_copied c.args.tables.now.main) c.requires.own c.requires.main) c.in-Hit.ensures.found in
    hit_walk trees facts left at rules c.args.place rule c.requires.inside is walk c.requires.going finds (g.P.Probe.walk c.act.new.probe)
    (c.act.ensures.walk ∙ ap (λ (w : Walk). deed_at trees facts left at rule.effect.action rule.effect w) c.in-Hit.ensures.same)

pub take_rule-returns-in-Hit-clause-counted : goal.take_rule-returns-in-Hit-clause-counted
take_rule-returns-in-Hit-clause-counted g t c =
    let trees = c.args.site.now.tree.now.payloads in
    let facts = c.args.site.now.facts.now in
    let left = c.args.left in
    let at = c.args.at.now in
    let node = c.args.tables.now.own.now in
    let rules = (form_of node.rules).rules in
    let rule = c.index-fast-place.result in
    let walk = g.P.Probe.walk c.args.probe.now in
    let is : rule ≡ get_or rules c.args.place rule = c.index-fast-place.is ∙ ap (λ (xs : List Rule). get_or xs c.args.place rule) c.fast.ensures.rules in
    let finds = subst (λ (a : Around). Finds a rule walk Hit) (around_here trees facts at node (option_copied c.args.tables.now.main) c.requires.own c.requires.main) c.in-Hit.ensures.found in
    hit_tests trees facts left at rules c.args.place rule c.requires.inside is walk c.requires.going finds (g.P.Probe.walk c.act.new.probe) c.args.steps.now c.test.new.steps c.act.new.steps
    (c.act.ensures.walk ∙ ap (λ (w : Walk). deed_at trees facts left at rule.effect.action rule.effect w) c.in-Hit.ensures.same)
    c.in-Hit.ensures.counted
    (c.act.ensures.counted ∙ ap (λ (w : Walk). c.test.new.steps + rule_tests trees facts left at rule w) c.in-Hit.ensures.same)

pub take_rule-skip-requires-clause-known : goal.take_rule-skip-requires-clause-known
take_rule-skip-requires-clause-known g t c = c.in-Field.ensures.found.few c.in-Field.field refl

pub take_rule-returns-in-Field-clause-further : goal.take_rule-returns-in-Field-clause-further
take_rule-returns-in-Field-clause-further g t c = c.skip.ensures.is.behind

pub take_rule-returns-in-Field-clause-walk : goal.take_rule-returns-in-Field-clause-walk
take_rule-returns-in-Field-clause-walk g t c =
    let trees = c.args.site.now.tree.now.payloads in
    let facts = c.args.site.now.facts.now in
    let left = c.args.left in
    let at = c.args.at.now in
    let node = c.args.tables.now.own.now in
    let rules = (form_of node.rules).rules in
    let rule = c.index-fast-place.result in
    let walk = g.P.Probe.walk c.args.probe.now in
    let is : rule ≡ get_or rules c.args.place rule = c.index-fast-place.is ∙ ap (λ (xs : List Rule). get_or xs c.args.place rule) c.fast.ensures.rules in
    let finds = subst (λ (a : Around). Finds a rule walk (Field c.in-Field.field)) (around_here trees facts at node (option_copied c.args.tables.now.main) c.requires.own c.requires.main) c.in-Field.ensures.found in
    ap (λ (w : Walk). walked_through (on_optimised trees facts left at) (drop c.skip.result rules) w) c.in-Field.ensures.same
    ∙ ap (λ (k : ℕ). walked_through (on_optimised trees facts left at) (drop k rules) walk) c.skip.ensures.skip
    ∙ skip_walk trees facts left at rules c.args.place rule c.requires.inside is walk c.requires.going (record { missed = c.equal_fields_test_alike.ensures.missed }) c.in-Field.field finds

pub take_rule-returns-in-Field-clause-counted : goal.take_rule-returns-in-Field-clause-counted
take_rule-returns-in-Field-clause-counted g t c =
    let trees = c.args.site.now.tree.now.payloads in
    let facts = c.args.site.now.facts.now in
    let left = c.args.left in
    let at = c.args.at.now in
    let node = c.args.tables.now.own.now in
    let rules = (form_of node.rules).rules in
    let rule = c.index-fast-place.result in
    let walk = g.P.Probe.walk c.args.probe.now in
    let is : rule ≡ get_or rules c.args.place rule = c.index-fast-place.is ∙ ap (λ (xs : List Rule). get_or xs c.args.place rule) c.fast.ensures.rules in
    let finds = subst (λ (a : Around). Finds a rule walk (Field c.in-Field.field)) (around_here trees facts at node (option_copied c.args.tables.now.main) c.requires.own c.requires.main) c.in-Field.ensures.found in
    ap (λ (w : Walk). c.test.new.steps + list_tests trees facts left at (drop c.skip.result rules) w) c.in-Field.ensures.same
    ∙ ap (λ (k : ℕ). c.test.new.steps + list_tests trees facts left at (drop k rules) walk) c.skip.ensures.skip
    ∙ skip_tests trees facts left at rules c.args.place rule c.requires.inside is walk c.requires.going c.in-Field.field finds c.args.steps.now c.test.new.steps c.in-Field.ensures.counted

pub take_rule-returns-in-Other-clause-walk : goal.take_rule-returns-in-Other-clause-walk
take_rule-returns-in-Other-clause-walk g t c =
    let trees = c.args.site.now.tree.now.payloads in
    let facts = c.args.site.now.facts.now in
    let left = c.args.left in
    let at = c.args.at.now in
    let node = c.args.tables.now.own.now in
    let rules = (form_of node.rules).rules in
    let rule = c.index-fast-place.result in
    let walk = g.P.Probe.walk c.args.probe.now in
    let is : rule ≡ get_or rules c.args.place rule = c.index-fast-place.is ∙ ap (λ (xs : List Rule). get_or xs c.args.place rule) c.fast.ensures.rules in
    let finds = subst (λ (a : Around). Finds a rule walk Other) (around_here trees facts at node (option_copied c.args.tables.now.main) c.requires.own c.requires.main) c.in-Other.ensures.found in
    ap (λ (w : Walk). walked_through (on_optimised trees facts left at) (drop (c.args.place + 1) rules) w) c.in-Other.ensures.same
    ∙ other_walk trees facts left at rules c.args.place rule c.requires.inside is walk c.requires.going finds

pub take_rule-returns-in-Other-clause-counted : goal.take_rule-returns-in-Other-clause-counted
take_rule-returns-in-Other-clause-counted g t c =
    let trees = c.args.site.now.tree.now.payloads in
    let facts = c.args.site.now.facts.now in
    let left = c.args.left in
    let at = c.args.at.now in
    let node = c.args.tables.now.own.now in
    let rules = (form_of node.rules).rules in
    let rule = c.index-fast-place.result in
    let walk = g.P.Probe.walk c.args.probe.now in
    let is : rule ≡ get_or rules c.args.place rule = c.index-fast-place.is ∙ ap (λ (xs : List Rule). get_or xs c.args.place rule) c.fast.ensures.rules in
    let finds = subst (λ (a : Around). Finds a rule walk Other) (around_here trees facts at node (option_copied c.args.tables.now.main) c.requires.own c.requires.main) c.in-Other.ensures.found in
    ap (λ (w : Walk). c.test.new.steps + list_tests trees facts left at (drop (c.args.place + 1) rules) w) c.in-Other.ensures.same
    ∙ other_tests trees facts left at rules c.args.place rule c.requires.inside is walk c.requires.going finds c.args.steps.now c.test.new.steps c.in-Other.ensures.counted

-- ---- an anchor rule

pub walk_anchor-returns-clause-walk : goal.walk_anchor-returns-clause-walk
walk_anchor-returns-clause-walk g t c =
    let two = g.P.Probe.walk c.walk_called.new.probe in
    anchor_walk c.args.site.now.tree.now.payloads c.args.site.now.facts.now c.args.left c.args.at.now c.args.call.now (g.P.Probe.walk c.args.probe.now) (g.P.Probe.walk c.set_marks.new.self) c.marks-before.result c.marks-before.ensures c.set_marks.ensures
    c.args.quick two (g.P.Probe.walk c.set_marks-2.new.self) c.marks-after.result c.walk_called.ensures.walk c.marks-after.ensures
    (c.set_marks-2.ensures ∙ ap (λ (m : Marks). with_marks m two) c.marks_behind.ensures)

pub walk_anchor-returns-clause-counted : goal.walk_anchor-returns-clause-counted
walk_anchor-returns-clause-counted g t c =
    c.walk_called.ensures.counted
    ∙ ap (λ (n : ℕ). c.args.steps.now + n) (anchor_tests c.args.site.now.tree.now.payloads c.args.site.now.facts.now c.args.left c.args.at.now c.args.call.now (g.P.Probe.walk c.args.probe.now) (g.P.Probe.walk c.set_marks.new.self) c.marks-before.result c.marks-before.ensures c.set_marks.ensures)

-- ---- what is called

pub walk_called-returns-in_default-clause-walk : goal.walk_called-returns-in_default-clause-walk
walk_called-returns-in_default-clause-walk g t c =
    nowhere_walk c.args.site.now.tree.now.payloads c.args.site.now.facts.now c.args.left c.args.call.now.children (target_of c.args.call.now c.args.at.now) (g.P.Probe.walk c.args.probe.now) (sym c.in_default.is ∙ c.target.ensures)

pub walk_called-returns-in_default-clause-counted : goal.walk_called-returns-in_default-clause-counted
walk_called-returns-in_default-clause-counted g t c =
    let none = nowhere_tests c.args.site.now.tree.now.payloads c.args.site.now.facts.now c.args.left c.args.call.now.children (target_of c.args.call.now c.args.at.now) (g.P.Probe.walk c.args.probe.now) (sym c.in_default.is ∙ c.target.ensures) in
    omega (arith, none)

pub walk_called-returns-then-call-clause-walk : goal.walk_called-returns-then-call-clause-walk
walk_called-returns-then-call-clause-walk g t c =
    c.walk_children.ensures.walk
    ∙ below_walk c.args.site.now.tree.now.payloads c.args.site.now.facts.now c.args.left c.args.call.now.children (target_of c.args.call.now c.args.at.now) (g.P.Probe.walk c.args.probe.now) c.in-Some.target c.if-call.true c.in-Some.ensures

pub walk_called-returns-then-call-clause-counted : goal.walk_called-returns-then-call-clause-counted
walk_called-returns-then-call-clause-counted g t c =
    c.walk_children.ensures.counted
    ∙ ap (λ (n : ℕ). c.args.steps.now + n) (below_tests c.args.site.now.tree.now.payloads c.args.site.now.facts.now c.args.left c.args.call.now.children (target_of c.args.call.now c.args.at.now) (g.P.Probe.walk c.args.probe.now) c.in-Some.target c.if-call.true c.in-Some.ensures)

pub walk_called-returns-else-call-clause-walk : goal.walk_called-returns-else-call-clause-walk
walk_called-returns-else-call-clause-walk g t c =
    c.walk_ruleset.ensures.walk
    ∙ target_walk c.args.site.now.tree.now.payloads c.args.site.now.facts.now c.args.left c.args.call.now.children (target_of c.args.call.now c.args.at.now) (g.P.Probe.walk c.args.probe.now) c.in-Some.target c.if-call.false c.in-Some.ensures

pub walk_called-returns-else-call-clause-counted : goal.walk_called-returns-else-call-clause-counted
walk_called-returns-else-call-clause-counted g t c =
    c.walk_ruleset.ensures.counted
    ∙ ap (λ (n : ℕ). c.args.steps.now + n) (target_tests c.args.site.now.tree.now.payloads c.args.site.now.facts.now c.args.left c.args.call.now.children (target_of c.args.call.now c.args.at.now) (g.P.Probe.walk c.args.probe.now) c.in-Some.target c.if-call.false c.in-Some.ensures)

-- ---- a child

pub walk_child-returns-then-is_reserved-clause-walk : goal.walk_child-returns-then-is_reserved-clause-walk
walk_child-returns-then-is_reserved-clause-walk g t c =
    let walk = g.P.Probe.walk c.args.probe.now in
    if_true (is_reserved c.args.name.now) walk (walk_left c.args.site.now.tree.now.payloads c.args.site.now.facts.now c.args.left (c.args.at.now ++ c.args.name.now ∷ []) walk) (sym c.is_reserved.ensures ∙ c.if-is_reserved.true)

pub walk_child-returns-then-is_reserved-clause-counted : goal.walk_child-returns-then-is_reserved-clause-counted
walk_child-returns-then-is_reserved-clause-counted g t c =
    let walk = g.P.Probe.walk c.args.probe.now in
    let none = if_true (is_reserved c.args.name.now) 0 (tests_left c.args.site.now.tree.now.payloads c.args.site.now.facts.now c.args.left (c.args.at.now ++ c.args.name.now ∷ []) walk) (sym c.is_reserved.ensures ∙ c.if-is_reserved.true) in
    omega (arith, none)

pub walk_child-returns-in_default-clause-walk : goal.walk_child-returns-in_default-clause-walk
walk_child-returns-in_default-clause-walk g t c =
    absurd (let e : None ≡ Some (c.args.at.now ++ c.args.name.now ∷ []) = sym c.in_default.is ∙ c.child.ensures ∙ c.requires in cc)

pub walk_child-returns-in_default-clause-counted : goal.walk_child-returns-in_default-clause-counted
walk_child-returns-in_default-clause-counted g t c =
    absurd (let e : None ≡ Some (c.args.at.now ++ c.args.name.now ∷ []) = sym c.in_default.is ∙ c.child.ensures ∙ c.requires in cc)

pub walk_child-returns-clause-walk : goal.walk_child-returns-clause-walk
walk_child-returns-clause-walk g t c =
    let trees = c.args.site.now.tree.now.payloads in
    let facts = c.args.site.now.facts.now in
    let walk = g.P.Probe.walk c.args.probe.now in
    let e = c.in-Some.ensures ∙ c.requires in
    let same : c.in-Some.child ≡ c.args.at.now ++ c.args.name.now ∷ [] = cc in
    c.walk_ruleset.ensures.walk
    ∙ ap (λ (p : List (List ℕ)). walk_left trees facts c.args.left p walk) same
    ∙ if_false (is_reserved c.args.name.now) walk (walk_left trees facts c.args.left (c.args.at.now ++ c.args.name.now ∷ []) walk) (sym c.is_reserved.ensures ∙ c.if-is_reserved.false)

pub walk_child-returns-clause-counted : goal.walk_child-returns-clause-counted
walk_child-returns-clause-counted g t c =
    let trees = c.args.site.now.tree.now.payloads in
    let facts = c.args.site.now.facts.now in
    let walk = g.P.Probe.walk c.args.probe.now in
    let e = c.in-Some.ensures ∙ c.requires in
    let same : c.in-Some.child ≡ c.args.at.now ++ c.args.name.now ∷ [] = cc in
    c.walk_ruleset.ensures.counted
    ∙ ap (λ (n : ℕ). c.args.steps.now + n)
    (ap (λ (p : List (List ℕ)). tests_left trees facts c.args.left p walk) same
    ∙ if_false (is_reserved c.args.name.now) 0 (tests_left trees facts c.args.left (c.args.at.now ++ c.args.name.now ∷ []) walk) (sym c.is_reserved.ensures ∙ c.if-is_reserved.false))

-- ---- children

pub walk_children-loop-name-init : goal.walk_children-loop-name-init
walk_children-loop-name-init g t c =
    let trees = c.args.site.now.tree.now.payloads in
    let facts = c.args.site.now.facts.now in
    let walk = g.P.Probe.walk c.args.probe.now in
    record {
      rest = ap (λ (names : List (List ℕ)). children_walk trees facts c.args.left c.args.at.now names walk) (children_start trees facts c.args.left c.args.at.now walk);
      counted = ap (λ (names : List (List ℕ)). c.args.steps.now + children_tests trees facts c.args.left c.args.at.now names walk) (children_start trees facts c.args.left c.args.at.now walk);
    }

pub walk_children-loop-name-smaller : goal.walk_children-loop-name-smaller
walk_children-loop-name-smaller g t c =
    let trees = c.args.site.now.tree.now.payloads in
    children_less trees c.args.site.now.facts.now c.args.left c.args.at.now (g.P.Probe.walk c.loop-name.probe) c.loop-name.last c.in-Some.name
    (sym (c.in-Some.ensures.next ∙ ap (next_name trees c.args.at.now) c.as_ref.ensures.value))

pub walk_children-loop-name-preserved : goal.walk_children-loop-name-preserved
walk_children-loop-name-preserved g t c =
    let trees = c.args.site.now.tree.now.payloads in
    let facts = c.args.site.now.facts.now in
    let now = g.P.Probe.walk c.loop-name.probe in
    let some = sym (c.in-Some.ensures.next ∙ ap (next_name trees c.args.at.now) c.as_ref.ensures.value) in
    let going = sym (ap (λ (m : Marks). m.stop) c.marks.ensures) ∙ c.if-marks.false in
    record {
      rest = children_step trees facts c.args.left c.args.at.now now c.loop-name.last c.in-Some.name some going (g.P.Probe.walk c.walk_child.new.probe) c.walk_child.ensures.walk ∙ c.loop-name.invariant.rest;
      counted = children_step_tests trees facts c.args.left c.args.at.now now c.loop-name.last c.in-Some.name some going (g.P.Probe.walk c.walk_child.new.probe) c.loop-name.steps c.walk_child.new.steps c.walk_child.ensures.walk c.walk_child.ensures.counted ∙ c.loop-name.invariant.counted;
    }

pub walk_children-returns-then-marks-clause-walk : goal.walk_children-returns-then-marks-clause-walk
walk_children-returns-then-marks-clause-walk g t c =
    let trees = c.args.site.now.tree.now.payloads in
    let stop = sym (ap (λ (m : Marks). m.stop) c.marks.ensures) ∙ c.if-marks.true in
    sym (children_stop trees c.args.site.now.facts.now c.args.left c.args.at.now (g.P.Probe.walk c.loop-name.probe) (named_after trees c.args.at.now c.loop-name.last) stop) ∙ c.loop-name.invariant.rest

pub walk_children-returns-then-marks-clause-counted : goal.walk_children-returns-then-marks-clause-counted
walk_children-returns-then-marks-clause-counted g t c =
    let trees = c.args.site.now.tree.now.payloads in
    let stop = sym (ap (λ (m : Marks). m.stop) c.marks.ensures) ∙ c.if-marks.true in
    let none = children_stop_tests trees c.args.site.now.facts.now c.args.left c.args.at.now (g.P.Probe.walk c.loop-name.probe) (named_after trees c.args.at.now c.loop-name.last) stop in
    omega (arith, none, c.loop-name.invariant.counted)

pub walk_children-returns-in_default-clause-walk : goal.walk_children-returns-in_default-clause-walk
walk_children-returns-in_default-clause-walk g t c =
    let trees = c.args.site.now.tree.now.payloads in
    let none = sym (c.in_default.ensures.next ∙ ap (next_name trees c.args.at.now) c.as_ref.ensures.value) in
    sym (children_end trees c.args.site.now.facts.now c.args.left c.args.at.now (g.P.Probe.walk c.loop-name.probe) c.loop-name.last none) ∙ c.loop-name.invariant.rest

pub walk_children-returns-in_default-clause-counted : goal.walk_children-returns-in_default-clause-counted
walk_children-returns-in_default-clause-counted g t c =
    let trees = c.args.site.now.tree.now.payloads in
    let end = sym (c.in_default.ensures.next ∙ ap (next_name trees c.args.at.now) c.as_ref.ensures.value) in
    let none = children_end_tests trees c.args.site.now.facts.now c.args.left c.args.at.now (g.P.Probe.walk c.loop-name.probe) c.loop-name.last end in
    omega (arith, none, c.loop-name.invariant.counted)

-- ---- the rules of a ruleset

pub walk_rules-loop-place-init : goal.walk_rules-loop-place-init
walk_rules-loop-place-init g t c = record { rest = refl; counted = refl }

pub walk_rules-loop-place-smaller : goal.walk_rules-loop-place-smaller
walk_rules-loop-place-smaller g t c =
    let long = ap (λ (rules : List Rule). length rules) c.fast.ensures.rules in
    omega (arith, long, c.loop-place-test.true, c.take_rule-place.ensures.further)

pub walk_rules-loop-place-preserved : goal.walk_rules-loop-place-preserved
walk_rules-loop-place-preserved g t c = record {
  rest = c.take_rule-place.ensures.walk ∙ c.loop-place.invariant.rest;
  counted = c.take_rule-place.ensures.counted ∙ c.loop-place.invariant.counted;
}

pub walk_rules-returns-after-loop-place-clause-walk : goal.walk_rules-returns-after-loop-place-clause-walk
walk_rules-returns-after-loop-place-clause-walk g t c =
    let long = ap (λ (rules : List Rule). length rules) c.fast.ensures.rules in
    sym (rules_end c.args.site.now.tree.now.payloads c.args.site.now.facts.now c.args.left c.args.at.now (form_of c.args.tables.now.own.now.rules).rules c.loop-place.place (g.P.Probe.walk c.loop-place.probe) (omega (arith, long, c.loop-place-test.false)))
    ∙ c.loop-place.invariant.rest

pub walk_rules-returns-after-loop-place-clause-counted : goal.walk_rules-returns-after-loop-place-clause-counted
walk_rules-returns-after-loop-place-clause-counted g t c =
    let long = ap (λ (rules : List Rule). length rules) c.fast.ensures.rules in
    let none = rules_end_tests c.args.site.now.tree.now.payloads c.args.site.now.facts.now c.args.left c.args.at.now (form_of c.args.tables.now.own.now.rules).rules c.loop-place.place (g.P.Probe.walk c.loop-place.probe) (omega (arith, long, c.loop-place-test.false)) in
    omega (arith, none, c.loop-place.invariant.counted)

pub walk_rules-returns-then-marks-clause-walk : goal.walk_rules-returns-then-marks-clause-walk
walk_rules-returns-then-marks-clause-walk g t c =
    let stop = sym (ap (λ (m : Marks). m.stop) c.marks.ensures) ∙ c.if-marks.true in
    sym (rules_stop c.args.site.now.tree.now.payloads c.args.site.now.facts.now c.args.left c.args.at.now (form_of c.args.tables.now.own.now.rules).rules c.loop-place.place (g.P.Probe.walk c.loop-place.probe) stop)
    ∙ c.loop-place.invariant.rest

pub walk_rules-returns-then-marks-clause-counted : goal.walk_rules-returns-then-marks-clause-counted
walk_rules-returns-then-marks-clause-counted g t c =
    let stop = sym (ap (λ (m : Marks). m.stop) c.marks.ensures) ∙ c.if-marks.true in
    let none = rules_stop_tests c.args.site.now.tree.now.payloads c.args.site.now.facts.now c.args.left c.args.at.now (form_of c.args.tables.now.own.now.rules).rules c.loop-place.place (g.P.Probe.walk c.loop-place.probe) stop in
    omega (arith, none, c.loop-place.invariant.counted)

-- ---- a ruleset

pub walk_ruleset-returns-then-left-eq0-clause-walk : goal.walk_ruleset-returns-then-left-eq0-clause-walk
walk_ruleset-returns-then-left-eq0-clause-walk g t c =
    sym (none_left c.args.site.now.tree.now.payloads c.args.site.now.facts.now c.args.at.now (g.P.Probe.walk c.args.probe.now) c.args.left c.if-left-eq0.true)

pub walk_ruleset-returns-then-left-eq0-clause-counted : goal.walk_ruleset-returns-then-left-eq0-clause-counted
walk_ruleset-returns-then-left-eq0-clause-counted g t c =
    let none = none_left_tests c.args.site.now.tree.now.payloads c.args.site.now.facts.now c.args.at.now (g.P.Probe.walk c.args.probe.now) c.args.left c.if-left-eq0.true in
    omega (arith, none)

pub walk_ruleset-returns-in_default-clause-walk : goal.walk_ruleset-returns-in_default-clause-walk
walk_ruleset-returns-in_default-clause-walk g t c =
    sym (none_there c.args.site.now.tree.now.payloads c.args.site.now.facts.now c.args.at.now (g.P.Probe.walk c.args.probe.now) c.args.left (sym c.in_default.ensures.value))

pub walk_ruleset-returns-in_default-clause-counted : goal.walk_ruleset-returns-in_default-clause-counted
walk_ruleset-returns-in_default-clause-counted g t c =
    let none = none_there_tests c.args.site.now.tree.now.payloads c.args.site.now.facts.now c.args.at.now (g.P.Probe.walk c.args.probe.now) c.args.left (sym c.in_default.ensures.value) in
    omega (arith, none)

pub walk_ruleset-walk_rules-requires : goal.walk_ruleset-walk_rules-requires
walk_ruleset-walk_rules-requires g t c κs within = (
  omega (arith, c.decreases, c.if-left-eq0.false),
  (within.0, (within.1, (sym c.in-Some.ensures.value, c.get-2.ensures.value ∙ ap (fin.get c.args.site.now.tree.now.payloads) c.main.ensures))),
)

pub walk_ruleset-returns-clause-walk : goal.walk_ruleset-returns-clause-walk
walk_ruleset-returns-clause-walk g t c =
    let trees = c.args.site.now.tree.now.payloads in
    let facts = c.args.site.now.facts.now in
    let walk = g.P.Probe.walk c.args.probe.now in
    let there = sym c.in-Some.ensures.value in
    c.walk_rules.ensures.walk
    ∙ sym (ruleset_walk trees facts c.args.at.now walk c.in-Some.node.now c.args.left (omega (arith, c.if-left-eq0.false)) there
    (c.optimised_walk_is_written.ensures trees facts (c.args.left - 1) c.args.at.now c.in-Some.node.now walk there c.ruleset_is_sound.ensures))

pub walk_ruleset-returns-clause-counted : goal.walk_ruleset-returns-clause-counted
walk_ruleset-returns-clause-counted g t c =
    let trees = c.args.site.now.tree.now.payloads in
    let facts = c.args.site.now.facts.now in
    let walk = g.P.Probe.walk c.args.probe.now in
    let there = sym c.in-Some.ensures.value in
    c.walk_rules.ensures.counted
    ∙ ap (λ (n : ℕ). c.args.steps.now + n) (sym (ruleset_tests trees facts c.args.at.now walk c.in-Some.node.now c.args.left (omega (arith, c.if-left-eq0.false)) there))

use Rattle.std.proofs.Common.{◌≡◌, ◌++◌, ◌∷◌, [], ◌<◌, None, Some, length, take, sym, ap, ◌∙◌, arith}
use Rattle.std.specs.List.{filter_map}
use Rattle.std.proofs.lemmas.List.{append_assoc}
use Rattle.pf_expand.specs.Readings.{unknown_name}
use Rattle.pf_expand.proofs.Loops.{map_none, map_some}
use Rattle.pf_expand.proofs.readings.add_unknown_names.Goals as goal

pub loop-test-preserved-in_default : goal.loop-test-preserved-in_default
loop-test-preserved-in_default c =
    let low : c.loop-test.test-index < length c.args.tests.now = omega arith in
    c.loop-test.invariant
    ∙ ap (λ x. c.args.faults.now ++ x) (sym (map_none (unknown_name c.args.facts.now) c.args.tests.now c.loop-test.test-index c.test-item.result low c.test-item.is (sym c.unknown_name.ensures ∙ c.in_default.is)))

pub loop-test-preserved : goal.loop-test-preserved
loop-test-preserved c =
    let low : c.loop-test.test-index < length c.args.tests.now = omega arith in
    let so_far = filter_map (unknown_name c.args.facts.now) (take c.loop-test.test-index c.args.tests.now) in
    c.in_ok-push_copy.ensures.ok
    ∙ ap (λ x. x ++ c.in-Some.fault ∷ []) c.loop-test.invariant
    ∙ append_assoc c.args.faults.now so_far (c.in-Some.fault ∷ [])
    ∙ ap (λ x. c.args.faults.now ++ x) (sym (map_some (unknown_name c.args.facts.now) c.args.tests.now c.loop-test.test-index c.test-item.result c.in-Some.fault low c.test-item.is (sym c.unknown_name.ensures ∙ c.in-Some.is)))

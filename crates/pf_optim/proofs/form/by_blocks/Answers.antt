use Rattle.std.proofs.Common.{ℕ, ◌+◌, ◌-◌, ◌<◌, List, [], length, get_or, take, drop, ap, ◌∙◌, arith}
use Rattle.std.specs.List.{sum, zip}
use Rattle.pf_optim.specs.FormSteps.{shown}
use Rattle.pf_optim.specs.Optimised.{blocks_in}
use Rattle.pf_optim.proofs.Forming.{SizeLaws, all_made, block_added, none_yet, runs_long, span_facts, sum_part}
use Rattle.pf_optim.proofs.Keeping.{both_join}
use Rattle.pf_rule.specs.declared.rule.Rule.{Rule}
use Rattle.pf_optim.proofs.form.by_blocks.Goals as goal

pub loop-span-init : goal.loop-span-init
loop-span-init c =
    let start = none_yet c.args.level c.args.rules.now c.args.weights.now c.new.result c.new-2.result c.requires.weighed c.new.ensures c.new-2.ensures (c.runs_are_the_longest.ensures.whole both_join (zip c.args.rules.now c.args.weights.now)) in
    record { found = start.found; room = start.room }

pub part_of-some_rules-requires : goal.part_of-some_rules-requires
part_of-some_rules-requires c =
    let low : c.loop-span.span-index < length c.items-span-items.result.now = omega arith in
    let facts = span_facts c.args.rules.now c.args.weights.now c.items-span-items.result.now c.loop-span.span-index (record { start = 0; end = 0 }) c.requires.weighed (c.items-span-items.ensures ∙ c.in_ok-spans.ensures) (c.runs_are_the_longest.ensures.whole both_join (zip c.args.rules.now c.args.weights.now)) low in
    record { rising = facts.rising; within = facts.in_rules }

pub part_of-some_weights-requires : goal.part_of-some_weights-requires
part_of-some_weights-requires c =
    let low : c.loop-span.span-index < length c.items-span-items.result.now = omega arith in
    let facts = span_facts c.args.rules.now c.args.weights.now c.items-span-items.result.now c.loop-span.span-index (record { start = 0; end = 0 }) c.requires.weighed (c.items-span-items.ensures ∙ c.in_ok-spans.ensures) (c.runs_are_the_longest.ensures.whole both_join (zip c.args.rules.now c.args.weights.now)) low in
    record { rising = facts.rising; within = facts.in_weights }

pub add_block-requires-clause-light : goal.add_block-requires-clause-light
add_block-requires-clause-light c =
    let span = get_or c.items-span-items.result.now c.loop-span.span-index (record { start = 0; end = 0 }) in
    omega (arith, ap sum c.part_of-some_weights.ensures.part, sum_part c.args.weights.now span.start (span.end - span.start), c.requires.light)

pub loop-span-preserved : goal.loop-span-preserved
loop-span-preserved c =
    let rules = c.args.rules.now in
    let weights = c.args.weights.now in
    let k = c.loop-span.span-index in
    let runs = blocks_in (zip rules weights) in
    let low : k < length c.items-span-items.result.now = omega arith in
    let facts = span_facts rules weights c.items-span-items.result.now k (record { start = 0; end = 0 }) c.requires.weighed (c.items-span-items.ensures ∙ c.in_ok-spans.ensures) (c.runs_are_the_longest.ensures.whole both_join (zip rules weights)) low in
    let span = get_or c.items-span-items.result.now k (record { start = 0; end = 0 }) in
    let laws : SizeLaws = record {
      gain = c.orders_hold_the_same_rules.ensures.gain;
      profile = c.orders_hold_the_same_rules.ensures.profile;
      fewer = c.kept_rules_are_of_the_block.ensures.fewer;
      few = c.combined_rules_keep_what_others_had.ensures.few;
    } in
    let is = ap (λ (t : List Rule). zip t c.part_of-some_weights.result.now) c.part_of-some_rules.ensures.part ∙ ap (λ (t : List ℕ). zip (take (span.end - span.start) (drop span.start rules)) t) c.part_of-some_weights.ensures.part ∙ facts.part in
    let more = block_added laws c.args.level rules c.part_of-some_rules.result.now weights c.part_of-some_weights.result.now (shown c.loop-span.form) (shown c.add_block.new.form) (drop k runs) (drop (k + 1) runs) (get_or runs k []) facts.front is c.in_ok-add_block.ensures (record { found = c.loop-span.invariant.found; room = c.loop-span.invariant.room }) in
    record { found = more.found; room = more.room }

pub returns-clause-form : goal.returns-clause-form
returns-clause-form c =
    let rules = c.args.rules.now in
    let weights = c.args.weights.now in
    all_made c.args.level rules weights (shown c.loop-span.form) c.loop-span.span-index
    (omega (arith, runs_long rules weights c.requires.weighed c.items-span-items.result.now (c.items-span-items.ensures ∙ c.in_ok-spans.ensures)))
    c.loop-span.invariant.found

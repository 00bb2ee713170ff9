use Rattle.std.proofs.Common.{ℕ, ◌+◌, true, List, [], sym, ap, ◌∙◌, arith}
use Rattle.pf_eval.proofs.Answering.{if_false, if_true, main_tests, main_walk, packet_answer}
use Rattle.pf_eval.specs.Answers.{answer_from, is_skipped, skipped_answer, walked_from_main}
use Rattle.pf_eval.specs.Chain.{tests_from_main}
use Rattle.pf_eval.specs.Steps.{tests_left, walk_left}
use Rattle.pf_eval.specs.World.{packet_walker}
use Rattle.pf_rule.specs.Answer.{answer_of_walk}
use Rattle.pf_rule.specs.declared.walk.Answer.{Answer}
use Rattle.pf_rule.specs.declared.walk.Walk.{Walk}
use Rattle.pf_eval.proofs.evaluator.eval.Goals as goal

-- ---- a packet on a skipped interface

pub returns-then-skips-clause-answer : goal.returns-then-skips-clause-answer
returns-then-skips-clause-answer g c =
    let walk = g.P.Probe.walk c.args.probe.now in
    let trees = c.args.tree.now.payloads in
    let facts = c.args.facts.now in
    let skip = c.args.skip.now in
    c.skipped.ensures ∙ ap (λ (a : Answer). record a { skip = true }) c.answer.ensures
    ∙ if_true (is_skipped facts skip walk) (skipped_answer walk) (answer_of_walk (walked_from_main trees facts walk)) (sym c.skips.ensures ∙ c.if-skips.true)

pub returns-then-skips-clause-packet : goal.returns-then-skips-clause-packet
returns-then-skips-clause-packet g c = λ packet opening.
    let walk = g.P.Probe.walk c.args.probe.now in
    let trees = c.args.tree.now.payloads in
    let facts = c.args.facts.now in
    let skip = c.args.skip.now in
    c.skipped.ensures ∙ ap (λ (a : Answer). record a { skip = true }) c.answer.ensures
    ∙ if_true (is_skipped facts skip walk) (skipped_answer walk) (answer_of_walk (walked_from_main trees facts walk)) (sym c.skips.ensures ∙ c.if-skips.true)
    ∙ ap (λ (w : Walk). answer_from trees facts skip w) opening
    ∙ packet_answer trees facts skip packet

pub returns-then-skips-clause-counted : goal.returns-then-skips-clause-counted
returns-then-skips-clause-counted g c =
    let walk = g.P.Probe.walk c.args.probe.now in
    let none = if_true (is_skipped c.args.facts.now c.args.skip.now walk) 0 (tests_from_main c.args.tree.now.payloads c.args.facts.now walk) (sym c.skips.ensures ∙ c.if-skips.true) in
    omega (arith, none)

pub returns-then-skips-clause-walk : goal.returns-then-skips-clause-walk
returns-then-skips-clause-walk g c =
    let walk = g.P.Probe.walk c.args.probe.now in
    if_true (is_skipped c.args.facts.now c.args.skip.now walk) walk (walked_from_main c.args.tree.now.payloads c.args.facts.now walk) (sym c.skips.ensures ∙ c.if-skips.true)

pub returns-then-skips-clause-whole : goal.returns-then-skips-clause-whole
returns-then-skips-clause-whole g c = λ shallow walk_from is.
    sym (c.walks_need_no_bound.ensures.only packet_walker c.args.tree.now.payloads c.args.facts.now walk_from shallow is [] (g.P.Probe.walk c.args.probe.now))

-- ---- on another one

pub returns-clause-answer : goal.returns-clause-answer
returns-clause-answer g c =
    let walk = g.P.Probe.walk c.args.probe.now in
    let trees = c.args.tree.now.payloads in
    let facts = c.args.facts.now in
    let skip = c.args.skip.now in
    let walked = c.walk_ruleset.ensures.walk ∙ ap (λ (p : List (List ℕ)). walk_left trees facts 64 p walk) c.main.ensures ∙ main_walk trees facts walk in
    c.answer-2.ensures ∙ ap (λ (w : Walk). answer_of_walk w) walked
    ∙ if_false (is_skipped facts skip walk) (skipped_answer walk) (answer_of_walk (walked_from_main trees facts walk)) (sym c.skips.ensures ∙ c.if-skips.false)

pub returns-clause-packet : goal.returns-clause-packet
returns-clause-packet g c = λ packet opening.
    let walk = g.P.Probe.walk c.args.probe.now in
    let trees = c.args.tree.now.payloads in
    let facts = c.args.facts.now in
    let skip = c.args.skip.now in
    let walked = c.walk_ruleset.ensures.walk ∙ ap (λ (p : List (List ℕ)). walk_left trees facts 64 p walk) c.main.ensures ∙ main_walk trees facts walk in
    c.answer-2.ensures ∙ ap (λ (w : Walk). answer_of_walk w) walked
    ∙ if_false (is_skipped facts skip walk) (skipped_answer walk) (answer_of_walk (walked_from_main trees facts walk)) (sym c.skips.ensures ∙ c.if-skips.false)
    ∙ ap (λ (w : Walk). answer_from trees facts skip w) opening
    ∙ packet_answer trees facts skip packet

pub returns-clause-counted : goal.returns-clause-counted
returns-clause-counted g c =
    let walk = g.P.Probe.walk c.args.probe.now in
    let trees = c.args.tree.now.payloads in
    let facts = c.args.facts.now in
    c.walk_ruleset.ensures.counted
    ∙ ap (λ (n : ℕ). c.args.steps.now + n)
    (ap (λ (p : List (List ℕ)). tests_left trees facts 64 p walk) c.main.ensures ∙ main_tests trees facts walk
    ∙ if_false (is_skipped facts c.args.skip.now walk) 0 (tests_from_main trees facts walk) (sym c.skips.ensures ∙ c.if-skips.false))

pub returns-clause-walk : goal.returns-clause-walk
returns-clause-walk g c =
    let walk = g.P.Probe.walk c.args.probe.now in
    let trees = c.args.tree.now.payloads in
    let facts = c.args.facts.now in
    c.walk_ruleset.ensures.walk ∙ ap (λ (p : List (List ℕ)). walk_left trees facts 64 p walk) c.main.ensures ∙ main_walk trees facts walk
    ∙ if_false (is_skipped facts c.args.skip.now walk) walk (walked_from_main trees facts walk) (sym c.skips.ensures ∙ c.if-skips.false)

pub returns-clause-whole : goal.returns-clause-whole
returns-clause-whole g c = λ shallow walk_from is.
    sym (c.walks_need_no_bound.ensures.only packet_walker c.args.tree.now.payloads c.args.facts.now walk_from shallow is [] (g.P.Probe.walk c.args.probe.now))

use Rattle.std.proofs.Common.{ap, ◌∙◌}
use Rattle.pf_rule.specs.Answer.{answer_of, decision_over}
use Rattle.pf_rule.specs.Opening.{opening_walk}
use Rattle.pf_rule.specs.declared.walk.Decision.{Decision}
use Rattle.pf_rule.specs.declared.walk.Walk.{Walk}
use Rattle.pf_rule.proofs.Decisions.{decided_last, last_walk, none_last, parted, quick_walk}
use Rattle.pf_rule.specs.Walk.{walked}
use Rattle.std.specs.Prelude.{[], ◌∷◌, ◌++◌}
use Rattle.pf_rule.proofs.evaluation.last_matching_rule_decides.Goals as goal

pub returns-clause-quick : goal.returns-clause-quick
unfolding answer_of
returns-clause-quick c = λ around packet front back rule d quick.
    let end : Walk = walked around (front ++ rule ∷ []) (opening_walk packet) in
    ap (λ (w : Walk). decision_over w.last w.params) (quick_walk around front rule back (opening_walk packet) d quick)
    ∙ ap (λ (d : Decision). decision_over d end.params) (decided_last around front rule (opening_walk packet) d)

pub returns-clause-last : goal.returns-clause-last
unfolding answer_of
returns-clause-last c = λ around packet front back rule d none.
    let end : Walk = walked around back (walked around (front ++ rule ∷ []) (opening_walk packet)) in
    ap (λ (w : Walk). decision_over w.last w.params) (parted around front rule back (opening_walk packet))
    ∙ ap (λ (d : Decision). decision_over d end.params) (last_walk around front rule back (opening_walk packet) d none)

pub returns-clause-none : goal.returns-clause-none
unfolding answer_of
returns-clause-none c = λ around packet rules none.
    let end : Walk = walked around rules (opening_walk packet) in
    ap (λ (d : Decision). decision_over d end.params) (none_last around rules (opening_walk packet) none)

use Rattle.std.proofs.Common.{◌≡◌, ℕ, List, [], Option, Some, sym, ap, subst, ◌∙◌}
use Rattle.std.specs.Option.{option_or}
use Rattle.pf_reply.specs.declared.refusal.Refusal.{Refusal}
use Rattle.pf_state.specs.Commits.{committed, paths_of}
use Rattle.pf_state.specs.Judging.{Judged}
use Rattle.pf_state.specs.Tickets.{stale}
use Rattle.pf_state.specs.Verdicts.{refusal_in}
use Rattle.pf_state.specs.declared.ready.Staged.{Staged}
use Rattle.pf_state.proofs.Judging.{with_first}
use Rattle.pf_state.proofs.machine.Machine.judge_commit.Goals as goal

pub returns-in-Some-clause-judged : goal.returns-in-Some-clause-judged
returns-in-Some-clause-judged c =
    with_first _ _ (refusal_in c.in_ok-judged.judged) (Some c.in-Some.refusal)
    (ap (λ (s : Option Refusal). option_or s (refusal_in c.in_ok-judged.judged))
    (sym c.in-Some.is ∙ c.stale.ensures ∙ ap (λ (parts : List Staged). stale c.args.self.now.tickets c.args.session.now.ticket (paths_of parts)) c.items-parts.ensures))
    (subst (λ (parts : List Staged). Judged [] (committed parts c.args.self.now.rulesets) (refusal_in c.in_ok-judged.judged)) c.items-parts.ensures c.in_ok-judged.ensures.judged)

pub returns-in-None-clause-judged : goal.returns-in-None-clause-judged
returns-in-None-clause-judged c =
    with_first _ _ (refusal_in c.in_ok-judged.judged) (refusal_in c.in_ok-judged.judged)
    (ap (λ (s : Option Refusal). option_or s (refusal_in c.in_ok-judged.judged))
    (sym c.in-None.is ∙ c.stale.ensures ∙ ap (λ (parts : List Staged). stale c.args.self.now.tickets c.args.session.now.ticket (paths_of parts)) c.items-parts.ensures))
    (subst (λ (parts : List Staged). Judged [] (committed parts c.args.self.now.rulesets) (refusal_in c.in_ok-judged.judged)) c.items-parts.ensures c.in_ok-judged.ensures.judged)

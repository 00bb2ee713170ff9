use Rattle.std.proofs.Common.{◌≡◌, Option, None, subst}
use Rattle.std.specs.FinMap as finite
use Rattle.pf_reply.specs.declared.refusal.Refusal.TheVariants.{NoSession}
use Rattle.pf_state.specs.declared.commit.Verdict.{Verdict}
use Rattle.pf_state.specs.declared.machine.Machine.{Machine}
use Rattle.pf_engine.specs.SessionLines.{CommitDoes}
use Rattle.pf_engine.specs.SessionsJudged.{SessionJudged}
use Rattle.pf_engine.proofs.Committing.{none_commits}
use Rattle.pf_engine.proofs.Doing.{refused_so}
use Rattle.pf_engine.proofs.engine.Engine.commit.Goals as goal

pub returns-in-None-clause-answers : goal.returns-in-None-clause-answers
returns-in-None-clause-answers c =
    let machine = c.args.self.now in let name = c.args.name.now in
    let same : c.self.inside.machine ≡ machine = cc in
    let judged = subst (λ (m : Machine). SessionJudged m (finite.get m.sessions name) c.in_ok-judge_session.field-0) same c.in_ok-judge_session.ensures in
    refused_so (CommitDoes machine name) machine (NoSession name) c.refuse.result c.args.out.now.items c.refuse.new.out.items
    (none_commits machine name (finite.get machine.sessions name) (subst (λ (v : Option Verdict). SessionJudged machine (finite.get machine.sessions name) v) c.in-None.is judged))
    c.refuse.ensures.refused c.refuse.ensures.told

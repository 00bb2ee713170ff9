use Rattle.std.proofs.Common.{◌≡◌, ℕ, List, ◌++◌, Some, refl, sym, ap, ◌∙◌, subst}
use Rattle.std.specs.FinMap as finite
use Rattle.pf_reply.specs.declared.reply.Reply.TheVariants.{Committed}
use Rattle.pf_state.specs.Sessions.{closed, finished_as}
use Rattle.pf_state.specs.declared.commit.Verdict.{Verdict}
use Rattle.pf_state.specs.declared.machine.Machine.{Machine}
use Rattle.pf_engine.specs.SessionLines.{CommitDoes}
use Rattle.pf_engine.specs.SessionsJudged.{SessionJudged}
use Rattle.pf_engine.specs.Steps.{done, refused}
use Rattle.pf_engine.specs.declared.outcome.Outcome.TheVariants.{Done, Refused}
use Rattle.pf_engine.proofs.Committing.{commit_kept, done_commits, refused_commits}
use Rattle.pf_engine.proofs.Doing.{told_so}
use Rattle.pf_engine.proofs.engine.Engine.commit_as.Goals as goal

pub invariant_of-self-in-Fits : goal.invariant_of-self-in-Fits
invariant_of-self-in-Fits c =
    let machine = c.self.inside.machine in let name = c.args.name.now in
    let same : c.args.self.now ≡ machine = cc in
    commit_kept machine c.commit.new.self name (finite.get machine.sessions name) c.in-Fits.shelves c.self.invariant
    (subst (λ (v : Verdict). SessionJudged machine (finite.get machine.sessions name) (Some v)) c.in-Fits.is
    (subst (λ (m : Machine). SessionJudged m (finite.get m.sessions name) (Some c.args.verdict)) same c.requires))
    c.in_ok-commit-in-Fits.ensures.ok

pub returns-in_ok-commit-in-Fits-clause-answers : goal.returns-in_ok-commit-in-Fits-clause-answers
returns-in_ok-commit-in-Fits-clause-answers c =
    let machine = c.args.self.now in let name = c.args.name.now in
    let same : c.self.inside.machine ≡ machine = cc in
    let after = c.in_ok-commit-in-Fits.ensures.ok ∙ ap (λ (m : Machine). finished_as name (finite.get m.sessions name) m) same in
    told_so (CommitDoes machine name) (done c.commit.new.self (Committed name)) c.commit.new.self Done
    c.args.out.now.items c.commit.new.out.items c.in_ok-line-in-Fits.line.items
    (done_commits machine c.commit.new.self name (finite.get machine.sessions name) c.in-Fits.shelves
    (subst (λ (v : Verdict). SessionJudged machine (finite.get machine.sessions name) (Some v)) c.in-Fits.is c.requires) after)
    refl refl c.in_ok-line-in-Fits.ensures (c.in_ok-commit-in-Fits.ensures.told ∙ ap (λ (l : List ℕ). c.args.out.now.items ++ l) c.deref-in-Fits.ensures.value)

pub returns-in_ok-tell-in-Refused-clause-answers : goal.returns-in_ok-tell-in-Refused-clause-answers
returns-in_ok-tell-in-Refused-clause-answers c =
    let machine = c.args.self.now in let name = c.args.name.now in
    let same : c.self.inside.machine ≡ machine = cc in
    told_so (CommitDoes machine name) (refused (closed name machine) c.in-Refused.refusal) c.close.new.machine Refused
    c.args.out.now.items c.tell.new.out.items c.in_ok-line-in-Refused.line.items
    (refused_commits machine name (finite.get machine.sessions name) c.in-Refused.refusal
    (subst (λ (v : Verdict). SessionJudged machine (finite.get machine.sessions name) (Some v)) c.in-Refused.is c.requires))
    (c.close.ensures ∙ ap (closed name) same) refl c.in_ok-line-in-Refused.ensures (c.in_ok-tell-in-Refused.ensures.ok ∙ ap (λ (l : List ℕ). c.args.out.now.items ++ l) c.deref.ensures.value)

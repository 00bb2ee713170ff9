use Rattle.std.proofs.Common.{◌≡◌, ℕ, Bool, true, false, List, ◌++◌, refl, sym, ap, ◌∙◌}
use Rattle.std.specs.Prelude.{is_some}
use Rattle.std.specs.FinMap as finite
use Rattle.pf_reply.specs.declared.refusal.Refusal.TheVariants.{NoSession}
use Rattle.pf_reply.specs.declared.reply.Reply.TheVariants.{RolledBack}
use Rattle.pf_runs.specs.Runs.{Stepped}
use Rattle.pf_state.specs.Sessions.{closed}
use Rattle.pf_state.specs.declared.machine.Machine.{Machine}
use Rattle.pf_engine.specs.SessionLines.{step_rollback}
use Rattle.pf_engine.specs.Steps.{done}
use Rattle.pf_engine.specs.declared.outcome.Outcome.TheVariants.{Done}
use Rattle.pf_engine.proofs.Committing.{given_up, none_given_up}
use Rattle.pf_engine.proofs.Doing.{refused_so, told_so}
use Rattle.pf_engine.proofs.engine.Engine.rollback.Goals as goal

pub returns-then-not-is_open-clause-answers : goal.returns-then-not-is_open-clause-answers
returns-then-not-is_open-clause-answers c =
    let machine = c.args.self.now in let name = c.args.name.now in
    let none : is_some (finite.get machine.sessions name) ≡ false = cc in
    refused_so (λ (does : Stepped Machine). does ≡ step_rollback machine name) machine (NoSession name) c.refuse.result c.args.out.now.items c.refuse.new.out.items
    (none_given_up machine name none) c.refuse.ensures.refused c.refuse.ensures.told

pub returns-clause-answers : goal.returns-clause-answers
returns-clause-answers c =
    let machine = c.args.self.now in let name = c.args.name.now in
    let one : is_some (finite.get machine.sessions name) ≡ true = cc in
    let same : c.self.inside.machine ≡ machine = cc in
    told_so (λ (does : Stepped Machine). does ≡ step_rollback machine name) (done (closed name machine) (RolledBack name)) c.close.new.machine Done
    c.args.out.now.items c.tell.new.out.items c.in_ok-line.line.items
    (given_up machine name one) (c.close.ensures ∙ ap (closed name) same) refl c.in_ok-line.ensures (c.in_ok-tell.ensures.ok ∙ ap (λ (l : List ℕ). c.args.out.now.items ++ l) c.deref.ensures.value)

use Rattle.std.proofs.Common.{◌≡◌, ℕ, List, ◌++◌, refl, sym, ap, ◌∙◌, subst}
use Rattle.pf_reply.specs.declared.reply.Reply.TheVariants.{Flushed}
use Rattle.pf_runs.specs.Runs.{Stepped}
use Rattle.pf_state.specs.Flushes.{flushed}
use Rattle.pf_state.specs.declared.machine.Machine.{Machine}
use Rattle.pf_engine.specs.Kept.{IsKept}
use Rattle.pf_engine.specs.SessionLines.{step_flush}
use Rattle.pf_engine.specs.Steps.{done}
use Rattle.pf_engine.specs.declared.outcome.Outcome.TheVariants.{Done}
use Rattle.pf_engine.proofs.Doing.{told_so}
use Rattle.pf_engine.proofs.Judged.{flushed_kept}
use Rattle.pf_engine.proofs.engine.Engine.flush.Goals as goal

pub invariant_of-self-2 : goal.invariant_of-self-2
invariant_of-self-2 c =
    subst (λ (m : Machine). IsKept m) (sym c.in_ok-flush.ensures.ok) (flushed_kept c.fewer_calls_stay_shallow.ensures c.self.inside.machine c.args.path.now c.self.invariant)

pub returns-clause-answers : goal.returns-clause-answers
unfolding step_flush
returns-clause-answers c =
    let same : c.self.inside.machine ≡ c.args.self.now = cc in
    told_so (λ (does : Stepped Machine). does ≡ step_flush c.args.self.now c.args.path.now) (done (flushed c.args.path.now c.args.self.now) (Flushed c.args.path.now)) c.flush.new.self Done
    c.args.out.now.items c.flush.new.out.items c.in_ok-line.line.items
    refl (c.in_ok-flush.ensures.ok ∙ ap (flushed c.args.path.now) same) refl c.in_ok-line.ensures (c.in_ok-flush.ensures.told ∙ ap (λ (l : List ℕ). c.args.out.now.items ++ l) c.deref.ensures.value)

use Rattle.std.proofs.Common.{◌≡◌, refl, ap, ◌∙◌}
use Rattle.pf_runs.specs.Runs.{Stepped, reply_text}
use Rattle.pf_state.specs.declared.machine.Machine.{Machine}
use Rattle.pf_engine.specs.ShowLines.{show}
use Rattle.pf_engine.specs.declared.outcome.Outcome.TheVariants.{Done}
use Rattle.pf_engine.proofs.Doing.{told_so}
use Rattle.pf_engine.proofs.Showing.{show_done, show_stays}
use Rattle.pf_engine.proofs.engine.Engine.show.Goals as goal

pub returns-clause-answers : goal.returns-clause-answers
returns-clause-answers c =
    let machine = c.args.self.now in
    told_so (λ (does : Stepped Machine). does ≡ show machine c.args.what.now) (show machine c.args.what.now) machine Done c.args.out.now.items c.tell.new.out.items c.deref.result.now
    refl (show_stays machine c.args.what.now) (show_done machine c.args.what.now) (c.deref.ensures.value ∙ c.in_ok-listed.ensures ∙ ap (λ (m : Machine). reply_text (show m c.args.what.now).reply) c.self.view_is) c.in_ok-tell.ensures.ok

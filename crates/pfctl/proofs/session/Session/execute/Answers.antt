use Rattle.std.proofs.Common.{◌||◌, [], ◌∷◌, ap, refl}
use Rattle.std.proofs.lemmas.Result.{err_from_is_err_and}
use Rattle.pf_source.specs.Told.{file_of}
use Rattle.pf_engine.specs.Answering.{is_refused}
use Rattle.pfctl.proofs.Sessions.{answered, asked_may_fail, executes_sent, halts_unsent, not_sent}
use Rattle.pfctl.proofs.session.Session.execute.Goals as goal

pub returns-in_err-outcome-clause-runs : goal.returns-in_err-outcome-clause-runs
returns-in_err-outcome-clause-runs g c =
    let p = err_from_is_err_and c.from_residual.result c.from_residual.ensures.1 in
    rw (p.1, p.2) (halts_unsent (c.args.self.now.line.items ∷ []) _ _ refl c.in_err-outcome.ensures.fails)

pub returns-in_err-send-clause-runs : goal.returns-in_err-send-clause-runs
returns-in_err-send-clause-runs g c =
    let p = err_from_is_err_and c.from_residual-in_err-send.result c.from_residual-in_err-send.ensures.1 in
    let line = c.args.self.now.line.items in
    let refused = is_refused c.in_ok-outcome.outcome in
    let answers = rw (c.clear.ensures.items, c.as_slice.ensures.value) at c.in_ok-outcome.ensures.answers in
    let asks = rw c.clear.ensures.items at c.in_ok-outcome.ensures.asks in
    rw (p.1, p.2) (record {
      at = λ held is.
          not_sent (file_of held) line _ _ c.step.new.self c.step.new.out.items c.as_slice-2.result.now refused c.in_err-send.field-0.0
          (answered (file_of held) line _ _ _ _ c.step.new.out.items refused (answers.at held is))
          (asked_may_fail [] c.step.new.out.items _ _ _ _ refused asks) c.as_slice-2.ensures.value c.in_err-send.ensures.tried c.in_err-send.ensures.sends;
    })

pub returns-clause-runs : goal.returns-clause-runs
returns-clause-runs g c =
    let line = c.args.self.now.line.items in
    let refused = is_refused c.in_ok-outcome.outcome in
    let answers = rw (c.clear.ensures.items, c.as_slice.ensures.value) at c.in_ok-outcome.ensures.answers in
    record {
      at = λ held is.
          executes_sent (file_of held) line _ _ c.step.new.out.items refused
          (answered (file_of held) line _ _ _ _ c.step.new.out.items refused (answers.at held is))
          (ap (λ b. c.args.self.now.refused || b) c.is_refused.ensures) (rw c.as_slice-2.ensures.value at c.in_ok-send.ensures.sent) (rw c.as_slice-2.ensures.value at c.in_ok-send.ensures.sends);
    }

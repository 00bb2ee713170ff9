use Rattle.std.proofs.lemmas.Result.{err_from_is_err_and}
use Rattle.pf_expand.proofs.Answering.{comes_of_readings}
use Rattle.pf_expand.proofs.statement.expand.Goals as goal

pub returns-in_err-read : goal.returns-in_err-read
returns-in_err-read c =
    let p = err_from_is_err_and c.from_residual.result c.from_residual.ensures.1 in
    rw (p.1, p.2) tt

pub returns : goal.returns
returns c =
    comes_of_readings c.args.form.now c.args.call.now c.args.order c.args.facts.now c.args.defaults.now c.args.room c.in_ok-read.read c.in_ok-read.ensures c.answer.result c.answer.ensures

use Rattle.pf_host.proofs.Lines.{not_one}
use Rattle.pf_host.proofs.statement.only_word.Goals as goal

pub returns-in-Some-clause-none : goal.returns-in-Some-clause-none
returns-in-Some-clause-none c =
    let more = rw c.in-Some.is at c.split_field.ensures.more in
    rw (c.in_ok-text.was, more) (not_one c.split_field.result.0.now c.in-Some.field-0.now)

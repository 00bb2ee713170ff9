-- Step by step.
use Rattle.pf_lexer.proofs.OneLead.{leads_one}
use Rattle.pf_lexer.proofs.laws.lead_is_one.Goals as goal

pub returns : goal.returns
returns c = λ disk stage next other reads later latest first second one two true also.
    let same = leads_one disk c.next_is_one.ensures one two true also in
    (same.answer, same.stage, same.reads)

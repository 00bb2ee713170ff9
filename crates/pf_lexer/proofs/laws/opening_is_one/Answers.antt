-- The disk has a file, or it hasn't.
use Rattle.pf_lexer.proofs.OneLead.{opens_one}
use Rattle.pf_lexer.proofs.laws.opening_is_one.Goals as goal

pub returns : goal.returns
returns c = λ disk name reads later latest first second one two true also.
    let same = opens_one disk one two true also in
    (same.result, same.reads)

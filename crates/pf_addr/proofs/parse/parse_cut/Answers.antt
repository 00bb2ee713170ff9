use Rattle.std.proofs.Common.{arith}
use Rattle.pf_addr.proofs.Texts.{not_masked}
use Rattle.pf_addr.proofs.parse.parse_cut.Goals as goal

pub returns-in_err-front : goal.returns-in_err-front
returns-in_err-front c =
    rw c.from_residual.ensures λ a n h.
    absurd (omega (arith, not_masked c.args.text.now a n c.in_err-front.ensures.none h))

pub returns : goal.returns
returns c = rw c.in_ok-front.ensures.parts c.parse_parts.ensures

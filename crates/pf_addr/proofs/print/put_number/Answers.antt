use Rattle.std.proofs.Common.{arith, ◌∙◌, inl, inr}
use Rattle.pf_addr.proofs.Digits.{number_text}
use Rattle.pf_addr.proofs.print.put_number.Goals.{then-number-ge100, else-number-ge100, then-number-ge10, else-number-ge10}
use Rattle.pf_addr.proofs.print.put_number.Goals as goal

pub returns-clause-text : goal.returns-clause-text
returns-clause-text c =
    number_text c.args.number c.args.line.now c.if-number-ge100.line c.if-number-ge10.line _ (omega arith)
    (elim c.if-number-ge100.branch [
      | then-number-ge100 w ↦ inl (w.if-number-ge100.true, w.line-is ∙ w.push.ensures)
      | else-number-ge100 w ↦ inr (w.if-number-ge100.false, w.line-is)
    ])
    (elim c.if-number-ge10.branch [
      | then-number-ge10 w ↦ inl (w.if-number-ge10.true, w.line-is ∙ w.push-then-number-ge10.ensures)
      | else-number-ge10 w ↦ inr (w.if-number-ge10.false, w.line-is)
    ])
    c.push-2.ensures

use Rattle.std.proofs.Common.{◌∙◌, ap, length, arith, inl, inr}
use Rattle.std.proofs.lemmas.List.{length_push}
use Rattle.pf_addr.proofs.Groups.{add_group}
use Rattle.pf_addr.proofs.print.put_groups.Goals.{then-i-gt0, else-i-gt0}
use Rattle.pf_addr.proofs.print.put_groups.Goals as goal

pub loop-i-preserved : goal.loop-i-preserved
loop-i-preserved c = (
  add_group c.args.groups.now c.loop-i.i c.args.line.now c.loop-i.line c.if-i-gt0.line _ c.loop-i-test.true c.loop-i.invariant.0
      (elim c.if-i-gt0.branch [
        | then-i-gt0 w ↦ inl (w.if-i-gt0.true, w.line-is ∙ w.push.ensures)
        | else-i-gt0 w ↦ inr (w.if-i-gt0.false, w.line-is)
      ])
      c.put_group.ensures.text,
  elim c.if-i-gt0.branch [
    | then-i-gt0 w ↦ let long = ap length (w.line-is ∙ w.push.ensures) ∙ length_push c.loop-i.line 58 in omega (arith, c.put_group.ensures.most, c.loop-i.invariant.1, long)
    | else-i-gt0 w ↦ omega (arith, c.put_group.ensures.most, c.loop-i.invariant.1, ap length w.line-is)
  ],
)

use Rattle.pf_parts.proofs.CallPrints.{ups_more}
use Rattle.pf_parts.proofs.JoinLemmas.{Extends-then}
use Rattle.pf_parts.proofs.call_text.put_ups.Goals as goal

pub loop-step-preserved : goal.loop-step-preserved
loop-step-preserved c = record {
  whole = ups_more _ _ _ _ _ c.loop-step-test.true c.loop-step.invariant.whole c.in_ok-put_piece.ensures.ok;
  kept = Extends-then c.loop-step.invariant.kept c.in_ok-put_piece.ensures.kept;
}

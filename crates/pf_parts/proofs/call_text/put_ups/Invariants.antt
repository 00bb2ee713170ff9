use Rattle.std.proofs.Common.{◌≡◌, ◌-◌, ◌++◌, false, nat_lt}
use Rattle.pf_parts.specs.Appending.{Extends}
use Rattle.pf_parts.specs.CallPieces.{pieces_text}
use Rattle.pf_parts.specs.CallText.{climb}
use Rattle.pf_parts.proofs.call_text.put_ups.Given as goal

-- what is appended so far and what is still to append are all of them
abbrev pub invariant-loop-step : goal.invariant-loop-step
invariant-loop-step l = record {
  whole : l.out.items ++ pieces_text (nat_lt 0 l.step) (climb (l.ups - l.step)) ≡ l.fn.out.items ++ pieces_text false (climb l.ups);
  kept : Extends l.fn.out.items l.out.items;
}

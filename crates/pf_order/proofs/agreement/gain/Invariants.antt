use Rattle.std.proofs.Common.{◌≡◌, ◌+◌, ◌*◌, ◌≤◌, drop, length}
use Rattle.pf_order.specs.Order.{gain}
use Rattle.pf_order.proofs.agreement.gain.Given as goal

abbrev pub invariant-loop-place : goal.invariant-loop-place
invariant-loop-place l = record {
  within : l.place ≤ length l.rules;
  found : l.total ≡ gain (drop l.place l.rules);
  fits : l.total + 8 * l.place ≤ 8 * length l.rules;
}

abbrev pub decreases-loop-place : goal.decreases-loop-place
decreases-loop-place l = l.place

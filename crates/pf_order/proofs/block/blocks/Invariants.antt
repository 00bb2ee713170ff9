use Rattle.std.proofs.Common.{◌≡◌, ◌≤◌, drop, length, reverse}
use Rattle.pf_order.specs.Blocks.{joins, runs_of, spans_from}
use Rattle.pf_order.proofs.block.blocks.Given as goal

abbrev pub invariant-loop-place : goal.invariant-loop-place
invariant-loop-place l = record {
  within : l.place ≤ length l.rules;
  found : reverse l.spans.items ≡ spans_from l.place (runs_of joins (drop l.place l.rules));
}

abbrev pub decreases-loop-place : goal.decreases-loop-place
decreases-loop-place l = l.place

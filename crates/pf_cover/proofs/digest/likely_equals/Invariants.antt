use Rattle.std.proofs.Common.{◌≡◌, length}
use Rattle.pf_cover.proofs.digest.likely_equals.Given as goal

abbrev pub invariant-loop-i : goal.invariant-loop-i
invariant-loop-i l = length l.hints.items ≡ length l.rules

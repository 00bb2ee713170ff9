use Rattle.std.proofs.Common.{◌≡◌, ◌≤◌, ◌<◌, ℕ, true, length, get_or}
use Rattle.pf_cover.specs.Search.{covering}
use Rattle.pf_cover.specs.declared.corner.Corner.{Corner}
use Rattle.pf_cover.proofs.search.first_among.Given as goal

-- no corner that was passed has a covering rule before the first so far
abbrev pub invariant-loop-left : goal.invariant-loop-left
invariant-loop-left l = record {
  within : l.left ≤ length l.jumps;
  most : l.first ≤ length l.rules;
  is : l.first < length l.rules → covering l.rule (get_or l.rules l.first l.rule) ≡ true;
  none : (i : ℕ) (d : Corner) → l.left ≤ i → i < length l.corners → covering l.rule (get_or l.rules (get_or l.corners i d).place l.rule) ≡ true → l.first ≤ (get_or l.corners i d).place;
}

abbrev pub decreases-loop-left : goal.decreases-loop-left
decreases-loop-left l = l.left

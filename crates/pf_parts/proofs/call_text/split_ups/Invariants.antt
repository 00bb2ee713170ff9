use Rattle.std.proofs.Common.{◌≡◌, ◌+◌, ◌*◌, ◌++◌, length}
use Rattle.std.specs.List.{slice_split}
use Rattle.pf_base.specs.Path.{is_slash}
use Rattle.pf_parts.specs.CallText.{climb}
use Rattle.pf_parts.proofs.call_text.split_ups.Given as goal

-- the `..` so far and what is left are the whole text
abbrev pub invariant-loop-behind : goal.invariant-loop-behind
invariant-loop-behind l = record {
  pieces : slice_split is_slash l.text ≡ climb l.ups ++ slice_split is_slash l.rest;
  bytes : 3 * l.ups + length l.rest ≡ length l.text;
}

abbrev pub decreases-loop-behind : goal.decreases-loop-behind
decreases-loop-behind l = length l.rest

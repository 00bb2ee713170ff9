use Rattle.std.proofs.Common.{◌≡◌, ℕ, ◌+◌, ◌≤◌, List, ◌++◌, length}
use Rattle.pf_base.specs.Text.{lines_of}
use Rattle.pf_optim.specs.Profile.{SayRows}
use Rattle.pf_optim.specs.ProfileSteps.{rows_of}
use Rattle.pf_optim.proofs.reading.read_profile.Given as goal

-- the lines so far say the rows; those that are left follow
abbrev pub invariant-loop-line : goal.invariant-loop-line
invariant-loop-line l = record {
  seen : List (List ℕ);
  joined : lines_of l.fn.text ≡ seen ++ lines_of l.rest;
  counted : length seen ≡ l.number;
  few : l.number + length l.rest ≤ length l.fn.text;
  said : SayRows seen (rows_of l.counts.entries);
}

abbrev pub decreases-loop-line : goal.decreases-loop-line
decreases-loop-line l = length l.rest

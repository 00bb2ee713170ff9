use Rattle.std.proofs.Common.{◌≡◌, ℕ, ◌+◌, ◌≤◌, List, ◌++◌, length}
use Rattle.pf_base.specs.Text.{lines_of}
use Rattle.pf_host.specs.Facts.{facts_in}
use Rattle.pf_host.specs.Line.{lines_said}
use Rattle.pf_host.specs.Meaning.{AreSaid, IsSound}
use Rattle.pf_host.proofs.read.read_facts.Given as goal

-- the lines so far have no fault and say the facts; those that are left follow
abbrev pub invariant-loop-line : goal.invariant-loop-line
invariant-loop-line l = record {
  seen : List (List ℕ);
  joined : lines_of l.fn.text ≡ seen ++ lines_of l.rest;
  counted : length seen ≡ l.number;
  few : l.number + length l.rest ≤ length l.fn.text;
  sound : IsSound seen;
  said : AreSaid (lines_said seen) (facts_in l.lists);
}

abbrev pub decreases-loop-line : goal.decreases-loop-line
decreases-loop-line l = length l.rest

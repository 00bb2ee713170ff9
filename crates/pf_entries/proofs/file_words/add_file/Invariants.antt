use Rattle.std.proofs.Common.{◌≡◌, ℕ, ◌+◌, ◌≤◌, List, ◌++◌, length}
use Rattle.pf_base.specs.Text.{lines_of}
use Rattle.pf_host.specs.Facts.{HostFacts}
use Rattle.pf_entries.specs.Tables.{Gathers}
use Rattle.pf_entries.proofs.Gathering.{lines_in}
use Rattle.pf_entries.proofs.file_words.add_file.Given as goal

-- the lines so far were added, and the others follow
abbrev pub invariant-loop-text : goal.invariant-loop-text
invariant-loop-text l = record {
  seen : List (List ℕ);
  joined : lines_of l.fn.file.text ≡ seen ++ lines_of l.rest;
  counted : length seen ≡ l.line;
  few : l.line + length l.rest ≤ length l.fn.file.text;
  so : (facts : HostFacts) → Gathers facts (lines_in l.fn.file.number seen) l.initial.gathered l.gathered;
}

abbrev pub decreases-loop-text : goal.decreases-loop-text
decreases-loop-text l = length l.rest

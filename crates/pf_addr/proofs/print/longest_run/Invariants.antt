use Rattle.std.proofs.Common.{◌≡◌, ◌+◌, ◌≤◌, length, drop}
use Rattle.std.specs.Net.Text.{zero_run, longest_zero_run}
use Rattle.pf_addr.proofs.print.longest_run.Given as goal

-- the run that begins here, and the longest of the groups from here on
abbrev pub invariant-loop-start : goal.invariant-loop-start
invariant-loop-start l = record {
  here : l.len ≡ zero_run (drop l.start l.groups);
  most : l.longest.len ≡ (longest_zero_run (drop l.start l.groups)).1;
  place : l.longest.start ≡ l.start + (longest_zero_run (drop l.start l.groups)).0;
  here_within : l.start + l.len ≤ length l.groups;
  most_within : l.longest.start + l.longest.len ≤ length l.groups;
}

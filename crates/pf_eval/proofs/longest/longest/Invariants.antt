use Rattle.std.proofs.Common.{◌≡◌, drop}
use Rattle.pf_eval.specs.Longest.{longest_with}
use Rattle.pf_table.specs.Table.{narrowest}
use Rattle.pf_eval.proofs.longest.longest.Given as goal

-- the longest so far and of those that are left is the longest of all
abbrev pub invariant-loop-entry : goal.invariant-loop-entry
invariant-loop-entry l = longest_with l.best (narrowest (drop l.entry-index l.entries) l.addr) ≡ narrowest l.entries l.addr

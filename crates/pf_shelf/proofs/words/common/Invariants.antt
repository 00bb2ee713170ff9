use Rattle.std.proofs.Common.{◌≡◌, ◌≤◌, take, length}
use Rattle.std.specs.List.{filter}
use Rattle.pf_shelf.specs.Change.{has_entry}
use Rattle.pf_shelf.proofs.words.common.Given as goal

abbrev pub invariant-loop-entry : goal.invariant-loop-entry
invariant-loop-entry l = record { is : l.common ≡ length (filter (has_entry l.second) (take l.entry-index l.entry-items)); small : l.common ≤ l.entry-index }

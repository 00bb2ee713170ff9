use Rattle.std.proofs.Common.{length}
use Rattle.pf_state.specs.Words.{IsEntryWord}
use Rattle.pf_engine.proofs.Tabling.{GoesOn}
use Rattle.pf_engine.proofs.tables.entries_of.Given as goal

-- how the words that are left are read is how all are read
abbrev pub invariant-loop-word : goal.invariant-loop-word
invariant-loop-word l = GoesOn IsEntryWord l.fn.words l.left l.entries

abbrev pub decreases-loop-word : goal.decreases-loop-word
decreases-loop-word l = length l.left

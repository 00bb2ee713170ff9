use Rattle.std.proofs.Common.{length}
use Rattle.pf_addr.specs.Grammar.{IsAddrText}
use Rattle.pf_engine.proofs.Tabling.{GoesOn}
use Rattle.pf_engine.proofs.tables.addrs_of.Given as goal

-- how the words that are left are read is how all are read
abbrev pub invariant-loop-word : goal.invariant-loop-word
invariant-loop-word l = GoesOn IsAddrText l.fn.words l.left l.addrs

abbrev pub decreases-loop-word : goal.decreases-loop-word
decreases-loop-word l = length l.left

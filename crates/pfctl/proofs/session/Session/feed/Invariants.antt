use Rattle.std.proofs.Common.{◌+◌, ◌++◌, ◌≤◌, length}
use Rattle.pfctl.specs.Doing.{world}
use Rattle.pfctl.proofs.Feeding.{Fed}
use Rattle.pfctl.proofs.session.Session.feed.Given as goal

-- the lines so far were executed
abbrev pub invariant-loop-line : goal.invariant-loop-line
invariant-loop-line g l = record {
  fed : Fed l.lead (world l.fn.self (g.F.Files.tells l.fn.files) (g.W.Sink.tells l.fn.out)) (world l.self (g.F.Files.tells l.files) (g.W.Sink.tells l.out)) (l.fn.kept.items ++ l.piece) l.kept.items l.rest;
  drawn : l.self.engine.next + length l.rest ≤ l.fn.self.engine.next + length l.piece;
  later : (g.W.Sink.tells l.fn.out).faults ≤ (g.W.Sink.tells l.out).faults;
}

abbrev pub decreases-loop-line : goal.decreases-loop-line
decreases-loop-line g l = length l.rest

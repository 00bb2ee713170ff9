use Rattle.std.proofs.Common.{◌+◌, ◌≤◌}
use Rattle.pfctl.specs.Doing.{world}
use Rattle.pfctl.specs.Input.{most_input}
use Rattle.pfctl.proofs.Inputs.{SoFar}
use Rattle.pfctl.proofs.session.Session.read_input.Given as goal

-- the whole lines so far were executed
abbrev pub invariant-loop-count : goal.invariant-loop-count
invariant-loop-count g l = record {
  so_far : SoFar l.lead (world l.fn.self (g.F.Files.tells l.fn.files) (g.W.Sink.tells l.fn.out)) (world l.self (g.F.Files.tells l.files) (g.W.Sink.tells l.out)) (g.S.Source.tells l.fn.input) (g.S.Source.tells l.input) l.kept.items l.allowed;
  drawn : l.self.engine.next + l.allowed ≤ l.fn.self.engine.next + most_input;
}

abbrev pub decreases-loop-count : goal.decreases-loop-count
decreases-loop-count g l = l.allowed

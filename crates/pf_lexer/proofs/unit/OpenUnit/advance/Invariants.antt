use Rattle.std.proofs.Common.{◌≤◌, [], length}
use Rattle.pf_source.specs.Told.{Told, file_of}
use Rattle.pf_lexer.specs.Calls.{AsksAndReads, StandsIn}
use Rattle.pf_lexer.specs.Going.{unit_weight}
use Rattle.pf_lexer.specs.Units.{GoesTo}
use Rattle.pf_lexer.proofs.unit.OpenUnit.advance.Given as goal

-- from the start the unit went on to here
abbrev pub invariant-loop-statement : goal.invariant-loop-statement
invariant-loop-statement g l = record {
  goes : Told (g.F.Files.tells l.fn.files).held (λ held. GoesTo (file_of held) l.fn.self l.fn.reads l.self l.reads);
  asks : AsksAndReads [] (g.F.Files.tells l.fn.files) (g.F.Files.tells l.files) l.fn.reads l.reads;
  within : StandsIn (length l.fn.reads.names) l.fn.self → StandsIn (length l.reads.names) l.self;
  lighter : unit_weight l.self l.reads ≤ unit_weight l.fn.self l.fn.reads;
}

abbrev pub decreases-loop-statement : goal.decreases-loop-statement
decreases-loop-statement g l = unit_weight l.self l.reads

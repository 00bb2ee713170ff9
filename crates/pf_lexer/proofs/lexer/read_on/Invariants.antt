use Rattle.std.proofs.Common.{◌≤◌, ◌++◌, List, [], Option, length}
use Rattle.pf_source.specs.Told.{Told, file_of}
use Rattle.pf_lexer.specs.declared.deed.Statement.{Statement}
use Rattle.pf_lexer.specs.declared.fault.LexFault.{LexFault}
use Rattle.pf_lexer.specs.Calls.{AsksAndReads, IsGoing}
use Rattle.pf_lexer.specs.Going.{stage_weight}
use Rattle.pf_lexer.specs.ReadSoFar.{ReadSoFar}
use Rattle.pf_lexer.specs.Units.{Handed}
use Rattle.pf_lexer.proofs.lexer.read_on.Given as goal

-- the statements so far with those of the rest are all
abbrev pub invariant-loop-statement : goal.invariant-loop-statement
invariant-loop-statement g l = record {
  handed : Told (g.F.Files.tells l.fn.files).held (λ held. (rest : List Statement) (fault : Option LexFault) (later : ReadSoFar)
      → Handed (file_of held) l.lexer.stage l.reads rest fault later → Handed (file_of held) l.fn.lexer.stage l.fn.reads (l.statements.items ++ rest) fault later);
  asks : AsksAndReads [] (g.F.Files.tells l.fn.files) (g.F.Files.tells l.files) l.fn.reads l.reads;
  going : IsGoing l.lexer.stage;
  known : l.lexer.known ≤ length l.reads.names;
}

abbrev pub decreases-loop-statement : goal.decreases-loop-statement
decreases-loop-statement g l = stage_weight l.lexer.stage l.reads

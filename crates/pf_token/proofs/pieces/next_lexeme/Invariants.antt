use Rattle.std.proofs.Common.{List, ◌≤◌}
use Rattle.pf_token.specs.declared.cell.Cell.{Cell}
use Rattle.pf_token.specs.declared.token.Lexeme.{Lexeme}
use Rattle.pf_token.specs.Macros.{value_of}
use Rattle.pf_token.specs.Pieces.{Next, NoMore}
use Rattle.pf_token.specs.Reading.{weight}
use Rattle.pf_token.proofs.pieces.next_lexeme.Given as goal

-- what comes next from here comes next from the start
abbrev pub invariant-loop-cell : goal.invariant-loop-cell
invariant-loop-cell l = record {
  one : (lexeme : Lexeme) (after : List Cell) → Next (value_of l.macros) l.reader lexeme after → Next (value_of l.macros) l.fn.reader lexeme after;
  none : NoMore (value_of l.macros) l.reader → NoMore (value_of l.macros) l.fn.reader;
  less : weight l.reader ≤ weight l.fn.reader;
}

abbrev pub decreases-loop-cell : goal.decreases-loop-cell
decreases-loop-cell l = weight l.reader

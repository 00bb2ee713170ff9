use Rattle.std.proofs.Common.{◌≤◌, [], length}
use Rattle.pf_token.specs.Macros.{value_of}
use Rattle.pf_lexer.specs.Statements.{most_tokens}
use Rattle.pf_token.specs.Reading.{weight}
use Rattle.pf_lexer.specs.Taking.{GoesOn, view_weight}
use Rattle.pf_lexer.proofs.TakingLemmas.{IsLighter}
use Rattle.pf_lexer.proofs.statement.read_statement.Given as goal

-- the statement has begun with the tokens so far, and the token in view comes next
abbrev pub invariant-loop-view : goal.invariant-loop-view
invariant-loop-view l = record {
  goes : GoesOn (value_of l.macros) [] l.front.lexemes.items l.fn.reader l.view l.reader;
  few : length l.front.lexemes.items ≤ most_tokens;
  lighter : IsLighter l.front.lexemes.items (view_weight l.view l.reader) (weight l.fn.reader);
}

abbrev pub decreases-loop-view : goal.decreases-loop-view
decreases-loop-view l = view_weight l.view l.reader

use Rattle.std.proofs.Common.{List, ◌++◌}
use Rattle.pf_token.specs.declared.token.Lexeme.{Lexeme}
use Rattle.pf_token.specs.Cells.{cells_from}
use Rattle.pf_token.specs.Macros.{value_of}
use Rattle.pf_token.specs.Pieces.{Reads}
use Rattle.pf_token.specs.Reading.{weight}
use Rattle.pf_token.proofs.lexemes.tokens_of.Given as goal

-- the tokens so far with those of the rest are those of the text
abbrev pub invariant-loop-reader : goal.invariant-loop-reader
invariant-loop-reader l =
    (rest : List Lexeme) → Reads (value_of l.macros) l.reader rest
    → Reads (value_of l.macros) (cells_from (record { file = l.fn.file; line = 1 }) l.fn.text) (l.found.items ++ rest)

abbrev pub decreases-loop-reader : goal.decreases-loop-reader
decreases-loop-reader l = weight l.reader

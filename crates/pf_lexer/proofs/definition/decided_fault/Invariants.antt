use Rattle.std.proofs.Common.{◌≡◌, ◌++◌, take}
use Rattle.pf_lexer.specs.Faults.{decided, definition_faults, definition_of, include_faults, include_of, token_faults}
use Rattle.pf_lexer.proofs.definition.decided_fault.Given as goal

abbrev pub invariant-loop-lexeme : goal.invariant-loop-lexeme
invariant-loop-lexeme l =
    l.decided ≡ decided (definition_faults (definition_of l.lexemes) l.close ++ include_faults l.includes (include_of l.lexemes) ++ token_faults (take l.lexeme-index l.lexemes))

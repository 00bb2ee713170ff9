use Rattle.std.proofs.Common.{◌≡◌, ◌++◌, drop}
use Rattle.pf_lexer.specs.Taking.{spaced}
use Rattle.pf_lexer.proofs.definition.add_texts.Given as goal

abbrev pub invariant-loop-lexeme : goal.invariant-loop-lexeme
invariant-loop-lexeme l = l.value.items ++ spaced (drop l.lexeme-index l.rest) ≡ l.fn.value.items ++ spaced l.rest

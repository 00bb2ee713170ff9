use Rattle.std.proofs.Common.{◌≡◌}
use Rattle.pf_lexer.specs.Deeds.{tokens_in}
use Rattle.pf_lexer.proofs.deed.tokens_in.Given as goal

abbrev pub invariant-loop-lexeme : goal.invariant-loop-lexeme
invariant-loop-lexeme l = l.tokens.items ≡ tokens_in l.yielded

-- One more token, or none.
use Rattle.std.proofs.Common.{◌∷◌, [], ◌++◌, sym, ap, ◌∙◌}
use Rattle.pf_lexer.specs.Deeds.{tokens_in}
use Rattle.pf_lexer.proofs.DeedLemmas.{tokens_in_token, tokens_in_fault}
use Rattle.pf_lexer.proofs.deed.tokens_in.Goals as goal

pub loop-lexeme-preserved-in-Continue-1 : goal.loop-lexeme-preserved-in-Continue-1
loop-lexeme-preserved-in-Continue-1 c =
    c.in_ok-push-in-Token.ensures.items
    ∙ ap (λ t. t ++ c.in-Token.token ∷ []) c.loop-lexeme.invariant
    ∙ sym (tokens_in_token c.loop-lexeme.yielded c.in-Token.token)
    ∙ ap (λ l. tokens_in (c.loop-lexeme.yielded ++ l ∷ [])) (sym c.in-Token.is)

pub loop-lexeme-preserved : goal.loop-lexeme-preserved
loop-lexeme-preserved c =
    c.loop-lexeme.invariant
    ∙ tokens_in_fault c.loop-lexeme.yielded c.in-Fault.field-0
    ∙ ap (λ l. tokens_in (c.loop-lexeme.yielded ++ l ∷ [])) (sym c.in-Fault.is)

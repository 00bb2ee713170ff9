-- One more token.
use Rattle.std.proofs.Common.{◌≡◌, ◌+◌, ◌++◌, ◌∷◌, [], Some, take, sym, ap, ◌∙◌}
use Rattle.std.proofs.lemmas.List.{take_more, take_all}
use Rattle.std.specs.Prelude.{if◌then◌else◌}
use Rattle.pf_token.specs.declared.token.Cause.TheVariants.{TooLarge}
use Rattle.pf_lexer.specs.Faults.{decided, definition_faults, definition_of, include_faults, include_of, length_fault, token_faults, too_large_at, or_earlier}
use Rattle.pf_lexer.proofs.FaultLemmas.{decided_fault_push, decided_token_push, decided_push}
use Rattle.pf_lexer.proofs.definition.decided_fault.Goals as goal
use Rattle.pf_lexer.proofs.definition.decided_fault.Goals.{in-Token, in-Fault}

pub loop-lexeme-preserved : goal.loop-lexeme-preserved
loop-lexeme-preserved c =
    let lexemes = c.args.lexemes.now in
    let i = c.loop-lexeme.lexeme-index in
    let before = definition_faults (definition_of lexemes) c.args.close ++ include_faults c.args.includes (include_of lexemes) in
    let more : take i lexemes ++ c.lexeme-item.result ∷ [] ≡ take (i + 1) lexemes =
    ap (λ l. take i lexemes ++ l ∷ []) c.lexeme-item.is ∙ sym (take_more lexemes i c.lexeme-item.result c.loop-lexeme-test.true) in
    elim c.match-lexeme.branch [
      | in-Token w ↦
          w.decided-is ∙ c.loop-lexeme.invariant ∙ decided_token_push before (take i lexemes) w.in-Token.field-0
          ∙ ap (λ l. decided (before ++ token_faults (take i lexemes ++ l ∷ []))) (sym w.in-Token.is)
          ∙ ap (λ l. decided (before ++ token_faults l)) more
      | in-Fault w ↦
          w.decided-is ∙ w.or_earlier.ensures ∙ ap (λ d. or_earlier d (Some w.in-Fault.fault)) c.loop-lexeme.invariant
          ∙ decided_fault_push before (take i lexemes) w.in-Fault.fault
          ∙ ap (λ l. decided (before ++ token_faults (take i lexemes ++ l ∷ []))) (sym w.in-Fault.is)
          ∙ ap (λ l. decided (before ++ token_faults l)) more
    ]

pub returns-in-Some : goal.returns-in-Some
returns-in-Some c =
    let lexemes = c.args.lexemes.now in
    let before = definition_faults (definition_of lexemes) c.args.close ++ include_faults c.args.includes (include_of lexemes) in
    let all = take_all c.loop-lexeme.lexeme-index lexemes c.loop-lexeme-test.false in
    c.or_earlier-in-Some.ensures
    ∙ ap (λ d. or_earlier d (Some (record { cause = TooLarge; place = c.place.result }))) (c.loop-lexeme.invariant ∙ ap (λ l. decided (before ++ token_faults l)) all)
    ∙ decided_push (before ++ token_faults lexemes) (record { cause = TooLarge; place = c.place.result })
    ∙ ap (λ p. decided ((before ++ token_faults lexemes) ++ record { cause = TooLarge; place = p } ∷ [])) c.place.ensures
    ∙ ap (λ o. decided ((before ++ token_faults lexemes) ++ too_large_at o)) c.in-Some.ensures.value
    ∙ ap (λ b. decided ((before ++ token_faults lexemes) ++ (if b then length_fault lexemes else []))) (sym c.if-is_long.true ∙ c.is_long.ensures)

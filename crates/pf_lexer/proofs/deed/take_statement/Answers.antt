-- A statement has a fault, defines a macro, names a file, is handed out, is the end, or is nothing.
use Rattle.std.proofs.Common.{List, sym, ap, ◌∙◌}
use Rattle.std.specs.Prelude.{option_map}
use Rattle.pf_token.specs.declared.token.Lexeme.{Lexeme}
use Rattle.pf_lexer.specs.Faults.{Parts, decided, definition_of, faults_of, file_named, include_of}
use Rattle.pf_lexer.proofs.DeedLemmas.{is_nothing_is, does_fails, does_defines, does_names, does_hands, does_ends, does_nothing}
use Rattle.pf_lexer.proofs.PlaceLemmas.{does_in}
use Rattle.pf_lexer.proofs.deed.take_statement.Goals as goal

pub returns-in-Some-clause-does : goal.returns-in-Some-clause-does
returns-in-Some-clause-does c =
    let raw = c.in_ok-raw.raw in
    does_fails c.args.includes c.args.macros.now c.args.reader.now c.read_statement.new.reader raw.lexemes.items raw.close c.in_ok-raw.ensures.ends
    c.in-Some.fault (c.in-Some.ensures ∙ ap (λ (l : List Lexeme). decided (faults_of c.args.includes l raw.close)) c.deref.ensures.value)

pub returns-in-Some-definition-clause-does : goal.returns-in-Some-definition-clause-does
returns-in-Some-definition-clause-does c =
    let raw = c.in_ok-raw.raw in
    let none = c.in_default.ensures ∙ ap (λ (l : List Lexeme). decided (faults_of c.args.includes l raw.close)) c.deref.ensures.value in
    let parts : Parts = record { name = c.in-Some-definition.name.now; values = c.in-Some-definition.values.now } in
    does_defines c.args.includes c.args.macros.now c.args.reader.now c.read_statement.new.reader raw.lexemes.items raw.close c.in_ok-raw.ensures.ends none
    parts c.define.new.macros (c.in-Some-definition.ensures ∙ ap definition_of c.deref-2.ensures.value) c.in_ok-define.ensures.ok

pub returns-in-Some-include_name-clause-does : goal.returns-in-Some-include_name-clause-does
returns-in-Some-include_name-clause-does c =
    let raw = c.in_ok-raw.raw in
    let none = c.in_default.ensures ∙ ap (λ (l : List Lexeme). decided (faults_of c.args.includes l raw.close)) c.deref.ensures.value in
    let name = c.of.ensures ∙ c.in_ok-name.ensures.items in
    does_names c.args.includes c.args.macros.now c.args.reader.now c.read_statement.new.reader raw.lexemes.items raw.close c.in_ok-raw.ensures.ends none
    c.of.result (rw name (c.in-Some-include_name.ensures ∙ ap (λ (l : List Lexeme). option_map file_named (include_of l)) c.deref-3.ensures.value))

pub returns-then-not-is_empty-clause-does : goal.returns-then-not-is_empty-clause-does
returns-then-not-is_empty-clause-does c =
    let raw = c.in_ok-raw.raw in
    let none = c.in_default.ensures ∙ ap (λ (l : List Lexeme). decided (faults_of c.args.includes l raw.close)) c.deref.ensures.value in
    let other = c.in_default-definition.ensures ∙ ap definition_of c.deref-2.ensures.value in
    let unnamed = c.in_default-include_name.ensures ∙ ap (λ (l : List Lexeme). option_map file_named (include_of l)) c.deref-3.ensures.value in
    let some = is_nothing_is raw.lexemes.items _ _ raw.lexemes.ok.0 c.is_empty.ensures ∙ c.if-not-is_empty.true in
    does_hands c.args.includes c.args.macros.now c.args.reader.now c.read_statement.new.reader raw.lexemes.items raw.close c.in_ok-raw.ensures.ends none
    c.in_ok-tokens.tokens c.is_body.result other unnamed some c.in_ok-tokens.ensures c.is_body.ensures

pub returns-then-is_end-clause-does : goal.returns-then-is_end-clause-does
returns-then-is_end-clause-does c =
    let raw = c.in_ok-raw.raw in
    let none = c.in_default.ensures ∙ ap (λ (l : List Lexeme). decided (faults_of c.args.includes l raw.close)) c.deref.ensures.value in
    let nothing = is_nothing_is raw.lexemes.items _ _ raw.lexemes.ok.0 c.is_empty.ensures ∙ c.if-not-is_empty.false in
    does_ends c.args.includes c.args.macros.now c.args.reader.now c.read_statement.new.reader raw.lexemes.items raw.close c.in_ok-raw.ensures.ends none
    nothing (sym c.is_end.ensures ∙ c.if-is_end.true)

pub returns-clause-does : goal.returns-clause-does
returns-clause-does c =
    let raw = c.in_ok-raw.raw in
    let none = c.in_default.ensures ∙ ap (λ (l : List Lexeme). decided (faults_of c.args.includes l raw.close)) c.deref.ensures.value in
    let nothing = is_nothing_is raw.lexemes.items _ _ raw.lexemes.ok.0 c.is_empty.ensures ∙ c.if-not-is_empty.false in
    does_nothing c.args.includes c.args.macros.now c.args.reader.now c.read_statement.new.reader raw.lexemes.items raw.close c.in_ok-raw.ensures.ends none
    nothing (sym c.is_end.ensures ∙ c.if-is_end.false)

pub returns-in-Some-clause-places : goal.returns-in-Some-clause-places
returns-in-Some-clause-places c = does_in c.next_stays_in.ensures (returns-in-Some-clause-does c)

pub returns-in-Some-definition-clause-places : goal.returns-in-Some-definition-clause-places
returns-in-Some-definition-clause-places c = does_in c.next_stays_in.ensures (returns-in-Some-definition-clause-does c)

pub returns-in-Some-include_name-clause-places : goal.returns-in-Some-include_name-clause-places
returns-in-Some-include_name-clause-places c = does_in c.next_stays_in.ensures (returns-in-Some-include_name-clause-does c)

pub returns-then-not-is_empty-clause-places : goal.returns-then-not-is_empty-clause-places
returns-then-not-is_empty-clause-places c = does_in c.next_stays_in.ensures (returns-then-not-is_empty-clause-does c)

pub returns-then-is_end-clause-places : goal.returns-then-is_end-clause-places
returns-then-is_end-clause-places c = does_in c.next_stays_in.ensures (returns-then-is_end-clause-does c)

pub returns-clause-places : goal.returns-clause-places
returns-clause-places c = does_in c.next_stays_in.ensures (returns-clause-does c)

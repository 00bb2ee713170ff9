-- A statement does one thing.
use Rattle.std.proofs.Common.{◌≡◌, ℕ, cond, List, [], Option, Some, None, refl, ap, sym, ◌∙◌}
use Rattle.pf_token.specs.declared.cell.Cell.{Cell}
use Rattle.pf_token.specs.declared.token.Fault.{Fault as FaultOf}
use Rattle.pf_token.specs.declared.token.Lexeme.{Lexeme}
use Rattle.pf_token.specs.Macros.{Table, value_of, with_definition}
use Rattle.pf_token.specs.Pieces.{NextIsOne}
use Rattle.pf_lexer.specs.declared.statement.Close.{Close}
use Rattle.pf_lexer.specs.declared.statement.Close.TheVariants.{End, Line}
use Rattle.pf_lexer.specs.declared.deed.Deed.{Deed}
use Rattle.pf_lexer.specs.declared.deed.Deed.TheVariants.{Nothing, Hands, Includes, Ends, Fails}
use Rattle.pf_lexer.specs.Closes.{is_body, is_end}
use Rattle.pf_lexer.specs.Deeds.{Does, tokens_in}
use Rattle.pf_lexer.specs.Faults.{IncludeParts, Parts, decided, definition_of, faults_of, file_named, include_among, include_of, is_nothing, joined, unless_defines}
use Rattle.pf_lexer.specs.Going.{rest_behind}
use Rattle.pf_lexer.specs.Statements.{IsStatement}
use Rattle.pf_lexer.proofs.OneEnd.{ends_one}

-- no statement is a definition and an include
no_definition : (lexemes : List Lexeme) (parts : IncludeParts) → include_of lexemes ≡ Some parts → definition_of lexemes ≡ None
no_definition lexemes parts is = by_parts (definition_of lexemes) (include_among lexemes) is where
  by_parts : (defined : Option Parts) (among : Option IncludeParts) → unless_defines defined among ≡ Some parts → defined ≡ None
  by_parts None among e = refl
  by_parts (Some found) among e = absurd cc

-- what it does, and the macros behind it
plain : List Lexeme → Close → Table → Deed × Table
plain lexemes close macros = cond (is_nothing lexemes) (cond (is_end close) (Ends, macros) (Nothing, macros)) (Hands (record { tokens = tokens_in lexemes; body = is_body close }), macros)

by_include : Option IncludeParts → List Lexeme → Close → Table → Deed × Table
by_include None lexemes close macros = plain lexemes close macros
by_include (Some parts) lexemes close macros = (Includes (file_named parts), macros)

by_definition : Option Parts → List Lexeme → Close → Table → Deed × Table
by_definition None lexemes close macros = by_include (include_of lexemes) lexemes close macros
by_definition (Some parts) lexemes close macros = (Nothing, with_definition macros parts.name.text (joined parts.values))

by_fault : Option FaultOf → List Lexeme → Close → Table → Deed × Table
by_fault None lexemes close macros = by_definition (definition_of lexemes) lexemes close macros
by_fault (Some fault) lexemes close macros = (Fails fault, macros)

done : ℕ → List Lexeme → Close → Table → Deed × Table
done includes lexemes close macros = by_fault (decided (faults_of includes lexemes close)) lexemes close macros

-- it does what its tokens and its end say
record IsDone (includes : ℕ) (macros : Table) (cells : List Cell) (deed : Deed) (changed : Table) (after : List Cell) : Type 0 where
  lexemes : List Lexeme
  close : Close
  behind : List Cell
  statement : IsStatement (value_of macros) cells lexemes close behind
  deed_is : deed ≡ (done includes lexemes close macros).0
  changed_is : changed ≡ (done includes lexemes close macros).1
  after_is : after ≡ rest_behind deed behind

is_done : {includes : ℕ} {macros changed : Table} {cells after : List Cell} {deed : Deed} → Does includes macros cells deed changed after → IsDone includes macros cells deed changed after
unfolding done by_fault by_definition by_include plain
is_done {after = after} (Does.nothing one) = record { lexemes = []; close = Line; behind = after; statement = one; deed_is = refl; changed_is = refl; after_is = refl }
is_done {macros = macros} {after = after} (Does.defines {lexemes = lexemes} {close = close} {parts = parts} one none is) =
    let e = ap (λ f. by_fault f lexemes close macros) none ∙ ap (λ d. by_definition d lexemes close macros) is in
    record { lexemes = lexemes; close = close; behind = after; statement = one; deed_is = sym (ap (λ (d : Deed × Table). d.0) e); changed_is = sym (ap (λ (d : Deed × Table). d.1) e); after_is = refl }
is_done {includes = includes} {macros = macros} {after = after} (Does.names {lexemes = lexemes} {close = close} {parts = parts} one none is) =
    let e = ap (λ f. by_fault f lexemes close macros) none ∙ ap (λ d. by_definition d lexemes close macros) (no_definition lexemes parts is) ∙ ap (λ i. by_include i lexemes close macros) is in
    record { lexemes = lexemes; close = close; behind = after; statement = one; deed_is = sym (ap (λ (d : Deed × Table). d.0) e); changed_is = sym (ap (λ (d : Deed × Table). d.1) e); after_is = refl }
is_done {macros = macros} {after = after} (Does.hands {lexemes = lexemes} {close = close} one none other unnamed some) =
    let e = ap (λ f. by_fault f lexemes close macros) none ∙ ap (λ d. by_definition d lexemes close macros) other ∙ ap (λ i. by_include i lexemes close macros) unnamed
    ∙ ap (λ b. cond b (cond (is_end close) (Ends, macros) (Nothing, macros)) (Hands (record { tokens = tokens_in lexemes; body = is_body close }), macros)) some in
    record { lexemes = lexemes; close = close; behind = after; statement = one; deed_is = sym (ap (λ (d : Deed × Table). d.0) e); changed_is = sym (ap (λ (d : Deed × Table). d.1) e); after_is = refl }
is_done {after = after} (Does.ends one) = record { lexemes = []; close = End; behind = after; statement = one; deed_is = refl; changed_is = refl; after_is = refl }
is_done {macros = macros} (Does.fails {after = behind} {lexemes = lexemes} {close = close} {fault = fault} one is) =
    let e = ap (λ f. by_fault f lexemes close macros) is in
    record { lexemes = lexemes; close = close; behind = behind; statement = one; deed_is = sym (ap (λ (d : Deed × Table). d.0) e); changed_is = sym (ap (λ (d : Deed × Table). d.1) e); after_is = refl }

-- the same deed, macros and rest
pub record SameDeed (a b : Deed) (m n : Table) (r s : List Cell) : Type 0 where
  pub deed : a ≡ b
  pub macros : m ≡ n
  pub rest : r ≡ s

-- a statement does one thing
pub does_one : (law : (values : List ℕ → Option (List ℕ)) → NextIsOne values) {includes : ℕ} {macros changed others : Table} {cells after rest : List Cell} {deed other : Deed}
    → Does includes macros cells deed changed after → Does includes macros cells other others rest → SameDeed deed other changed others after rest
does_one law {includes = includes} {macros = macros} one two =
    let first = is_done one in
    let second = is_done two in
    let same = ends_one (value_of macros) (law (value_of macros)) first.statement second.statement in
    let deeds = first.deed_is ∙ (λ i. (done includes (same.lexemes i) (same.close i) macros).0) ∙ sym second.deed_is in
    record {
      deed = deeds;
      macros = first.changed_is ∙ (λ i. (done includes (same.lexemes i) (same.close i) macros).1) ∙ sym second.changed_is;
      rest = first.after_is ∙ (λ i. rest_behind (deeds i) (same.rest i)) ∙ sym second.after_is;
    }

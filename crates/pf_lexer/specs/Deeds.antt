-- What the next statement of a file does. pf.conf(5), its introduction and MACROS
use Rattle.std.specs.Prelude.{◌≡◌, ℕ, false, List, [], ◌∷◌, Some, None}
use Rattle.pf_token.specs.declared.cell.Cell.{Cell}
use Rattle.pf_token.specs.declared.token.Token.{Token as TokenOf}
use Rattle.pf_token.specs.declared.token.Fault.{Fault as FaultOf}
use Rattle.pf_token.specs.declared.token.Lexeme.{Lexeme}
use Rattle.pf_token.specs.declared.token.Lexeme.TheVariants.{Token, Fault}
use Rattle.pf_token.specs.Macros.{Table, value_of, with_definition}
use Rattle.pf_lexer.specs.declared.statement.Close.{Close}
use Rattle.pf_lexer.specs.declared.statement.Close.TheVariants.{End, Line}
use Rattle.pf_lexer.specs.declared.deed.Deed.{Deed}
use Rattle.pf_lexer.specs.declared.deed.Deed.TheVariants.{Nothing, Hands, Includes, Ends, Fails}
use Rattle.pf_lexer.specs.Closes.{is_body}
use Rattle.pf_lexer.specs.Faults.{IncludeParts, Parts, decided, definition_of, faults_of, file_named, include_of, is_nothing, joined}
use Rattle.pf_lexer.specs.Statements.{IsStatement}

-- the tokens without the faults
abbrev pub tokens_in : List Lexeme → List TokenOf
tokens_in [] = []
tokens_in (Token token ∷ rest) = token ∷ tokens_in rest
tokens_in (Fault fault ∷ rest) = tokens_in rest

-- What the next statement of a file does that stands inside so many includes, with the macros before it and after it, and
-- the cells behind it.
pub data Does (includes : ℕ) : Table → List Cell → Deed → Table → List Cell → Type 0 where
  -- an empty statement is nothing
  nothing : {macros : Table} {cells after : List Cell}
      → IsStatement (value_of macros) cells [] Line after
      → Does includes macros cells Nothing macros after
  -- a definition extends the macros for the statements after it, and isn't handed out
  defines : {macros : Table} {cells after : List Cell} {lexemes : List Lexeme} {close : Close} {parts : Parts}
      → IsStatement (value_of macros) cells lexemes close after
      → decided (faults_of includes lexemes close) ≡ None
      → definition_of lexemes ≡ Some parts
      → Does includes macros cells Nothing (with_definition macros parts.name.text (joined parts.values)) after
  -- an include names a file
  names : {macros : Table} {cells after : List Cell} {lexemes : List Lexeme} {close : Close} {parts : IncludeParts}
      → IsStatement (value_of macros) cells lexemes close after
      → decided (faults_of includes lexemes close) ≡ None
      → include_of lexemes ≡ Some parts
      → Does includes macros cells (Includes (file_named parts)) macros after
  -- any other statement without a fault is handed out
  hands : {macros : Table} {cells after : List Cell} {lexemes : List Lexeme} {close : Close}
      → IsStatement (value_of macros) cells lexemes close after
      → decided (faults_of includes lexemes close) ≡ None
      → definition_of lexemes ≡ None
      → include_of lexemes ≡ None
      → is_nothing lexemes ≡ false
      → Does includes macros cells (Hands (record { tokens = tokens_in lexemes; body = is_body close })) macros after
  ends : {macros : Table} {cells after : List Cell}
      → IsStatement (value_of macros) cells [] End after
      → Does includes macros cells Ends macros after
  -- behind a fault nothing more is read
  fails : {macros : Table} {cells after : List Cell} {lexemes : List Lexeme} {close : Close} {fault : FaultOf}
      → IsStatement (value_of macros) cells lexemes close after
      → decided (faults_of includes lexemes close) ≡ Some fault
      → Does includes macros cells (Fails fault) macros []

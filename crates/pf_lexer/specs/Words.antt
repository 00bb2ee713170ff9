-- Words that have at least one byte: those of each statement.
use Rattle.std.specs.Prelude.{◌≡◌, ℕ, Bool, true, nat_le, List, length, Option, Some, None}
use Rattle.std.specs.List.{list_all}
use Rattle.pf_token.specs.declared.token.Token.{Token}
use Rattle.pf_token.specs.declared.token.TokenKind.{TokenKind}
use Rattle.pf_token.specs.declared.token.TokenKind.TheVariants.{Word, Quoted, Sign, Newline}
use Rattle.pf_lexer.specs.declared.deed.Statement.{Statement}
use Rattle.pf_lexer.specs.declared.unit.Turn.{Turn}
use Rattle.pf_lexer.specs.declared.unit.Turn.TheVariants as turns

-- a word without quotes has a byte
abbrev pub text_has_bytes : TokenKind → List ℕ → Bool
text_has_bytes Word text = nat_le 1 (length text)
text_has_bytes Quoted text = true
text_has_bytes Sign text = true
text_has_bytes Newline text = true

abbrev pub token_has_bytes : Token → Bool
token_has_bytes token = text_has_bytes token.kind token.text

abbrev pub tokens_have_bytes : List Token → Bool
tokens_have_bytes tokens = list_all token_has_bytes tokens

-- the words of a statement that is handed out
abbrev pub FoundHasBytes : Option Statement → Type 0
FoundHasBytes None = Unit {0}
FoundHasBytes (Some statement) = tokens_have_bytes statement.tokens ≡ true

-- the same of what one statement leads to
abbrev pub TurnHasBytes : Turn → Type 0
TurnHasBytes turns.Passed = Unit {0}
TurnHasBytes (turns.Hands statement) = tokens_have_bytes statement.tokens ≡ true
TurnHasBytes turns.Over = Unit {0}

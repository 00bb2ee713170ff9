-- The symbols of a statement: its tokens without their places (pf.conf(5), GRAMMAR).
use Rattle.std.specs.Prelude.{ℕ, Bool, true, false, List, [], ◌∷◌, map, ◌&&◌}
use Rattle.std.specs.Str.{bytes_eq}
use Rattle.pf_token.specs.declared.token.Token.{Token}
use Rattle.pf_token.specs.declared.token.TokenKind.{TokenKind}
use Rattle.pf_token.specs.declared.token.TokenKind.TheVariants.{Word, Quoted, Sign, Newline}

-- a word without quotes, a string in quotes, a sign, or the end of a line
pub data Symbol : Type 0 where
  bare : List ℕ → Symbol
  quoted : List ℕ → Symbol
  mark : List ℕ → Symbol
  line_end : Symbol

abbrev pub Symbols : Type 0
Symbols = List Symbol

abbrev pub symbol_of_kind : TokenKind → List ℕ → Symbol
symbol_of_kind Word text = bare text
symbol_of_kind Quoted text = quoted text
symbol_of_kind Sign text = mark text
symbol_of_kind Newline text = line_end

abbrev pub symbol_of : Token → Symbol
symbol_of token = symbol_of_kind token.kind token.text

abbrev pub symbols : List Token → List Symbol
symbols tokens = map symbol_of tokens

-- a keyword is a bare word
abbrev pub is_word : List ℕ → Symbol → Bool
is_word word (bare text) = bytes_eq text word
is_word word (quoted text) = false
is_word word (mark text) = false
is_word word line_end = false

abbrev pub is_mark : List ℕ → Symbol → Bool
is_mark sign (bare text) = false
is_mark sign (quoted text) = false
is_mark sign (mark text) = bytes_eq text sign
is_mark sign line_end = false

abbrev pub is_string : Symbol → Bool
is_string (bare text) = false
is_string (quoted text) = true
is_string (mark text) = false
is_string line_end = false

-- this test of the next symbol, where there is one
abbrev pub next_is : (Symbol → Bool) → List Symbol → Bool
next_is test [] = false
next_is test (symbol ∷ rest) = test symbol

-- these two stand next
abbrev pub next_are : (Symbol → Bool) → (Symbol → Bool) → List Symbol → Bool
next_are first second [] = false
next_are first second (symbol ∷ rest) = first symbol && next_is second rest

-- nothing is left
abbrev pub is_end : List Symbol → Bool
is_end [] = true
is_end (symbol ∷ rest) = false

-- Kinds of tokens, and of the faults in their place. A token with a fault counts as a word.
use Rattle.std.specs.Prelude.{ℕ, Bool, true, false, ◌&&◌, ◌==◌, List, [], ◌∷◌, nat_eq}
use Rattle.std.specs.Cmp.Lexicographic.{pointwise}
use Rattle.pf_base.specs.declared.fault.Place.{Place}
use Rattle.pf_token.specs.declared.token.TokenKind.{TokenKind}
use Rattle.pf_token.specs.declared.token.TokenKind.TheVariants.{Word, Quoted, Sign, Newline}
use Rattle.pf_token.specs.declared.token.Cause.{Cause}
use Rattle.pf_token.specs.declared.token.Cause.TheVariants.{BadByte, Unterminated, MacroUndefined, MacroName, IncludeDepth, TooLarge, Syntax}
use Rattle.pf_token.specs.declared.token.Lexeme.{Lexeme}
use Rattle.pf_token.specs.declared.token.Lexeme.TheVariants.{Token, Fault}

abbrev pub is_newline_kind : TokenKind → Bool
is_newline_kind Word = false
is_newline_kind Quoted = false
is_newline_kind Sign = false
is_newline_kind Newline = true

abbrev pub is_sign_kind : TokenKind → Bool
is_sign_kind Word = false
is_sign_kind Quoted = false
is_sign_kind Sign = true
is_sign_kind Newline = false

abbrev pub is_word_kind : TokenKind → Bool
is_word_kind Word = true
is_word_kind Quoted = false
is_word_kind Sign = false
is_word_kind Newline = false

-- a word or a string
abbrev pub is_text_kind : TokenKind → Bool
is_text_kind Word = true
is_text_kind Quoted = true
is_text_kind Sign = false
is_text_kind Newline = false

-- a newline: a token with a fault is none
abbrev pub is_newline : Lexeme → Bool
is_newline (Token token) = is_newline_kind token.kind
is_newline (Fault fault) = false

-- the text is this one byte
abbrev pub is_byte : ℕ → List ℕ → Bool
is_byte byte [] = false
is_byte byte (first ∷ []) = first == byte
is_byte byte (first ∷ next ∷ rest) = false

-- this sign: a token with a fault is none
abbrev pub is_sign : ℕ → Lexeme → Bool
is_sign byte (Token token) = is_sign_kind token.kind && is_byte byte token.text
is_sign byte (Fault fault) = false

-- this word, without quotes
abbrev pub is_bare : List ℕ → Lexeme → Bool
is_bare word (Token token) = is_word_kind token.kind && pointwise nat_eq token.text word
is_bare word (Fault fault) = false

-- A word or a string. A token with a fault counts as one.
abbrev pub is_text : Lexeme → Bool
is_text (Token token) = is_text_kind token.kind
is_text (Fault fault) = true

abbrev pub is_fault : Lexeme → Bool
is_fault (Token token) = false
is_fault (Fault fault) = true

abbrev pub text_of : Lexeme → List ℕ
text_of (Token token) = token.text
text_of (Fault fault) = []

abbrev pub place_of : Lexeme → Place
place_of (Token token) = token.place
place_of (Fault fault) = fault.place

-- the order in which the kinds of faults are tried
abbrev pub rank : Cause → ℕ
rank BadByte = 0
rank Unterminated = 1
rank (MacroUndefined name) = 2
rank MacroName = 3
rank IncludeDepth = 4
rank TooLarge = 5
rank Syntax = 6

-- Which texts a file can have as one token (pf.conf(5), its introduction and MACROS).
use Rattle.std.specs.Prelude.{ℕ, Bool, true, false, ◌&&◌, ◌==◌, not, List, [], ◌∷◌}
use Rattle.std.specs.List.{list_all}
use Rattle.pf_token.specs.declared.byte.ByteClass.{ByteClass}
use Rattle.pf_token.specs.declared.byte.ByteClass.TheVariants.{Blank, Newline, Sign, Quote, Hash, Dollar, Plain, Bad}
use Rattle.pf_decl.specs.ReadBack.{is_string_byte}
use Rattle.pf_token.specs.declared.token.Token.{Token}
use Rattle.pf_token.specs.declared.token.TokenKind.{TokenKind}
use Rattle.pf_token.specs.declared.token.TokenKind.TheVariants as kinds
use Rattle.pf_token.specs.Bytes.{class_of, is_known, is_word_byte}

abbrev pub is_plain_class : ByteClass → Bool
is_plain_class Plain = true
is_plain_class Blank = false
is_plain_class Newline = false
is_plain_class Sign = false
is_plain_class Quote = false
is_plain_class Hash = false
is_plain_class Dollar = false
is_plain_class Bad = false

-- a word that uses no macro
abbrev pub is_word_text : List ℕ → Bool
is_word_text [] = false
is_word_text (first ∷ text) = is_plain_class (class_of first) && list_all is_word_byte (first ∷ text)

-- a byte of a string that stands for itself
abbrev pub is_plain_in_string : ℕ → Bool
is_plain_in_string byte = not (byte == 34) && (not (byte == 92) && not (byte == 10))

abbrev pub is_known_byte : ℕ → Bool
is_known_byte byte = is_known (class_of byte)

-- what a string of a file says as it stands
abbrev pub is_string_text : List ℕ → Bool
is_string_text text = list_all is_plain_in_string text && list_all is_known_byte text

-- the text of a token of a file, by its kind
abbrev pub is_text_of : TokenKind → List ℕ → Bool
is_text_of kinds.Word text = is_word_text text
is_text_of kinds.Quoted text = list_all is_string_byte text
is_text_of kinds.Sign text = true
is_text_of kinds.Newline text = true

-- a token that a file can have
abbrev pub is_read_token : Token → Bool
is_read_token token = is_text_of token.kind token.text

abbrev pub are_read_tokens : List Token → Bool
are_read_tokens = list_all is_read_token

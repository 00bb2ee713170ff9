-- The tokens of a text. pf.conf(5), its introduction and MACROS
use Rattle.std.specs.Prelude.{◌≡◌, ℕ, Bool, true, false, ◌&&◌, ◌||◌, ◌==◌, not, nat_lt, List, [], ◌∷◌, ◌++◌, Option, Some, None, take}
use Rattle.std.specs.List.{list_all}
use Rattle.pf_base.specs.declared.fault.Place.{Place}
use Rattle.pf_token.specs.declared.byte.ByteClass.TheVariants.{Blank, Newline, Sign, Quote, Hash, Dollar, Plain, Bad}
use Rattle.pf_token.specs.declared.cell.Cell.{Cell}
use Rattle.pf_token.specs.declared.token.TokenKind.{TokenKind}
use Rattle.pf_token.specs.declared.token.TokenKind.TheVariants as kinds
use Rattle.pf_token.specs.declared.token.Cause.{Cause}
use Rattle.pf_token.specs.declared.token.Cause.TheVariants as causes
use Rattle.pf_token.specs.declared.token.Lexeme.{Lexeme}
use Rattle.pf_token.specs.declared.token.Lexeme.TheVariants as lexemes
use Rattle.pf_token.specs.Bytes.{class_of, is_word_byte, is_name_byte, is_known}
use Rattle.pf_token.specs.Cells.{are_in, cells_at, bytes_of, stops, has_dollar}
use Rattle.pf_token.specs.Kinds.{place_of}

abbrev pub token : TokenKind → List ℕ → Place → Lexeme
token kind text place = lexemes.Token (record { kind = kind; text = text; place = place })

abbrev pub fault : Cause → Place → Lexeme
fault cause place = lexemes.Fault (record { cause = cause; place = place })

-- the longest run of cells that pass the test: all of them do, and the rest doesn't begin with one that does
pub record IsLongestRun (test : ℕ → Bool) (cells rest : List Cell) : Type 0 where
  pub each : list_all (λ cell. test cell.byte) cells ≡ true
  pub ends : stops test rest ≡ true

-- anything but a newline
abbrev pub is_in_line : ℕ → Bool
is_in_line byte = not (byte == 10)

-- the bytes that a backslash between quotes stands before: the quote itself, a space and a tab
abbrev pub is_escapable : ℕ → ℕ → Bool
is_escapable quote byte = byte == quote || byte == 32 || byte == 9

-- a backslash and such a byte come first
abbrev pub is_escape : ℕ → List Cell → Bool
is_escape quote [] = false
is_escape quote (slash ∷ []) = false
is_escape quote (slash ∷ cell ∷ cells) = (slash.byte == 92) && is_escapable quote cell.byte

-- What stands behind an opening quote: the cells up to the closing quote or the end, those that follow, the text that
-- they stand for, and whether each byte of it may stand there.
pub data Between (quote : ℕ) : List Cell → List Cell → List ℕ → Bool → Type 0 where
  nothing : {rest : List Cell} → Between quote [] rest [] true
  -- a backslash before the quote, a space or a tab stands for that byte
  escaped : {slash cell : Cell} {cells rest : List Cell} {text : List ℕ} {known : Bool}
      → is_escape quote (slash ∷ cell ∷ []) ≡ true
      → Between quote cells rest text known
      → Between quote (slash ∷ cell ∷ cells) rest (cell.byte ∷ text) known
  -- a newline is dropped
  dropped : {cell : Cell} {cells rest : List Cell} {text : List ℕ} {known : Bool}
      → (cell.byte == 10) ≡ true
      → Between quote cells rest text known
      → Between quote (cell ∷ cells) rest text known
  -- all else stands for itself, any other backslash too
  kept : {cell : Cell} {cells rest : List Cell} {text : List ℕ} {known : Bool}
      → (cell.byte == quote) ≡ false
      → (cell.byte == 10) ≡ false
      → is_escape quote (cell ∷ (cells ++ rest)) ≡ false
      → Between quote cells rest text known
      → Between quote (cell ∷ cells) rest (cell.byte ∷ text) (is_known (class_of cell.byte) && known)

-- the token of a string that is closed: a byte that may stand in no string makes it a fault
abbrev pub string_of : Bool → List ℕ → Place → Lexeme
string_of true text place = token kinds.Quoted text place
string_of false text place = fault causes.BadByte place

-- the fault of a string that the file's end cuts off
abbrev pub cut_off : Bool → Place → Lexeme
cut_off true place = fault causes.Unterminated place
cut_off false place = fault causes.BadByte place

-- The first piece of the cells that are still to be read: the cells that it is spelled with, those that follow it, its
-- token where it makes one, and the cells from which reading goes on. `values` says what macros stand for.
pub data Piece (values : List ℕ → Option (List ℕ)) : List Cell → List Cell → Option Lexeme → List Cell → Type 0 where
  -- space, tab and carriage return separate tokens
  blank : {cell : Cell} {rest : List Cell}
      → class_of cell.byte ≡ Blank
      → Piece values (cell ∷ []) rest None rest
  -- `#` begins a comment that runs to the end of the line
  comment : {hash : Cell} {cells rest : List Cell}
      → class_of hash.byte ≡ Hash
      → IsLongestRun is_in_line cells rest
      → Piece values (hash ∷ cells) rest None rest
  newline : {cell : Cell} {rest : List Cell}
      → class_of cell.byte ≡ Newline
      → Piece values (cell ∷ []) rest (Some (token kinds.Newline [] cell.place)) rest
  sign : {cell : Cell} {rest : List Cell}
      → class_of cell.byte ≡ Sign
      → Piece values (cell ∷ []) rest (Some (token kinds.Sign (cell.byte ∷ []) cell.place)) rest
  -- a string ends with the byte that begins it
  string : {opening closing : Cell} {cells rest : List Cell} {text : List ℕ} {known : Bool}
      → class_of opening.byte ≡ Quote
      → Between opening.byte cells (closing ∷ rest) text known
      → (closing.byte == opening.byte) ≡ true
      → Piece values (opening ∷ (cells ++ closing ∷ [])) rest (Some (string_of known text opening.place)) rest
  unterminated : {opening : Cell} {cells : List Cell} {text : List ℕ} {known : Bool}
      → class_of opening.byte ≡ Quote
      → Between opening.byte cells [] text known
      → Piece values (opening ∷ cells) [] (Some (cut_off known opening.place)) []
  -- a word is as long as it can be, and `$` inside it has no meaning
  word : {first : Cell} {cells rest : List Cell}
      → class_of first.byte ≡ Plain
      → IsLongestRun is_word_byte cells rest
      → Piece values (first ∷ cells) rest (Some (token kinds.Word (first.byte ∷ bytes_of cells) first.place)) rest
  bad : {cell : Cell} {rest : List Cell}
      → class_of cell.byte ≡ Bad
      → Piece values (cell ∷ []) rest (Some (fault causes.BadByte cell.place)) rest
  -- where a token begins with `$` and a macro's name, the value takes their place, and reading goes on at its first byte
  used : {dollar first : Cell} {name rest : List Cell} {value : List ℕ}
      → class_of dollar.byte ≡ Dollar
      → IsLongestRun is_name_byte (first ∷ name) rest
      → values (bytes_of (first ∷ name)) ≡ Some value
      → has_dollar value ≡ false
      → Piece values (dollar ∷ first ∷ name) rest None (cells_at dollar.place value ++ rest)
  -- otherwise it is a fault, which takes the rest of its word with it: no name follows
  unnamed : {dollar : Cell} {cells rest : List Cell}
      → class_of dollar.byte ≡ Dollar
      → IsLongestRun is_word_byte cells rest
      → stops is_name_byte (cells ++ rest) ≡ true
      → Piece values (dollar ∷ cells) rest (Some (fault causes.MacroName dollar.place)) rest
  -- the name stands for nothing
  undefined : {dollar first : Cell} {name others rest : List Cell}
      → class_of dollar.byte ≡ Dollar
      → IsLongestRun is_name_byte (first ∷ name) (others ++ rest)
      → values (bytes_of (first ∷ name)) ≡ None
      → IsLongestRun is_word_byte others rest
      → Piece values (dollar ∷ first ∷ (name ++ others)) rest (Some (fault (causes.MacroUndefined (take 63 (bytes_of (first ∷ name)))) dollar.place)) rest
  -- the value has a `$` itself
  nested : {dollar first : Cell} {name others rest : List Cell} {value : List ℕ}
      → class_of dollar.byte ≡ Dollar
      → IsLongestRun is_name_byte (first ∷ name) (others ++ rest)
      → values (bytes_of (first ∷ name)) ≡ Some value
      → has_dollar value ≡ true
      → IsLongestRun is_word_byte others rest
      → Piece values (dollar ∷ first ∷ (name ++ others)) rest (Some (fault causes.Syntax dollar.place)) rest

-- the next token of the cells, and the cells after it
pub data Next (values : List ℕ → Option (List ℕ)) : List Cell → Lexeme → List Cell → Type 0 where
  here : {cells spelled rest after : List Cell} {lexeme : Lexeme}
      → cells ≡ spelled ++ rest
      → Piece values spelled rest (Some lexeme) after
      → Next values cells lexeme after
  passed : {cells spelled rest next after : List Cell} {lexeme : Lexeme}
      → cells ≡ spelled ++ rest
      → Piece values spelled rest None next
      → Next values next lexeme after
      → Next values cells lexeme after

-- no token comes any more
pub data NoMore (values : List ℕ → Option (List ℕ)) : List Cell → Type 0 where
  ended : NoMore values []
  passed : {cells spelled rest next : List Cell}
      → cells ≡ spelled ++ rest
      → Piece values spelled rest None next
      → NoMore values next
      → NoMore values cells

-- the tokens of the cells, to their end
pub data Reads (values : List ℕ → Option (List ℕ)) : List Cell → List Lexeme → Type 0 where
  ended : {cells : List Cell} → NoMore values cells → Reads values cells []
  next : {cells after : List Cell} {lexeme : Lexeme} {lexemes : List Lexeme}
      → Next values cells lexeme after
      → Reads values after lexemes
      → Reads values cells (lexeme ∷ lexemes)

-- what comes next is one thing
pub record NextIsOne (values : List ℕ → Option (List ℕ)) : Type 0 where
  pub one : {cells after rest : List Cell} {lexeme other : Lexeme} → Next values cells lexeme after → Next values cells other rest → (lexeme ≡ other) × (after ≡ rest)
  pub none : {cells after : List Cell} {lexeme : Lexeme} → NoMore values cells → Next values cells lexeme after → ⊥

-- what comes next stands in the files of the cells, and so do the cells behind it
pub record StaysIn (count : ℕ) (lexeme : Lexeme) (after : List Cell) : Type 0 where
  pub lexeme_in : nat_lt (place_of lexeme).file count ≡ true
  pub after_in : are_in count after ≡ true

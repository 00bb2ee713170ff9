-- The entries of a table's file (pf.conf(5), TABLES, file): words between spaces, tabs, carriage returns and newlines, where a `#`
-- anywhere begins a comment up to the line's end. An entry is an address or a prefix with a `!` right before it or not.
use Rattle.std.specs.Prelude.{◌≡◌, ℕ, ◌+◌, Bool, true, false, ◌&&◌, ◌||◌, ◌==◌, not, nat_le, List, [], ◌∷◌, ◌++◌, take, filter, map, Result, Ok, Err, if◌then◌else◌}
use Rattle.std.specs.List.{list_any, position_or_len, slice_split}
use Rattle.pf_base.specs.Text.{is_nothing, lines_of}
use Rattle.pf_base.specs.declared.fault.FaultKind.{FaultKind}
use Rattle.pf_base.specs.declared.fault.FaultKind.TheVariants as kinds
use Rattle.pf_base.specs.declared.fault.Place.{Place}
use Rattle.pf_addr.specs.Grammar.{Writes}
use Rattle.pf_addr.specs.PrefixText.{IsPrefixText, IsTooLong}
use Rattle.pf_addr.specs.declared.addr.Addr.{Addr}
use Rattle.pf_addr.specs.declared.prefix.Prefix.{Prefix}
use Rattle.pf_lexer.specs.declared.reads.ReadFile.{ReadFile}
use Rattle.pf_table.specs.declared.entry.Entry.{Entry}
use Rattle.pf_word.specs.Words.{named}

-- a space, a tab or a carriage return
abbrev pub is_gap : ℕ → Bool
is_gap byte = byte == 32 || byte == 9 || byte == 13

abbrev pub is_hash : ℕ → Bool
is_hash byte = byte == 35

-- a byte of a word; each other one but the gaps may stand in comments alone
abbrev pub is_word_byte : ℕ → Bool
is_word_byte byte = nat_le 33 byte && nat_le byte 126

abbrev pub is_bad : ℕ → Bool
is_bad byte = not (is_gap byte || is_word_byte byte)

-- a line without its comment
abbrev pub visible : List ℕ → List ℕ
visible line = take (position_or_len is_hash line) line

-- its words
unfoldable pub words_in : List ℕ → List (List ℕ)
words_in line = filter (λ word. not (is_nothing word)) (slice_split is_gap line)

-- What stands in a file: a word, or a byte that may not stand there.
pub data Bit : Type 0 where
  a_word : List ℕ → Bit
  a_bad_byte : Bit

-- a bad byte of a line, and its words
abbrev pub bits_in : List ℕ → List Bit
bits_in line = (if list_any is_bad line then a_bad_byte ∷ [] else []) ++ map a_word (words_in line)

-- the same with its place
pub record PlacedBit : Type 0 where
  pub bit : Bit
  pub place : Place

abbrev pub bits_at : Place → List ℕ → List PlacedBit
bits_at place line = map (λ bit. record { bit = bit; place = place }) (bits_in (visible line))

-- lines of the file of this number, the first of which has this number
abbrev pub bits_from : ℕ → ℕ → List (List ℕ) → List PlacedBit
bits_from file number [] = []
bits_from file number (line ∷ lines) = bits_at (record { file = file; line = number }) line ++ bits_from file (number + 1) lines

-- all that stands in a file
abbrev pub bits_of : ReadFile → List PlacedBit
bits_of file = bits_from file.number 1 (lines_of file.text)

-- a word behind its `!`; a lone `!` has none
pub record Signed : Type 0 where
  pub negated : Bool
  pub word : List ℕ

abbrev pub unsigned : List ℕ → Signed
unsigned [] = record { negated = false; word = [] }
unsigned (byte ∷ []) = record { negated = false; word = byte ∷ [] }
unsigned (byte ∷ next ∷ bytes) = if byte == 33 then record { negated = true; word = next ∷ bytes } else record { negated = false; word = byte ∷ next ∷ bytes }

-- what a word without its sign means: an address or a prefix; it may be none only because the mask's number is too great
pub data TextMeans (negated : Bool) (text : List ℕ) (answer : Result (List Entry) FaultKind) : Type 0 where
  a_prefix : (prefix : Prefix) → IsPrefixText text prefix → answer ≡ Ok (record { prefix = prefix; negated = negated } ∷ []) → TextMeans negated text answer
  too_long : (bits : ℕ) → ((prefix : Prefix) → IsPrefixText text prefix → ⊥) → IsTooLong text bits → answer ≡ Err (kinds.MaskTooLong bits) → TextMeans negated text answer
  no_prefix : ((addr : Addr) (bits : ℕ) → Writes text addr bits → ⊥) → answer ≡ Err (kinds.NotAnAddress (named text)) → TextMeans negated text answer

abbrev pub EntryMeans : List ℕ → Result (List Entry) FaultKind → Type 0
EntryMeans text answer = let signed = unsigned text in TextMeans signed.negated signed.word answer

abbrev pub BitMeans : Bit → Result (List Entry) FaultKind → Type 0
BitMeans (a_word text) answer = EntryMeans text answer
BitMeans a_bad_byte answer = answer ≡ Err kinds.BadByte

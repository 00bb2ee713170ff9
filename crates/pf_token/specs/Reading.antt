-- The tokens of a text as the code finds them, piece by piece, on lists. proofs/Pieces says that these are the pieces of
-- specs/Pieces and no others.
use Rattle.std.specs.Prelude.{◌≡◌, ℕ, ◌+◌, ◌^◌, Bool, true, false, ◌&&◌, ◌==◌, List, [], ◌∷◌, ◌++◌, Option, Some, None, take, if◌then◌else◌}
use Rattle.pf_base.specs.declared.fault.Place.{Place}
use Rattle.pf_token.specs.declared.byte.ByteClass.{ByteClass}
use Rattle.pf_token.specs.declared.byte.ByteClass.TheVariants.{Blank, Newline, Sign, Quote, Hash, Dollar, Plain, Bad}
use Rattle.pf_token.specs.declared.cell.Cell.{Cell}
use Rattle.pf_token.specs.declared.strings.StringPart.{StringPart}
use Rattle.pf_token.specs.declared.strings.StringPart.TheVariants.{Closed, Dropped, Byte}
use Rattle.pf_token.specs.declared.uses.MacroUse.{MacroUse}
use Rattle.pf_token.specs.declared.uses.MacroUse.TheVariants.{Refused, Value}
use Rattle.pf_token.specs.declared.token.TokenKind.TheVariants as kinds
use Rattle.pf_token.specs.declared.token.Cause.TheVariants as causes
use Rattle.pf_token.specs.declared.token.Lexeme.{Lexeme}
use Rattle.pf_token.specs.Bytes.{class_of, is_word_byte, is_name_byte, is_known}
use Rattle.pf_token.specs.Cells.{cells_at, bytes_of, has_dollar}
use Rattle.pf_token.specs.Pieces.{token, fault, is_in_line, is_escape, string_of, cut_off}

-- the cells from the front on that pass the test
unfoldable pub front : (ℕ → Bool) → List Cell → List Cell
front test [] = []
front test (cell ∷ cells) = if test cell.byte then cell ∷ front test cells else []

-- the cells that follow those
unfoldable pub beyond : (ℕ → Bool) → List Cell → List Cell
beyond test [] = []
beyond test (cell ∷ cells) = if test cell.byte then beyond test cells else cell ∷ cells

-- what was found behind an opening quote
pub record Quoted : Type 0 where
  pub text : List ℕ
  pub known : Bool
  pub closed : Bool
  pub after : List Cell

-- the same with a text before it
abbrev pub prepended : List ℕ → Bool → Quoted → Quoted
prepended text known quoted = record quoted { text = text ++ quoted.text; known = known && quoted.known }

unfoldable pub quoted_from : ℕ → List Cell → Quoted
quoted_from quote [] = record { text = []; known = true; closed = false; after = [] }
quoted_from quote (cell ∷ []) =
    if cell.byte == quote then record { text = []; known = true; closed = true; after = [] }
    else (if cell.byte == 10 then record { text = []; known = true; closed = false; after = [] }
    else record { text = cell.byte ∷ []; known = is_known (class_of cell.byte) && true; closed = false; after = [] })
quoted_from quote (cell ∷ next ∷ cells) =
    if cell.byte == quote then record { text = []; known = true; closed = true; after = next ∷ cells }
    else (if cell.byte == 10 then quoted_from quote (next ∷ cells)
    else (if is_escape quote (cell ∷ next ∷ []) then prepended (next.byte ∷ []) true (quoted_from quote cells)
    else prepended (cell.byte ∷ []) (is_known (class_of cell.byte)) (quoted_from quote (next ∷ cells))))

-- what is found behind a cell between quotes, where the cell ends the string, is dropped or stands for a byte
abbrev pub part_then : ℕ → StringPart → List Cell → Quoted
part_then quote Closed cells = record { text = []; known = true; closed = true; after = cells }
part_then quote Dropped cells = quoted_from quote cells
part_then quote (Byte byte) cells = prepended (byte ∷ []) (is_known (class_of byte)) (quoted_from quote cells)

-- a token or none, and the cells from which reading goes on
abbrev pub Step : Type 0
Step = Option Lexeme × List Cell

abbrev pub quoted_step : Place → Quoted → Step
quoted_step place quoted = (Some (if quoted.closed then string_of quoted.known quoted.text place else cut_off quoted.known place), quoted.after)

-- a macro with a value is used, unless that has a `$`
abbrev pub value_step : Place → List ℕ → List Cell → Step
value_step place value cells =
    if has_dollar value then (Some (fault causes.Syntax place), beyond is_word_byte cells)
    else (None, cells_at place value ++ cells)

-- behind `$` the name's bytes, what they stand for, and the cells after them
abbrev pub named_step : Place → List ℕ → Option (List ℕ) → List Cell → Step
named_step place [] value cells = (Some (fault causes.MacroName place), beyond is_word_byte cells)
named_step place (byte ∷ name) None cells = (Some (fault (causes.MacroUndefined (take 63 (byte ∷ name))) place), beyond is_word_byte cells)
named_step place (byte ∷ name) (Some value) cells = value_step place value cells

unfoldable pub macro_step : (List ℕ → Option (List ℕ)) → Place → List Cell → Step
macro_step values place cells =
    let name = bytes_of (front is_name_byte cells) in
    named_step place name (values name) (beyond is_name_byte cells)

-- the piece that begins with a cell of this class
abbrev pub step_by : ByteClass → (List ℕ → Option (List ℕ)) → Cell → List Cell → Step
step_by Blank values cell cells = (None, cells)
step_by Hash values cell cells = (None, beyond is_in_line cells)
step_by Newline values cell cells = (Some (token kinds.Newline [] cell.place), cells)
step_by Sign values cell cells = (Some (token kinds.Sign (cell.byte ∷ []) cell.place), cells)
step_by Quote values cell cells = quoted_step cell.place (quoted_from cell.byte cells)
step_by Plain values cell cells = (Some (token kinds.Word (cell.byte ∷ bytes_of (front is_word_byte cells)) cell.place), beyond is_word_byte cells)
step_by Dollar values cell cells = macro_step values cell.place cells
step_by Bad values cell cells = (Some (fault causes.BadByte cell.place), cells)

unfoldable pub step : (List ℕ → Option (List ℕ)) → List Cell → Step
step values [] = (None, [])
step values (cell ∷ cells) = step_by (class_of cell.byte) values cell cells

-- what the code finds behind `$`, as a step: a fault, or a value to put in
abbrev pub use_step : Place → MacroUse → List Cell → Step
use_step place (Refused cause) cells = (Some (fault cause place), cells)
use_step place (Value value) cells = (None, cells_at place value.items ++ cells)

-- the cells that are left after it
abbrev pub left_after : MacroUse → List Cell → List Cell
left_after (Refused cause) cells = beyond is_word_byte cells
left_after (Value value) cells = cells

-- this is what stands behind a `$` with this name, where the name has this value
abbrev pub IsUseOf : MacroUse → List ℕ → Option (List ℕ) → Type 0
IsUseOf found name value = (place : Place) (cells : List Cell) → named_step place name value cells ≡ use_step place found (left_after found cells)

-- a value that is put in has no `$`
abbrev pub IsPlainUse : MacroUse → Type 0
IsPlainUse (Refused cause) = Unit {0}
IsPlainUse (Value value) = has_dollar value.items ≡ false

-- How much is left to do: each step makes it less. A `$` may stand for a whole value, which is shorter than 2 ^ 64 bytes.
abbrev pub weight : List Cell → ℕ
weight [] = 0
weight (cell ∷ cells) = (if cell.byte == 36 then 2 ^ 64 else 1) + weight cells

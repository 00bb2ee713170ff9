-- What was read of the input.
use Rattle.std.specs.Prelude.{◌≡◌, ℕ, ◌+◌, ◌-◌, ◌^◌, ◌<◌, ◌≤◌, min, List, [], ◌∷◌, ◌++◌, length, take}
use Rattle.std.specs.Io.KnownBytes.{Consumes, IsAtEnd}
use Rattle.pf_base.specs.Text.{line_of_rest, unfinished, whole_lines}
use Rattle.pf_source.specs.Causes.{Rose}
use Rattle.pf_source.specs.Streams.{gave_piece}
use Rattle.pf_source.specs.Told.{SourceTold}
use Rattle.pf_source.specs.declared.source.LastRead.{LastRead}

-- the input may have this many bytes
abbrev pub most_input : ℕ
most_input = 67108864

-- these bytes were read from the input, and no others
pub record Reads (old new : SourceTold) (front : List ℕ) : Type 0 where
  pub consumed : Consumes old.left new.left front
  pub given : new.given ≡ old.given + length front

-- how many reads were made since the last piece, where these bytes were read and nothing was tried behind them
abbrev pub reads_since : LastRead → List ℕ → ℕ
reads_since last [] = last.since
reads_since last (byte ∷ front) = 0

-- Bytes were read, and then one read more was made, which gave none.
pub record ReadsToLast (old new : SourceTold) : Type 0 where
  pub front : List ℕ
  pub reads : Reads old new front
  pub since : new.last.since ≡ min (reads_since old.last front + 1) (2 ^ 64 - 1)
  pub within : length front ≤ most_input

-- The whole input was read, within its limit, up to the read that met its end.
pub record WholeInput (old new : SourceTold) : Type 0 where
  pub read : ReadsToLast old new
  pub ended : IsAtEnd new.left

-- The input was read up to a read that failed.
pub record InputToFault (old new : SourceTold) : Type 0 where
  pub read : ReadsToLast old new
  pub failed : Rose old.faults new.faults

-- The input was read up to a piece, which the last read gave; the bytes before it are within the limit.
pub record InputToPiece (old new : SourceTold) : Type 0 where
  pub front : List ℕ
  pub piece : List ℕ
  pub reads : Reads old new (front ++ piece)
  pub last : new.last ≡ gave_piece (length piece)
  pub within : length front ≤ most_input

-- That piece goes past the limit.
pub record InputPastLimit (old new : SourceTold) : Type 0 where
  pub read : InputToPiece old new
  pub beyond : most_input < length (read.front ++ read.piece)

-- where the reading stood when a run stopped: nothing was read, or a piece was read last, or the whole input was
pub data StoppedInput (old new : SourceTold) : Type 0 where
  untouched : new ≡ old → StoppedInput old new
  to_piece : InputToPiece old new → StoppedInput old new
  to_end : WholeInput old new → StoppedInput old new

-- the lines that end in a piece, behind what was read before it and within the limit
abbrev pub lines_ending_in : List ℕ → List ℕ → List (List ℕ)
lines_ending_in front piece = whole_lines (unfinished front ++ take (most_input - length front) piece)

-- the last line, which the end of the input ends: what stands behind the last newline, if anything does
abbrev pub last_line : List ℕ → List (List ℕ)
last_line front = line_of_rest (unfinished front)

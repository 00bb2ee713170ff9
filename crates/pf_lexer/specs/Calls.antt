-- What a call of a lexer tells, whatever the files tell.
use Rattle.std.specs.Prelude.{◌≡◌, ℕ, ◌<◌, ◌≤◌, true, List, [], ◌∷◌, Option, Some, None, Result, Ok, Err, ◌⊎◌}
use Rattle.pf_source.specs.Asks.{Asks}
use Rattle.pf_source.specs.Disk.{AreAbsent, Disk}
use Rattle.pf_source.specs.Told.{FilesTold}
use Rattle.pf_token.specs.declared.cell.Cell.{Cell}
use Rattle.pf_token.specs.declared.token.Token.{Token}
use Rattle.pf_token.specs.Cells.{are_in}
use Rattle.pf_lexer.specs.declared.fault.LexFault.{LexFault}
use Rattle.pf_lexer.specs.declared.fault.LexFault.TheVariants as faults
use Rattle.pf_lexer.specs.ReadSoFar.{ReadSoFar}
use Rattle.pf_lexer.specs.Reads.{GoesOn, Made}
use Rattle.pf_lexer.specs.Stages.{Standing, Stage, going, failed}
use Rattle.pf_lexer.specs.Units.{Answer, GoesTo, Leads, Opens}

-- the name of the file that a fault says can't be read
abbrev pub unread_by : LexFault → List (List ℕ)
unread_by (faults.BadByte place) = []
unread_by (faults.Unterminated place) = []
unread_by (faults.MacroUndefined place name) = []
unread_by (faults.MacroName place) = []
unread_by (faults.IncludeDepth place) = []
unread_by (faults.TooLarge place) = []
unread_by (faults.Syntax place) = []
unread_by (faults.CannotRead name) = name ∷ []
unread_by faults.NoMemory = []

abbrev pub unread_in : {T : Type 0} → Result T LexFault → List (List ℕ)
unread_in (Ok x) = []
unread_in (Err fault) = unread_by fault

-- the name of the file for which the fault that ends a unit comes
abbrev pub unread_at_end : Option LexFault → List (List ℕ)
unread_at_end None = []
unread_at_end (Some fault) = unread_by fault

-- the names of the reads that failed in a call: where a fault comes again, none did
abbrev pub unread_from : Stage → Answer → List (List ℕ)
unread_from (going unit) answer = unread_in answer
unread_from (failed fault) answer = []

-- What one call asks of the files, and what the reads are after it, also after a fault: the files of these names couldn't be
-- read, and the reads are such as readings lead to, with names behind the others, each once, and bytes taken off.
pub record AsksAndReads (names : List (List ℕ)) (old new : FilesTold) (reads later : ReadSoFar) : Type 0 where
  pub files : Asks names old new
  pub made : Made reads later
  pub grows : GoesOn reads.names later.names
  pub left : later.left ≤ reads.left

-- the one for want of memory, the other for each other fault
abbrev pub ByMemory : LexFault → Type 0 → Type 0 → Type 0
ByMemory (faults.BadByte place) short other = other
ByMemory (faults.Unterminated place) short other = other
ByMemory (faults.MacroUndefined place name) short other = other
ByMemory (faults.MacroName place) short other = other
ByMemory (faults.IncludeDepth place) short other = other
ByMemory (faults.TooLarge place) short other = other
ByMemory (faults.Syntax place) short other = other
ByMemory (faults.CannotRead name) short other = other
ByMemory faults.NoMemory short other = short

-- Where memory ran out: some statements were gone through that hand nothing out, and their files were read.
pub record RunsOut (disk : Disk) (unit : Standing) (reads later : ReadSoFar) : Type 0 where
  pub last : Standing
  pub goes : GoesTo disk unit reads last later

-- behind a fault no file is read
abbrev pub LacksMemoryIn : Disk → Stage → ReadSoFar → ReadSoFar → Type 0
LacksMemoryIn disk (going unit) reads later = RunsOut disk unit reads later
LacksMemoryIn disk (failed first) reads later = later ≡ reads

-- a call that ends with a fault
abbrev pub StopsWith : Disk → Stage → ReadSoFar → LexFault → Stage → ReadSoFar → Type 0
StopsWith disk stage reads fault next later = ByMemory fault (LacksMemoryIn disk stage reads later) (Leads disk stage reads (Err fault) next later)

-- a file that isn't read: without memory nothing is
abbrev pub IsUnopened : Disk → List ℕ → ReadSoFar → LexFault → ReadSoFar → Type 0
IsUnopened disk name reads fault later = ByMemory fault (later ≡ reads) (Opens disk name reads (Err fault) later)

-- a file that can't be read isn't there
abbrev pub IsTrueTo : Disk → Option LexFault → Type 0
IsTrueTo disk None = Unit {0}
IsTrueTo disk (Some fault) = AreAbsent disk (unread_by fault)

-- a fault ends what is read, and none comes in the place of the first
abbrev pub failed_by : Stage → LexFault → Stage
failed_by (going unit) fault = failed fault
failed_by (failed first) fault = failed first

-- There is no memory for the name of the file in the fault.
pub record LacksMemory (first fault : LexFault) : Type 0 where
  pub name : List ℕ
  pub of_file : first ≡ faults.CannotRead name
  pub lacks : fault ≡ faults.NoMemory

-- the same fault again, unless memory is short
abbrev pub IsAgain : LexFault → LexFault → Type 0
IsAgain first fault = (fault ≡ first) ⊎ LacksMemory first fault

-- behind a fault the same fault comes again
abbrev pub ComesAgain : Stage → Answer → Type 0
ComesAgain (going unit) answer = Unit {0}
ComesAgain (failed first) (Ok x) = ⊥
ComesAgain (failed first) (Err fault) = IsAgain first fault

-- the places name files whose numbers are below this
abbrev pub AreNumbered : ℕ → List Token → Type 0
AreNumbered count [] = Unit {0}
AreNumbered count (token ∷ tokens) = (token.place.file < count) × AreNumbered count tokens

abbrev pub IsNumbered : ℕ → LexFault → Type 0
IsNumbered count (faults.BadByte place) = place.file < count
IsNumbered count (faults.Unterminated place) = place.file < count
IsNumbered count (faults.MacroUndefined place name) = place.file < count
IsNumbered count (faults.MacroName place) = place.file < count
IsNumbered count (faults.IncludeDepth place) = place.file < count
IsNumbered count (faults.TooLarge place) = place.file < count
IsNumbered count (faults.Syntax place) = place.file < count
IsNumbered count (faults.CannotRead name) = Unit {0}
IsNumbered count faults.NoMemory = Unit {0}

abbrev pub AnswersNumbered : ℕ → Answer → Type 0
AnswersNumbered count (Ok None) = Unit {0}
AnswersNumbered count (Ok (Some statement)) = AreNumbered count statement.tokens
AnswersNumbered count (Err fault) = IsNumbered count fault

-- what holds of a lexer after its fault
abbrev pub IfAgain : Stage → Type 0 → Type 0
IfAgain (going unit) fact = Unit {0}
IfAgain (failed first) fact = fact

-- the open files of a unit have numbers below this
abbrev pub AreIn : ℕ → List (List Cell) → Type 0
AreIn count [] = Unit {0}
AreIn count (cells ∷ below) = (are_in count cells ≡ true) × AreIn count below

pub record StandsIn (count : ℕ) (unit : Standing) : Type 0 where
  pub top : are_in count unit.top ≡ true
  pub below : AreIn count unit.below

abbrev pub IsKnown : ℕ → Stage → Type 0
IsKnown count (going unit) = StandsIn count unit
IsKnown count (failed fault) = IsNumbered count fault

-- it goes on: it met no fault yet
abbrev pub IsGoing : Stage → Type 0
IsGoing (going unit) = Unit {0}
IsGoing (failed fault) = ⊥

-- How the code goes on from statement to statement.
use Rattle.std.specs.Prelude.{◌≡◌, Bool, true, false, ℕ, ◌+◌, ◌*◌, ◌^◌, ◌<◌, List, [], ◌∷◌, Option, Some, None, Result, Ok, Err}
use Rattle.pf_source.specs.Disk.{Disk}
use Rattle.pf_token.specs.declared.cell.Cell.{Cell}
use Rattle.pf_token.specs.Cells.{are_in}
use Rattle.pf_token.specs.Reading.{weight}
use Rattle.pf_lexer.specs.declared.deed.Deed.{Deed}
use Rattle.pf_lexer.specs.declared.deed.Deed.TheVariants.{Nothing, Hands, Includes, Ends, Fails}
use Rattle.pf_lexer.specs.declared.deed.Statement.{Statement}
use Rattle.pf_lexer.specs.declared.fault.LexFault.{LexFault}
use Rattle.pf_lexer.specs.declared.fault.LexFault.TheVariants as faults
use Rattle.pf_lexer.specs.declared.failure.Failure.{Failure}
use Rattle.pf_lexer.specs.declared.reads.ReadsFault.{ReadsFault}
use Rattle.pf_lexer.specs.declared.reads.ReadsFault.TheVariants as reading
use Rattle.pf_lexer.specs.declared.unit.Turn.{Turn}
use Rattle.pf_lexer.specs.declared.unit.Turn.TheVariants.{Passed, Over}
use Rattle.pf_lexer.specs.declared.unit.Turn.TheVariants as turns
use Rattle.pf_lexer.specs.Calls.{AreNumbered, ByMemory, IsNumbered, RunsOut, unread_by}
use Rattle.pf_lexer.specs.ReadSoFar.{ReadSoFar}
use Rattle.pf_lexer.specs.Units.{Answers, Opens, Passes}
use Rattle.pf_lexer.specs.Stages.{Standing, Stage, going, failed}

-- the cells behind a statement: nothing more is read behind a fault
abbrev pub rest_behind : Deed → List Cell → List Cell
rest_behind Nothing cells = cells
rest_behind (Hands statement) cells = cells
rest_behind (Includes name) cells = cells
rest_behind Ends cells = cells
rest_behind (Fails fault) cells = []

-- the names of the files that a call couldn't read
abbrev pub unread_for : {T : Type 0} → Result T Failure → List (List ℕ)
unread_for (Ok x) = []
unread_for (Err failure) = unread_by failure.fault

-- why a file with this name wasn't read, as it is answered
abbrev pub unopened : List ℕ → ReadsFault → LexFault
unopened name reading.Failed = faults.CannotRead name
unopened name (reading.TooLarge number) = faults.TooLarge (record { file = number; line = 0 })
unopened name reading.NoMemory = faults.NoMemory

-- where a file ends, the file below goes on
abbrev pub Leaves : Standing → Bool → Standing → Type 0
Leaves old true new = (old.below ≡ new.top ∷ new.below) × (new.macros ≡ old.macros)
Leaves old false new = (new ≡ old) × (old.below ≡ [])

-- Where memory ran out at an include, its file was read, or it wasn't.
pub data CutAt (disk : Disk) (name : List ℕ) : ReadSoFar → ReadSoFar → Type 0 where
  before : {reads : ReadSoFar} → CutAt disk name reads reads
  behind : {reads later : ReadSoFar} {cells : List Cell} → Opens disk name reads (Ok cells) later → CutAt disk name reads later

abbrev pub IsCut : Disk → List ℕ → ReadSoFar → LexFault → ReadSoFar → Type 0
IsCut disk name reads fault later = ByMemory fault (CutAt disk name reads later) (Opens disk name reads (Err fault) later)

-- what a statement that is carried out makes of the unit
abbrev pub TurnsTo : Disk → Standing → ReadSoFar → Turn → Standing → ReadSoFar → Type 0
TurnsTo disk unit reads Passed next later = Passes disk unit reads next later
TurnsTo disk unit reads (turns.Hands statement) next later = Answers disk unit reads (Ok (Some statement)) (going next) later
TurnsTo disk unit reads Over next later = Answers disk unit reads (Ok None) (going next) later

abbrev pub IsStopped : Disk → Standing → ReadSoFar → LexFault → ReadSoFar → Type 0
IsStopped disk unit reads fault later = ByMemory fault (RunsOut disk unit reads later) (Answers disk unit reads (Err fault) (failed fault) later)

abbrev pub IsTurnNumbered : ℕ → Result Turn Failure → Type 0
IsTurnNumbered count (Ok Passed) = Unit {0}
IsTurnNumbered count (Ok (turns.Hands statement)) = AreNumbered count statement.tokens
IsTurnNumbered count (Ok Over) = Unit {0}
IsTurnNumbered count (Err failure) = IsNumbered count failure.fault

abbrev pub IsFoundNumbered : ℕ → Result (Option Statement) Failure → Type 0
IsFoundNumbered count (Ok None) = Unit {0}
IsFoundNumbered count (Ok (Some statement)) = AreNumbered count statement.tokens
IsFoundNumbered count (Err failure) = IsNumbered count failure.fault

abbrev pub IsLighterTurn : Turn → ℕ → ℕ → Type 0
IsLighterTurn Passed new old = new < old
IsLighterTurn (turns.Hands statement) new old = new < old
IsLighterTurn Over new old = Unit {0}

-- a statement makes what is left less
abbrev pub IsLighter : Deed → ℕ → ℕ → Type 0
IsLighter Nothing new old = new < old
IsLighter (Hands statement) new old = new < old
IsLighter (Includes name) new old = new < old
IsLighter Ends new old = Unit {0}
IsLighter (Fails fault) new old = Unit {0}

abbrev pub IsDeedNumbered : ℕ → Deed → Type 0
IsDeedNumbered count Nothing = Unit {0}
IsDeedNumbered count (Hands statement) = AreNumbered count statement.tokens
IsDeedNumbered count (Includes name) = Unit {0}
IsDeedNumbered count Ends = Unit {0}
IsDeedNumbered count (Fails fault) = fault.place.file < count

-- what a statement does stands in the files of the cells that it is made of, and so do the cells behind it
pub record DeedStaysIn (count : ℕ) (deed : Deed) (after : List Cell) : Type 0 where
  pub deed_in : IsDeedNumbered count deed
  pub after_in : are_in count after ≡ true

abbrev pub weight_below : List (List Cell) → ℕ
weight_below [] = 0
weight_below (cells ∷ below) = 2 * weight cells + 1 + weight_below below

-- How much a unit has left to do: the cells of its open files, and the bytes that may still be read, each as heavy as a `$`.
-- An include makes this less too: the statement goes from its file, and the new file is no heavier than the bytes that it takes.
abbrev pub unit_weight : Standing → ReadSoFar → ℕ
unit_weight unit reads = 2 * weight unit.top + weight_below unit.below + 2 ^ 65 * reads.left

abbrev pub stage_weight : Stage → ReadSoFar → ℕ
stage_weight (going unit) reads = unit_weight unit reads
stage_weight (failed fault) reads = 0

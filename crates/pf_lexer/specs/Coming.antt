-- That something comes of each file, each statement and each unit, and in which files it stands.
use Rattle.std.specs.Prelude.{◌≡◌, ℕ, ◌≤◌, true, List, Option, Some, Result, Ok, Err, IfOk, length}
use Rattle.pf_source.specs.Disk.{AreAbsent, Disk}
use Rattle.pf_token.specs.declared.cell.Cell.{Cell}
use Rattle.pf_token.specs.declared.token.Lexeme.{Lexeme}
use Rattle.pf_token.specs.Cells.{are_in}
use Rattle.pf_token.specs.Macros.{Table}
use Rattle.pf_lexer.specs.declared.deed.Statement.{Statement}
use Rattle.pf_lexer.specs.declared.fault.LexFault.{LexFault}
use Rattle.pf_lexer.specs.declared.fault.LexFault.TheVariants as faults
use Rattle.pf_lexer.specs.declared.statement.Close.{Close}
use Rattle.pf_lexer.specs.Calls.{AnswersNumbered, IsGoing, IsKnown, IsNumbered, IsTrueTo, unread_in}
use Rattle.pf_lexer.specs.ReadSoFar.{ReadSoFar}
use Rattle.pf_lexer.specs.Stages.{Standing, Stage, going}
use Rattle.pf_lexer.specs.Statements.{IsStatement}
use Rattle.pf_lexer.specs.Units.{Answer, Leads, UnitOf}

-- Cells have a statement at their front.
pub record HasStatement (values : List ℕ → Option (List ℕ)) (cells : List Cell) : Type 0 where
  pub lexemes : List Lexeme
  pub close : Close
  pub after : List Cell
  pub is : IsStatement values cells lexemes close after

-- Something comes next of a unit over a disk, where a file that can't be read isn't there.
pub record HasLead (disk : Disk) (unit : Standing) (reads : ReadSoFar) : Type 0 where
  pub answer : Answer
  pub next : Stage
  pub later : ReadSoFar
  pub leads : Leads disk (going unit) reads answer next later
  pub is_true : AreAbsent disk (unread_in answer)

-- A unit has its statements, to its end or its first fault.
pub record HasStatements (disk : Disk) (macros : Table) (name : List ℕ) (reads : ReadSoFar) : Type 0 where
  pub statements : List Statement
  pub fault : Option LexFault
  pub later : ReadSoFar
  pub unit : UnitOf disk macros name reads statements fault later
  pub is_true : IsTrueTo disk fault

-- what is read of a file, or why it isn't, stands in the files whose numbers are below this
abbrev pub IsReadIn : ℕ → Result (List Cell) LexFault → Type 0
IsReadIn count (Ok cells) = are_in count cells ≡ true
IsReadIn count (Err fault) = IsNumbered count fault

-- What comes of reading a file stands in the files that have a number, and it is no want of memory.
pub record OpensWithin (result : Result (List Cell) LexFault) (later : ReadSoFar) : Type 0 where
  pub within : IsReadIn (length later.names) result
  pub enough : result ≡ Err faults.NoMemory → ⊥

-- What comes next of a unit stands in the files that have a number, it is no want of memory, and only a fault ends the unit.
pub record LeadsWithin (answer : Answer) (next : Stage) (later : ReadSoFar) : Type 0 where
  pub numbered : AnswersNumbered (length later.names) answer
  pub known : IsKnown (length later.names) next
  pub enough : answer ≡ Err faults.NoMemory → ⊥
  pub goes : IfOk answer (λ found. IsGoing next)

-- A unit ends, however it is gone through: behind each statement that it hands out it ends too, also where other files were
-- read in between, which only takes from the bytes that may still be read.
pub data Finishes (disk : Disk) : Stage → ReadSoFar → Type 0 where
  behind : {stage : Stage} {reads : ReadSoFar}
      → ((statement : Statement) (next : Stage) (later latest : ReadSoFar) → Leads disk stage reads (Ok (Some statement)) next later → latest.left ≤ later.left → Finishes disk next latest)
      → Finishes disk stage reads

-- The statements of a unit: a file, with each include replaced by that file's statements. pf.conf(5), its introduction
use Rattle.std.specs.Prelude.{◌≡◌, ℕ, List, [], ◌∷◌, length, Option, Some, None, Result, Ok, Err}
use Rattle.pf_base.specs.declared.fault.Place.{Place}
use Rattle.pf_source.specs.Disk.{Disk}
use Rattle.pf_token.specs.declared.cell.Cell.{Cell}
use Rattle.pf_token.specs.declared.token.Cause.{Cause}
use Rattle.pf_token.specs.declared.token.Cause.TheVariants as causes
use Rattle.pf_token.specs.declared.token.Fault.{Fault as FaultOf}
use Rattle.pf_token.specs.Cells.{cells_from}
use Rattle.pf_token.specs.Macros.{Table}
use Rattle.pf_lexer.specs.declared.deed.Deed.TheVariants.{Nothing, Hands, Includes, Ends, Fails}
use Rattle.pf_lexer.specs.declared.deed.Statement.{Statement}
use Rattle.pf_lexer.specs.declared.fault.LexFault.{LexFault}
use Rattle.pf_lexer.specs.declared.fault.LexFault.TheVariants as faults
use Rattle.pf_lexer.specs.Deeds.{Does}
use Rattle.pf_lexer.specs.ReadSoFar.{ReadSoFar}
use Rattle.pf_lexer.specs.Reads.{given, has_numbered, has_read, look_up, too_large}
use Rattle.pf_lexer.specs.Stages.{Standing, Stage, going, failed}

-- a statement, or None at the end of the unit, or a fault
abbrev pub Answer : Type 0
Answer = Result (Option Statement) LexFault

-- the fault of a statement, as it is answered
abbrev pub lexical : Cause → Place → LexFault
lexical causes.BadByte place = faults.BadByte place
lexical causes.Unterminated place = faults.Unterminated place
lexical (causes.MacroUndefined name) place = faults.MacroUndefined place name
lexical causes.MacroName place = faults.MacroName place
lexical causes.IncludeDepth place = faults.IncludeDepth place
lexical causes.TooLarge place = faults.TooLarge place
lexical causes.Syntax place = faults.Syntax place

abbrev pub answered : FaultOf → LexFault
answered fault = lexical fault.cause fault.place

-- What comes of reading a file: its cells, with its number, or a fault.
pub data Opens (disk : Disk) (name : List ℕ) : ReadSoFar → Result (List Cell) LexFault → ReadSoFar → Type 0 where
  opened : {reads : ReadSoFar} {number : ℕ} {bytes : List ℕ}
      → look_up disk reads name ≡ given number bytes
      → Opens disk name reads (Ok (cells_from (record { file = number; line = 1 }) bytes)) (has_read reads name bytes)
  -- a file that is too large has its number, and is faulty as a whole
  large : {reads : ReadSoFar} {number : ℕ}
      → look_up disk reads name ≡ too_large number
      → Opens disk name reads (Err (faults.TooLarge (record { file = number; line = 0 }))) (has_numbered reads name)
  -- a read may always fail
  unread : {reads : ReadSoFar} → Opens disk name reads (Err (faults.CannotRead name)) reads

-- A statement that hands nothing out: where the unit stood before it and stands behind it.
pub data Passes (disk : Disk) : Standing → ReadSoFar → Standing → ReadSoFar → Type 0 where
  passed : {unit : Standing} {changed : Table} {after : List Cell} {reads : ReadSoFar}
      → Does (length unit.below) unit.macros unit.top Nothing changed after
      → Passes disk unit reads (record { macros = changed; top = after; below = unit.below }) reads
  -- an include is replaced by that file's statements
  included : {unit : Standing} {changed : Table} {after cells : List Cell} {name : List ℕ} {reads later : ReadSoFar}
      → Does (length unit.below) unit.macros unit.top (Includes name) changed after
      → Opens disk name reads (Ok cells) later
      → Passes disk unit reads (record { macros = changed; top = cells; below = after ∷ unit.below }) later
  -- where a file ends, the file that included it goes on
  file_ends : {unit : Standing} {changed : Table} {after next : List Cell} {below : List (List Cell)} {reads : ReadSoFar}
      → Does (length unit.below) unit.macros unit.top Ends changed after
      → unit.below ≡ next ∷ below
      → Passes disk unit reads (record { macros = changed; top = next; below = below }) reads

-- any number of such statements
pub data GoesTo (disk : Disk) : Standing → ReadSoFar → Standing → ReadSoFar → Type 0 where
  here : {unit : Standing} {reads : ReadSoFar} → GoesTo disk unit reads unit reads
  further : {unit next last : Standing} {reads later latest : ReadSoFar}
      → Passes disk unit reads next later
      → GoesTo disk next later last latest
      → GoesTo disk unit reads last latest

-- A statement that is handed out, the end, or a fault, and where the lexer stands behind it.
pub data Answers (disk : Disk) : Standing → ReadSoFar → Answer → Stage → ReadSoFar → Type 0 where
  hands : {unit : Standing} {changed : Table} {after : List Cell} {reads : ReadSoFar} {statement : Statement}
      → Does (length unit.below) unit.macros unit.top (Hands statement) changed after
      → Answers disk unit reads (Ok (Some statement)) (going (record { macros = changed; top = after; below = unit.below })) reads
  -- the end of the first file is the end of the unit
  over : {unit : Standing} {changed : Table} {after : List Cell} {reads : ReadSoFar}
      → Does (length unit.below) unit.macros unit.top Ends changed after
      → unit.below ≡ []
      → Answers disk unit reads (Ok None) (going (record { macros = changed; top = after; below = unit.below })) reads
  fails : {unit : Standing} {changed : Table} {after : List Cell} {reads : ReadSoFar} {fault : FaultOf}
      → Does (length unit.below) unit.macros unit.top (Fails fault) changed after
      → Answers disk unit reads (Err (answered fault)) (failed (answered fault)) reads
  -- the file of an include isn't read
  unopened : {unit : Standing} {changed : Table} {after : List Cell} {name : List ℕ} {reads later : ReadSoFar} {fault : LexFault}
      → Does (length unit.below) unit.macros unit.top (Includes name) changed after
      → Opens disk name reads (Err fault) later
      → Answers disk unit reads (Err fault) (failed fault) later

-- What comes next of a unit over a disk: the answer, and where the lexer and the reads stand behind it.
pub data Leads (disk : Disk) : Stage → ReadSoFar → Answer → Stage → ReadSoFar → Type 0 where
  comes : {unit next : Standing} {stage : Stage} {reads later latest : ReadSoFar} {answer : Answer}
      → GoesTo disk unit reads next later
      → Answers disk next later answer stage latest
      → Leads disk (going unit) reads answer stage latest
  -- after a fault the same fault comes again, and nothing changes
  again : {fault : LexFault} {reads : ReadSoFar} → Leads disk (failed fault) reads (Err fault) (failed fault) reads

-- where a unit with these macros begins, in its first file
abbrev pub start_in : Table → List Cell → Stage
start_in macros cells = going (record { macros = macros; top = cells; below = [] })

-- The first file of a unit with these macros was read.
pub record Begins (disk : Disk) (macros : Table) (name : List ℕ) (reads : ReadSoFar) (stage : Stage) (later : ReadSoFar) : Type 0 where
  pub cells : List Cell
  pub opens : Opens disk name reads (Ok cells) later
  pub starts : stage ≡ start_in macros cells

-- All statements that a unit hands out from here on, up to its end or its first fault, and what was read then.
pub data Handed (disk : Disk) : Stage → ReadSoFar → List Statement → Option LexFault → ReadSoFar → Type 0 where
  ended : {stage next : Stage} {reads later : ReadSoFar}
      → Leads disk stage reads (Ok None) next later
      → Handed disk stage reads [] None later
  stopped : {stage next : Stage} {reads later : ReadSoFar} {fault : LexFault}
      → Leads disk stage reads (Err fault) next later
      → Handed disk stage reads [] (Some fault) later
  next : {stage next : Stage} {reads later latest : ReadSoFar} {statement : Statement} {statements : List Statement} {fault : Option LexFault}
      → Leads disk stage reads (Ok (Some statement)) next later
      → Handed disk next later statements fault latest
      → Handed disk stage reads (statement ∷ statements) fault latest

-- All statements of a unit with these macros, whose first file has this name.
pub data UnitOf (disk : Disk) (macros : Table) (name : List ℕ) : ReadSoFar → List Statement → Option LexFault → ReadSoFar → Type 0 where
  begun : {reads later latest : ReadSoFar} {stage : Stage} {statements : List Statement} {fault : Option LexFault}
      → Begins disk macros name reads stage later
      → Handed disk stage later statements fault latest
      → UnitOf disk macros name reads statements fault latest
  unopened : {reads later : ReadSoFar} {fault : LexFault}
      → Opens disk name reads (Err fault) later
      → UnitOf disk macros name reads [] (Some fault) later

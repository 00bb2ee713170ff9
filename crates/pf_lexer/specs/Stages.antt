-- Where a unit stands.
use Rattle.std.specs.Prelude.{ℕ, List, Option, Some, None}
use Rattle.pf_token.specs.declared.cell.Cell.{Cell}
use Rattle.pf_token.specs.Macros.{Table}
use Rattle.pf_lexer.specs.declared.fault.LexFault.{LexFault}

-- A unit that is being read: its macros, what is left of the innermost open file, and what is left of each file that
-- waits for the end of an include, the innermost first.
pub record Standing : Type 0 where
  pub macros : Table
  pub top : List Cell
  pub below : List (List Cell)

-- it goes on, or ended with a fault
pub data Stage : Type 0 where
  going : Standing → Stage
  failed : LexFault → Stage

abbrev pub stage_of : Standing → Option LexFault → Stage
stage_of unit None = going unit
stage_of unit (Some fault) = failed fault

-- A lexer: where its unit stands, and how many files had a number when it was last called.
pub record LexerState : Type 0 where
  pub stage : Stage
  pub known : ℕ

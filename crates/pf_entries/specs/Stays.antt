-- What a declaration leaves of what a load may read (pf.conf(5), TABLES, file).
use Rattle.std.specs.Prelude.{◌≡◌, ℕ, ◌≤◌, length, Result, Err}
use Rattle.pf_lexer.specs.ReadSoFar.{ReadSoFar}
use Rattle.pf_lexer.specs.Reads.{GoesOn}
use Rattle.pf_shelf.specs.declared.decl.TableDecl.{TableDecl}
use Rattle.pf_fault.specs.Stops.{StopWithin}
use Rattle.pf_fault.specs.declared.fault.Stop.{Stop}
use Rattle.pf_fault.specs.declared.fault.Stop.TheVariants.{NoMemory}

-- the files that have a number go on, no more may be read than before, a fault stands in a file that has a number, and memory isn't short
pub record TableStays (reads : ReadSoFar) (answer : Result TableDecl Stop) (later : ReadSoFar) : Type 0 where
  pub grows : GoesOn reads.names later.names
  pub left : later.left ≤ reads.left
  pub within : StopWithin (length later.names) answer
  pub enough : answer ≡ Err NoMemory → ⊥

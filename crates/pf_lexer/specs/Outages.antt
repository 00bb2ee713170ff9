-- What a failed read of a file stands for: the disk without that file.
use Rattle.std.specs.Prelude.{◌≡◌, ℕ, List, Some, Result, Err, ◌⊎◌}
use Rattle.pf_source.specs.Disk.{Disk, without}
use Rattle.pf_token.specs.declared.cell.Cell.{Cell}
use Rattle.pf_lexer.specs.declared.fault.LexFault.{LexFault}
use Rattle.pf_lexer.specs.declared.fault.LexFault.TheVariants as faults
use Rattle.pf_lexer.specs.ReadSoFar.{ReadSoFar}
use Rattle.pf_lexer.specs.Stages.{Stage, failed}
use Rattle.pf_lexer.specs.Units.{Answer, Leads, Opens}

-- the reading is the same, or it is that file's
abbrev pub OpensWithout : Disk → List ℕ → List ℕ → ReadSoFar → Result (List Cell) LexFault → ReadSoFar → Type 0
OpensWithout disk gone name reads answer later = Opens (without (Some gone) disk) name reads answer later ⊎ ((name ≡ gone) × Opens (without (Some gone) disk) name reads (Err (faults.CannotRead name)) reads)

-- That file can't be read, and what was read before it.
pub record StopsAt (disk : Disk) (gone : List ℕ) (stage : Stage) (reads : ReadSoFar) : Type 0 where
  pub at : ReadSoFar
  pub leads : Leads (without (Some gone) disk) stage reads (Err (faults.CannotRead gone)) (failed (faults.CannotRead gone)) at

-- the same comes next, or that file can't be read
abbrev pub LeadsWithout : Disk → List ℕ → Stage → ReadSoFar → Answer → Stage → ReadSoFar → Type 0
LeadsWithout disk gone stage reads answer next later = Leads (without (Some gone) disk) stage reads answer next later ⊎ StopsAt disk gone stage reads

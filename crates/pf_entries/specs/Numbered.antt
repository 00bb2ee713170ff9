-- The numbers and the lengths of the files of a table.
use Rattle.std.specs.Prelude.{ℕ, ◌<◌, ◌≤◌, All, List, length, Result, Ok, Err}
use Rattle.pf_fault.specs.Stops.{IsStopWithin}
use Rattle.pf_fault.specs.declared.fault.Stop.{Stop}
use Rattle.pf_lexer.specs.declared.reads.ReadFile.{ReadFile}

-- the files have numbers below this, and no more bytes than one may have
pub record AreFilesWithin (count : ℕ) (files : List ReadFile) : Type 0 where
  pub numbered : All (λ (file : ReadFile). file.number < count) files
  pub short : All (λ (file : ReadFile). length file.text ≤ 4194304) files

abbrev pub FilesWithin : ℕ → Result (List ReadFile) Stop → Type 0
FilesWithin count (Ok files) = AreFilesWithin count files
FilesWithin count (Err stop) = IsStopWithin count stop

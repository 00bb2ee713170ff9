-- What a failed read of a table's file stands for: the disk without that file.
use Rattle.std.specs.Prelude.{◌≡◌, ◌⊎◌, ℕ, List, Some, Result, Err}
use Rattle.pf_base.specs.declared.fault.Place.{Place}
use Rattle.pf_decl.specs.declared.form.TableForm.{TableForm}
use Rattle.pf_host.specs.Facts.{HostFacts}
use Rattle.pf_lexer.specs.ReadSoFar.{ReadSoFar}
use Rattle.pf_shelf.specs.declared.decl.TableDecl.{TableDecl}
use Rattle.pf_source.specs.Disk.{Disk, without}
use Rattle.pf_entries.specs.Tables.{TableComes}
use Rattle.pf_fault.specs.declared.fault.Stop.{Stop}
use Rattle.pf_fault.specs.declared.fault.Stop.TheVariants.{Unread}

-- A declaration is stopped at that file, whatever was read before it.
pub record TableStops (disk : Disk) (gone : List ℕ) (facts : HostFacts) (tables : List TableDecl) (form : TableForm) (place : Place) (reads : ReadSoFar) : Type 0 where
  pub at : ReadSoFar
  pub comes : TableComes (without (Some gone) disk) facts tables form place reads (Err (Unread gone)) at

-- the same comes of a declaration, or that file can't be read
abbrev pub TableWithout : Disk → List ℕ → HostFacts → List TableDecl → TableForm → Place → ReadSoFar → Result TableDecl Stop → ReadSoFar → Type 0
TableWithout disk gone facts tables form place reads answer later =
    TableComes (without (Some gone) disk) facts tables form place reads answer later ⊎ TableStops disk gone facts tables form place reads

use Rattle.std.proofs.Common.{[], length, drop}
use Rattle.pf_source.specs.Told.{Told, file_of}
use Rattle.pf_lexer.specs.Calls.{AsksAndReads}
use Rattle.pf_entries.specs.Numbered.{AreFilesWithin}
use Rattle.pf_entries.proofs.TableContents.{ReadSo}
use Rattle.pf_entries.proofs.table_files.read_files.Given as goal

-- the files so far were read, and no read failed
abbrev pub invariant-loop-name : goal.invariant-loop-name
invariant-loop-name g l = record {
  asks : AsksAndReads [] (g.F.Files.tells l.fn.files) (g.F.Files.tells l.files) l.fn.reads l.reads;
  within : AreFilesWithin (length l.reads.names) l.read;
  so : Told (g.F.Files.tells l.fn.files).held (λ held. ReadSo (file_of held) l.names l.fn.reads l.read (drop l.name-index l.names) l.reads);
}

use Rattle.std.proofs.Common.{take}
use Rattle.std.specs.List.{flat_map}
use Rattle.pf_host.specs.Facts.{HostFacts}
use Rattle.pf_entries.specs.Tables.{Gathers, file_in}
use Rattle.pf_entries.proofs.table.add_files.Given as goal

abbrev pub invariant-loop-file : goal.invariant-loop-file
invariant-loop-file l = (facts : HostFacts) → Gathers facts (flat_map file_in (take l.file-index l.files)) l.initial.gathered l.gathered

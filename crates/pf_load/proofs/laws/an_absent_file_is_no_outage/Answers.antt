use Rattle.std.proofs.Common.{subst}
use Rattle.pf_source.specs.Disk.{Disk}
use Rattle.pf_source.specs.DiskLaws.{same_disk}
use Rattle.pf_load.specs.Load.{Loads}
use Rattle.pf_load.proofs.laws.an_absent_file_is_no_outage.Goals as goal

pub returns : goal.returns
returns c = λ disk facts options file name outcome gone loads. subst (λ (d : Disk). Loads d facts options file outcome) (same_disk disk name gone) loads

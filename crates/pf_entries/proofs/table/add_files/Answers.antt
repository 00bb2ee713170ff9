use Rattle.std.proofs.Common.{List, take, ap, subst}
use Rattle.std.specs.List.{flat_map}
use Rattle.std.proofs.lemmas.List.{take_all}
use Rattle.pf_lexer.specs.declared.reads.ReadFile.{ReadFile}
use Rattle.pf_entries.specs.Tables.{Gathers, file_in}
use Rattle.pf_entries.proofs.Gathering.{files_step}
use Rattle.pf_entries.proofs.table.add_files.Goals as goal

pub loop-file-preserved : goal.loop-file-preserved
loop-file-preserved c = λ facts.
    files_step facts c.args.files.now c.loop-file.file-index c.file-item.result c.args.gathered.now c.loop-file.gathered c.add_file.new.gathered c.loop-file-test.true c.file-item.is
    (c.loop-file.invariant facts) (c.in_ok-add_file.ensures facts)

pub returns : goal.returns
returns c = λ facts.
    subst (λ (files : List ReadFile). Gathers facts (flat_map file_in files) c.args.gathered.now c.loop-file.gathered) (take_all c.loop-file.file-index c.args.files.now c.loop-file-test.false) (c.loop-file.invariant facts)

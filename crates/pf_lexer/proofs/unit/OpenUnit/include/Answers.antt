-- The file is read, or it isn't, or memory is short before or after.
use Rattle.std.proofs.lemmas.Result.{err_from_is_err_and}
use Rattle.pf_source.specs.Told.{file_of}
use Rattle.pf_lexer.proofs.GoingLemmas.{asks_nothing}
use Rattle.pf_lexer.proofs.StopLemmas.{cut_before, cut_behind, cut_unopened}
use Rattle.pf_lexer.proofs.unit.OpenUnit.include.Goals as goal

pub returns-in_err-copy-clause-err : goal.returns-in_err-copy-clause-err
returns-in_err-copy-clause-err g c =
    let p = err_from_is_err_and c.from_residual.result c.from_residual.ensures.1 in
    rw p.1 (record { at = λ held told. cut_before (file_of held) c.args.name c.args.reads.now p.0.fault p.2 })

pub returns-in_err-copy-clause-asks : goal.returns-in_err-copy-clause-asks
returns-in_err-copy-clause-asks g c =
    let p = err_from_is_err_and c.from_residual.result c.from_residual.ensures.1 in
    rw p.1 (rw p.2 (asks_nothing (g.F.Files.tells c.args.files.now) c.args.reads.now))

pub returns-in_err-enter-in-Ok-clause-err : goal.returns-in_err-enter-in-Ok-clause-err
returns-in_err-enter-in-Ok-clause-err g c =
    let p = err_from_is_err_and c.from_residual-in_err-enter-in-Ok.result c.from_residual-in_err-enter-in-Ok.ensures.1 in
    rw p.1 (record { at = λ held told. cut_behind (file_of held) c.args.name c.args.reads.now p.0.fault c.open_file.new.reads c.in-Ok.file (c.in-Ok.ensures.ok.at held told) p.2 })

pub returns-in-Err-clause-err : goal.returns-in-Err-clause-err
returns-in-Err-clause-err g c = record {
  at = λ held told. cut_unopened (file_of held) c.args.name c.args.reads.now c.in-Err.fault c.open_file.new.reads (c.in-Err.ensures.err.at held told);
}

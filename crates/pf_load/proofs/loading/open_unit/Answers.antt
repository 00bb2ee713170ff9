use Rattle.pf_source.specs.Told.{file_of}
use Rattle.pf_token.specs.Macros.{values_of}
use Rattle.pf_load.proofs.Beginning.{unit_begun, unit_unopened}
use Rattle.pf_load.proofs.loading.open_unit.Goals as goal

pub returns-in-Ok-clause-means : goal.returns-in-Ok-clause-means
returns-in-Ok-clause-means g c =
    let begins = rw (c.in_ok-macros.ensures, c.items.ensures) at c.in-Ok.ensures.ok in
    record { at = λ held is. unit_begun (file_of held) (values_of c.args.options.now.defines) c.args.file.now c.args.reads.now c.begin.new.reads c.in-Ok.lexer (begins.at held is) }

pub returns-in-Err-clause-means : goal.returns-in-Err-clause-means
returns-in-Err-clause-means g c = record {
  at = λ held is draft_at. rw c.stopped_by.ensures.stop
      (unit_unopened (file_of held) (values_of c.args.options.now.defines) c.args.file.now c.args.reads.now c.begin.new.reads c.in-Err.fault (c.in-Err.ensures.err.at held is) c.in-Err.ensures.asked draft_at);
}

-- Statement after statement.
use Rattle.std.proofs.Common.{[], Some, None, Ok, arith}
use Rattle.std.proofs.lemmas.Result.{err_from_is_err_and}
use Rattle.pf_source.specs.Told.{file_of}
use Rattle.pf_lexer.specs.Calls.{unread_by}
use Rattle.pf_lexer.specs.Stages.{going}
use Rattle.pf_lexer.specs.Units.{here}
use Rattle.pf_lexer.proofs.GoingLemmas.{asks_nothing, told_later, asks_both, goes_further, goes_leads, goes_stops}
use Rattle.pf_lexer.proofs.unit.OpenUnit.advance.Goals as goal

pub loop-statement-init : goal.loop-statement-init
loop-statement-init g c = record {
  goes = record { at = λ held told. here };
  asks = asks_nothing (g.F.Files.tells c.args.files.now) c.args.reads.now;
  within = λ within. within;
  lighter = omega arith;
}

pub returns-in_err-step-clause-err : goal.returns-in_err-step-clause-err
returns-in_err-step-clause-err g c =
    let p = err_from_is_err_and c.from_residual.result c.from_residual.ensures.1 in
    rw (p.1, p.2)
    (record {
      at = λ held told.
          goes_stops (file_of held) c.args.self.now c.loop-statement.self c.args.reads.now c.loop-statement.reads (c.loop-statement.invariant.goes.at held told) c.in_err-step.field-0.0.fault c.step.new.reads
          (c.in_err-step.ensures.err.at held (told_later (unread_by c.in_err-step.field-0.0.fault) (g.F.Files.tells c.args.files.now) (g.F.Files.tells c.loop-statement.files) (g.F.Files.tells c.step.new.files) c.args.reads.now c.loop-statement.reads c.step.new.reads c.loop-statement.invariant.asks c.in_err-step.ensures.asks held told));
    })

pub returns-in_err-step-clause-asks : goal.returns-in_err-step-clause-asks
returns-in_err-step-clause-asks g c =
    let p = err_from_is_err_and c.from_residual.result c.from_residual.ensures.1 in
    rw (p.1, p.2) (asks_both (unread_by c.in_err-step.field-0.0.fault) (g.F.Files.tells c.args.files.now) (g.F.Files.tells c.loop-statement.files) (g.F.Files.tells c.step.new.files) c.args.reads.now c.loop-statement.reads c.step.new.reads c.loop-statement.invariant.asks c.in_err-step.ensures.asks)

pub loop-statement-preserved : goal.loop-statement-preserved
loop-statement-preserved g c =
    let turns = rw c.in-Passed.is at c.in_ok-step.ensures.ok in
    let lighter = rw c.in-Passed.is at c.in_ok-step.ensures.lighter in
    record {
      goes = record {
        at = λ held told.
            goes_further (file_of held) c.args.self.now c.loop-statement.self c.args.reads.now c.loop-statement.reads (c.loop-statement.invariant.goes.at held told) c.step.new.self c.step.new.reads
            (turns.at held (told_later [] (g.F.Files.tells c.args.files.now) (g.F.Files.tells c.loop-statement.files) (g.F.Files.tells c.step.new.files) c.args.reads.now c.loop-statement.reads c.step.new.reads c.loop-statement.invariant.asks c.in_ok-step.ensures.asks held told));
      };
      asks = asks_both [] (g.F.Files.tells c.args.files.now) (g.F.Files.tells c.loop-statement.files) (g.F.Files.tells c.step.new.files) c.args.reads.now c.loop-statement.reads c.step.new.reads c.loop-statement.invariant.asks c.in_ok-step.ensures.asks;
      within = λ within. c.in_ok-step.ensures.within (c.loop-statement.invariant.within within);
      lighter = omega (arith, lighter, c.loop-statement.invariant.lighter);
    }

pub returns-in-Hands-clause-ok : goal.returns-in-Hands-clause-ok
returns-in-Hands-clause-ok g c =
    let turns = rw c.in-Hands.is at c.in_ok-step.ensures.ok in
    record {
      at = λ held told.
          goes_leads (file_of held) c.args.self.now c.loop-statement.self c.args.reads.now c.loop-statement.reads (c.loop-statement.invariant.goes.at held told) (Ok (Some c.in-Hands.statement)) (going c.step.new.self) c.step.new.reads
          (turns.at held (told_later [] (g.F.Files.tells c.args.files.now) (g.F.Files.tells c.loop-statement.files) (g.F.Files.tells c.step.new.files) c.args.reads.now c.loop-statement.reads c.step.new.reads c.loop-statement.invariant.asks c.in_ok-step.ensures.asks held told));
    }

pub returns-in-Over-clause-ok : goal.returns-in-Over-clause-ok
returns-in-Over-clause-ok g c =
    let turns = rw c.in-Over.is at c.in_ok-step.ensures.ok in
    record {
      at = λ held told.
          goes_leads (file_of held) c.args.self.now c.loop-statement.self c.args.reads.now c.loop-statement.reads (c.loop-statement.invariant.goes.at held told) (Ok None) (going c.step.new.self) c.step.new.reads
          (turns.at held (told_later [] (g.F.Files.tells c.args.files.now) (g.F.Files.tells c.loop-statement.files) (g.F.Files.tells c.step.new.files) c.args.reads.now c.loop-statement.reads c.step.new.reads c.loop-statement.invariant.asks c.in_ok-step.ensures.asks held told));
    }

pub returns-in-Hands-clause-asks : goal.returns-in-Hands-clause-asks
returns-in-Hands-clause-asks g c =
    asks_both [] (g.F.Files.tells c.args.files.now) (g.F.Files.tells c.loop-statement.files) (g.F.Files.tells c.step.new.files) c.args.reads.now c.loop-statement.reads c.step.new.reads c.loop-statement.invariant.asks c.in_ok-step.ensures.asks

pub returns-in-Over-clause-asks : goal.returns-in-Over-clause-asks
returns-in-Over-clause-asks g c =
    asks_both [] (g.F.Files.tells c.args.files.now) (g.F.Files.tells c.loop-statement.files) (g.F.Files.tells c.step.new.files) c.args.reads.now c.loop-statement.reads c.step.new.reads c.loop-statement.invariant.asks c.in_ok-step.ensures.asks

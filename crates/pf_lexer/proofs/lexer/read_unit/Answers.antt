-- The first file is read and its statements follow, or it isn't.
use Rattle.std.proofs.Common.{◌≡◌, [], Some, Err, sym, ◌∙◌, subst}
use Rattle.pf_source.specs.Told.{file_of}
use Rattle.pf_lexer.specs.declared.fault.LexFault.{LexFault}
use Rattle.pf_lexer.specs.Calls.{AsksAndReads, unread_by}
use Rattle.pf_lexer.specs.Units.{Opens, UnitOf}
use Rattle.pf_lexer.proofs.GoingLemmas.{asks_both}
use Rattle.pf_lexer.proofs.OneUnit.{unit_one}
use Rattle.pf_lexer.proofs.StopLemmas.{by_other}
use Rattle.pf_lexer.proofs.lexer.read_unit.Goals as goal

pub returns-in_ok-found-in-Ok-clause-found : goal.returns-in_ok-found-in-Ok-clause-found
returns-in_ok-found-in-Ok-clause-found g c = record {
  at = λ held told. UnitOf.begun (c.in-Ok.ensures.ok.at held told) (c.in_ok-found-in-Ok.ensures.handed.at held (c.in-Ok.ensures.asks.files.held.held ∙ told));
}

pub returns-in_ok-found-in-Ok-clause-only : goal.returns-in_ok-found-in-Ok-clause-only
returns-in_ok-found-in-Ok-clause-only g c = record {
  at = λ held told. λ others fault later unit true also.
      unit_one (file_of held) c.next_is_one.ensures c.args.macros c.args.name.now ((returns-in_ok-found-in-Ok-clause-found g c).at held told) unit true also;
}

pub returns-in_ok-fault-in-Err-clause-found : goal.returns-in_ok-fault-in-Err-clause-found
returns-in_ok-fault-in-Err-clause-found g c =
    let same : c.in_ok-fault-in-Err.fault ≡ c.in-Err.fault = c.in_ok-fault-in-Err.ensures.same in
    record {
      at = λ held told.
          let opens = by_other c.in-Err.fault (c.begin.new.reads ≡ c.args.reads.now) (Opens (file_of held) c.args.name.now c.args.reads.now (Err c.in-Err.fault) c.begin.new.reads)
          (λ e. c.in_ok-fault-in-Err.ensures.other (same ∙ e)) (c.in-Err.ensures.err.at held told) in
          rw c.new.ensures.items
          (subst (λ (f : LexFault). UnitOf (file_of held) c.args.macros c.args.name.now c.args.reads.now [] (Some f) c.begin.new.reads) (sym same) (UnitOf.unopened opens));
    }

pub returns-in_ok-fault-in-Err-clause-only : goal.returns-in_ok-fault-in-Err-clause-only
returns-in_ok-fault-in-Err-clause-only g c = record {
  at = λ held told. λ others fault later unit true also.
      unit_one (file_of held) c.next_is_one.ensures c.args.macros c.args.name.now ((returns-in_ok-fault-in-Err-clause-found g c).at held told) unit true also;
}

pub returns-in_ok-found-in-Ok-clause-asks : goal.returns-in_ok-found-in-Ok-clause-asks
returns-in_ok-found-in-Ok-clause-asks g c = asks_both _ _ _ _ _ _ _ c.in-Ok.ensures.asks c.in_ok-found-in-Ok.ensures.asks

pub returns-in_ok-fault-in-Err-clause-asks : goal.returns-in_ok-fault-in-Err-clause-asks
returns-in_ok-fault-in-Err-clause-asks g c =
    let same : c.in_ok-fault-in-Err.fault ≡ c.in-Err.fault = c.in_ok-fault-in-Err.ensures.same in
    subst (λ (f : LexFault). AsksAndReads (unread_by f) (g.F.Files.tells c.args.files.now) (g.F.Files.tells c.begin.new.files) c.args.reads.now c.begin.new.reads) (sym same) c.in-Err.ensures.asks

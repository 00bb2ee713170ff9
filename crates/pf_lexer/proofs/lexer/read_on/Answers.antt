-- One statement more, the end, or a fault.
use Rattle.std.proofs.Common.{◌≡◌, List, [], ◌∷◌, ◌++◌, Some, None, Err, sym, ap, ◌∙◌, subst, append-nil, append_assoc}
use Rattle.pf_source.specs.Told.{file_of}
use Rattle.pf_lexer.specs.declared.deed.Statement.{Statement}
use Rattle.pf_lexer.specs.declared.fault.LexFault.{LexFault}
use Rattle.pf_lexer.specs.Calls.{AsksAndReads, LacksMemoryIn, unread_by}
use Rattle.pf_lexer.specs.Units.{Handed, Leads}
use Rattle.pf_lexer.proofs.GoingLemmas.{asks_further, asks_last, asks_nothing}
use Rattle.pf_lexer.proofs.StopLemmas.{by_other}
use Rattle.pf_lexer.proofs.lexer.read_on.Goals as goal

pub loop-statement-init : goal.loop-statement-init
loop-statement-init g c = record {
  handed = record { at = λ held told. λ rest fault later more. rw c.new-statements.ensures.items more };
  asks = asks_nothing (g.F.Files.tells c.args.files.now) c.args.reads.now;
  going = c.requires.going;
  known = c.requires.known;
}

pub loop-statement-preserved : goal.loop-statement-preserved
loop-statement-preserved g c =
    let ok = rw c.in-Ok-Some.field-0-is at c.in-Ok-Some.ensures.ok in
    record {
      handed = record {
        at = λ held told. λ rest fault later more.
            subst (λ (s : List Statement). Handed (file_of held) c.args.lexer.stage c.args.reads.now s fault later)
            (sym (append_assoc c.loop-statement.statements.items (c.in-Ok-Some.statement ∷ []) rest) ∙ ap (λ t. t ++ rest) (sym c.in_ok-push-in-Ok-Some.ensures.items))
            (c.loop-statement.invariant.handed.at held told (c.in-Ok-Some.statement ∷ rest) fault later (Handed.next (ok.at held (c.loop-statement.invariant.asks.files.held.held ∙ told)) more));
      };
      asks = asks_further c.loop-statement.lexer.stage c.in-Ok-Some.field-0 _ _ _ _ _ _ c.loop-statement.invariant.asks c.in-Ok-Some.ensures.asks;
      going = c.in-Ok-Some.ensures.goes;
      known = c.in-Ok-Some.ensures.known;
    }

pub returns-in-Ok-None-clause-handed : goal.returns-in-Ok-None-clause-handed
returns-in-Ok-None-clause-handed g c =
    let ok = rw c.in-Ok-None.field-0-is at c.in-Ok-None.ensures.ok in
    record {
      at = λ held told.
          subst (λ (s : List Statement). Handed (file_of held) c.args.lexer.stage c.args.reads.now s None c.next_statement.new.reads) (append-nil c.loop-statement.statements.items)
          (c.loop-statement.invariant.handed.at held told [] None c.next_statement.new.reads (Handed.ended (ok.at held (c.loop-statement.invariant.asks.files.held.held ∙ told))));
    }

pub returns-in-Ok-None-clause-asks : goal.returns-in-Ok-None-clause-asks
returns-in-Ok-None-clause-asks g c = asks_further c.loop-statement.lexer.stage c.in-Ok-None.field-0 _ _ _ _ _ _ c.loop-statement.invariant.asks c.in-Ok-None.ensures.asks

pub returns-in-Err-clause-handed : goal.returns-in-Err-clause-handed
returns-in-Err-clause-handed g c =
    let fault = c.in_ok-fault-in-Err.fault in
    let same : fault ≡ c.in-Err.fault = c.in_ok-fault-in-Err.ensures.same in
    record {
      at = λ held told.
          let stops = c.in-Err.ensures.err.at held (c.loop-statement.invariant.asks.files.held.held ∙ told) in
          let leads = by_other c.in-Err.fault (LacksMemoryIn (file_of held) c.loop-statement.lexer.stage c.loop-statement.reads c.next_statement.new.reads)
          (Leads (file_of held) c.loop-statement.lexer.stage c.loop-statement.reads (Err c.in-Err.fault) c.next_statement.new.self.stage c.next_statement.new.reads)
          (λ e. c.in_ok-fault-in-Err.ensures.other (same ∙ e)) stops in
          subst (λ (f : LexFault). Handed (file_of held) c.args.lexer.stage c.args.reads.now c.loop-statement.statements.items (Some f) c.next_statement.new.reads) (sym same)
          (subst (λ (s : List Statement). Handed (file_of held) c.args.lexer.stage c.args.reads.now s (Some c.in-Err.fault) c.next_statement.new.reads) (append-nil c.loop-statement.statements.items)
          (c.loop-statement.invariant.handed.at held told [] (Some c.in-Err.fault) c.next_statement.new.reads (Handed.stopped leads)));
    }

pub returns-in-Err-clause-asks : goal.returns-in-Err-clause-asks
returns-in-Err-clause-asks g c =
    let same : c.in_ok-fault-in-Err.fault ≡ c.in-Err.fault = c.in_ok-fault-in-Err.ensures.same in
    subst (λ (f : LexFault). AsksAndReads (unread_by f) (g.F.Files.tells c.args.files.now) (g.F.Files.tells c.next_statement.new.files) c.args.reads.now c.next_statement.new.reads) (sym same)
    (asks_last c.loop-statement.lexer.stage c.in-Err.fault _ _ _ _ _ _ c.loop-statement.invariant.going c.loop-statement.invariant.asks c.in-Err.ensures.asks)

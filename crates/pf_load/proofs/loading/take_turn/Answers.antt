use Rattle.std.proofs.Common.{Ok, Err, ◌≤◌, arith, length, ◌∙◌}
use Rattle.pf_source.specs.AskingLaws.{asked_on}
use Rattle.pf_source.specs.Told.{file_of}
use Rattle.pf_plan.specs.Numbered.{PlacesWithin}
use Rattle.pf_fault.specs.Stops.{unread_in}
use Rattle.pf_plan.specs.declared.plan.Plan.{Plan}
use Rattle.pf_load.specs.Answers.{IfLess, IfLighter, work_left}
use Rattle.pf_load.specs.declared.loading.Next.{Next}
use Rattle.pf_load.proofs.Deciding.{if_ok}
use Rattle.pf_load.proofs.Following.{at_end, at_fault, at_statement}
use Rattle.pf_load.proofs.Reading.{statement_words}
use Rattle.pf_load.proofs.Standing.{behind_less, behind_ready, behind_unread, behind_within, goes_on_length, lexer_asks, next_less, places_grow, stop_unread}
use Rattle.pf_load.proofs.Fitting.{behind_fit}
use Rattle.pf_load.proofs.loading.take_turn.Goals as goal

pub take_statement-taken-requires-clause-words : goal.take_statement-taken-requires-clause-words
take_statement-taken-requires-clause-words g c = statement_words c.in-Ok-Some.statement.tokens (rw c.in-Ok-Some.field-0-is at c.in-Ok-Some.ensures.words)

pub take_statement-taken-requires-clause-places : goal.take_statement-taken-requires-clause-places
take_statement-taken-requires-clause-places g c = rw c.in-Ok-Some.field-0-is at c.in-Ok-Some.ensures.places

pub end_unit-requires : goal.end_unit-requires
end_unit-requires g c =
    places_grow (length c.args.reads.now.names) (length c.next_statement.new.reads.names) c.args.draft (goes_on_length c.args.reads.now.names c.next_statement.new.reads.names c.in-Ok-None.ensures.asks.grows) c.requires.places

pub returns-in-Ok-Some-clause-means : goal.returns-in-Ok-Some-clause-means
returns-in-Ok-Some-clause-means g c =
    let leads = rw c.in-Ok-Some.field-0-is at c.in-Ok-Some.ensures.ok in
    record {
      at = λ held is. rw c.next_of.ensures
          (at_statement c.lead_without.ensures (file_of held) c.args.facts.now c.args.options.now c.args.lexer.stage c.args.reads.now c.args.draft c.next_statement.new.self c.next_statement.new.reads c.take_statement-taken.new.reads
          c.in-Ok-Some.statement c.take_statement-taken.result (leads.at held is) (c.take_statement-taken.ensures.means.at held (c.in-Ok-Some.ensures.asks.files.held.held ∙ is)));
    }

pub returns-in-Ok-Some-clause-asks : goal.returns-in-Ok-Some-clause-asks
returns-in-Ok-Some-clause-asks g c =
    let first = lexer_asks c.args.lexer.stage (Ok c.in-Ok-Some.field-0) (g.F.Files.tells c.args.files.now) (g.F.Files.tells c.next_statement.new.files) c.requires.goes c.in-Ok-Some.ensures.asks.files in
    rw (c.next_of.ensures, behind_unread c.next_statement.new.self c.take_statement-taken.result)
    (asked_on (unread_in c.take_statement-taken.result) (g.F.Files.tells c.args.files.now) (g.F.Files.tells c.next_statement.new.files) (g.F.Files.tells c.take_statement-taken.new.files) first c.take_statement-taken.ensures.asks)

pub returns-in-Ok-Some-clause-ready : goal.returns-in-Ok-Some-clause-ready
returns-in-Ok-Some-clause-ready g c =
    let grows = goes_on_length c.next_statement.new.reads.names c.take_statement-taken.new.reads.names c.take_statement-taken.ensures.grows in
    let known : c.next_statement.new.self.known ≤ length c.take_statement-taken.new.reads.names = omega (arith, grows, c.next_statement.ensures.known) in
    let places : PlacesWithin (length c.next_statement.new.reads.names) c.args.draft =
    places_grow (length c.args.reads.now.names) (length c.next_statement.new.reads.names) c.args.draft (goes_on_length c.args.reads.now.names c.next_statement.new.reads.names c.in-Ok-Some.ensures.asks.grows) c.requires.places in
    rw c.next_of.ensures (behind_ready c.next_statement.new.self c.take_statement-taken.result c.take_statement-taken.new.reads known c.in-Ok-Some.ensures.goes (c.take_statement-taken.ensures.places places))

pub returns-in-Ok-Some-clause-lighter : goal.returns-in-Ok-Some-clause-lighter
returns-in-Ok-Some-clause-lighter g c = rw c.next_of.ensures
    (behind_less c.args.lexer.stage c.next_statement.new.self c.args.reads.now c.next_statement.new.reads c.take_statement-taken.new.reads c.args.draft c.take_statement-taken.result
    (rw c.in-Ok-Some.field-0-is at c.in-Ok-Some.ensures.lighter) c.take_statement-taken.ensures.left c.take_statement-taken.ensures.awaits)

pub returns-in-Ok-Some-clause-within : goal.returns-in-Ok-Some-clause-within
returns-in-Ok-Some-clause-within g c = rw c.next_of.ensures (behind_within (length c.take_statement-taken.new.reads.names) c.next_statement.new.self c.take_statement-taken.result c.take_statement-taken.ensures.within)

pub returns-in-Ok-None-clause-means : goal.returns-in-Ok-None-clause-means
returns-in-Ok-None-clause-means g c =
    let leads = rw c.in-Ok-None.field-0-is at c.in-Ok-None.ensures.ok in
    record {
      at = λ held is. at_end c.lead_without.ensures (file_of held) c.args.facts.now c.args.options.now c.args.lexer.stage c.args.reads.now c.args.draft c.next_statement.new.self.stage c.next_statement.new.reads c.end_unit.new.reads c.end_unit.result
          (leads.at held is) (c.end_unit.ensures.means.at held (c.in-Ok-None.ensures.asks.files.held.held ∙ is));
    }

pub returns-in-Ok-None-clause-asks : goal.returns-in-Ok-None-clause-asks
returns-in-Ok-None-clause-asks g c =
    let first = lexer_asks c.args.lexer.stage (Ok c.in-Ok-None.field-0) (g.F.Files.tells c.args.files.now) (g.F.Files.tells c.next_statement.new.files) c.requires.goes c.in-Ok-None.ensures.asks.files in
    asked_on (unread_in c.end_unit.result) (g.F.Files.tells c.args.files.now) (g.F.Files.tells c.next_statement.new.files) (g.F.Files.tells c.end_unit.new.files) first c.end_unit.ensures.asks

pub returns-in-Ok-None-clause-lighter : goal.returns-in-Ok-None-clause-lighter
returns-in-Ok-None-clause-lighter g c =
    if_ok (λ next. IfLighter c.args.draft next c.next_statement.new.reads c.end_unit.new.reads) (λ next. IfLess (work_left c.args.lexer.stage c.args.reads.now c.args.draft) next c.end_unit.new.reads)
    (λ next h. next_less c.args.lexer.stage c.args.reads.now c.next_statement.new.reads c.end_unit.new.reads c.args.draft next c.requires.goes c.in-Ok-None.ensures.asks.left h) c.end_unit.result c.end_unit.ensures.lighter

pub returns-in-Err-clause-means : goal.returns-in-Err-clause-means
returns-in-Err-clause-means g c = record {
  at = λ held is. rw c.stopped_by.ensures.stop
      (at_fault c.lead_without.ensures (file_of held) c.args.facts.now c.args.options.now c.args.lexer.stage c.args.reads.now c.args.draft c.next_statement.new.self.stage c.next_statement.new.reads c.in-Err.fault (c.in-Err.ensures.err.at held is));
}

pub returns-in-Err-clause-asks : goal.returns-in-Err-clause-asks
returns-in-Err-clause-asks g c =
    let first = lexer_asks c.args.lexer.stage (Err c.in-Err.fault) (g.F.Files.tells c.args.files.now) (g.F.Files.tells c.next_statement.new.files) c.requires.goes c.in-Err.ensures.asks.files in
    rw (stop_unread Next Plan c.stopped_by.result, c.stopped_by.ensures.reads) first

pub returns-in-Ok-Some-clause-fit : goal.returns-in-Ok-Some-clause-fit
returns-in-Ok-Some-clause-fit g c = λ fit. rw c.next_of.ensures (behind_fit c.args.draft c.next_statement.new.self c.take_statement-taken.result c.take_statement-taken.ensures.fit fit)

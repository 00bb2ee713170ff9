use Rattle.std.proofs.Common.{[], Ok, Err, ◌∙◌}
use Rattle.pf_source.specs.AskingLaws.{asked_on, nothing_asked}
use Rattle.pf_source.specs.Told.{file_of}
use Rattle.pf_fault.specs.Stops.{unread_in}
use Rattle.pf_plan.specs.declared.plan.Plan.{Plan}
use Rattle.pf_load.specs.Load.{further}
use Rattle.pf_load.proofs.Following.{finishes, goes_further, nothing_so_far, stops_with}
use Rattle.pf_load.proofs.Standing.{stop_unread}
use Rattle.pf_load.specs.declared.loading.Next.{Next}
use Rattle.pf_load.proofs.loading.read_on.Goals as goal

pub turns-init : goal.turns-init
turns-init g c = record {
  asks = nothing_asked (g.F.Files.tells c.args.files.now);
  ready = c.requires.ready;
  fit = c.requires.fit;
  so_far = record { at = λ held is. nothing_so_far (file_of held) c.args.facts.now c.args.options.now (further c.args.lexer.stage c.args.reads.now c.args.draft) };
}

pub take_turn-requires : goal.take_turn-requires
take_turn-requires g c = c.turns.invariant.ready

pub turns-preserved : goal.turns-preserved
turns-preserved g c = record {
  asks = asked_on [] (g.F.Files.tells c.args.files.now) (g.F.Files.tells c.turns.files) (g.F.Files.tells c.take_turn.new.files) c.turns.invariant.asks c.in-Ok-Reading.ensures.asks;
  ready = rw c.in-Ok-Reading.field-0-is at c.in-Ok-Reading.ensures.ready;
  fit = rw c.in-Ok-Reading.field-0-is at (c.in-Ok-Reading.ensures.fit c.turns.invariant.fit);
  so_far = record {
    at = λ held is.
        goes_further c.lead_without.ensures c.opening_without.ensures c.declarations_without_a_file.ensures (file_of held) c.args.facts.now c.args.options.now (further c.args.lexer.stage c.args.reads.now c.args.draft)
        c.turns.lexer.stage c.turns.reads c.take_turn.new.reads c.turns.draft c.in-Ok-Reading.unit c.in-Ok-Reading.next (c.turns.invariant.so_far.at held is)
        ((rw c.in-Ok-Reading.field-0-is at c.in-Ok-Reading.ensures.means).at held (c.turns.invariant.asks.held.held ∙ is));
  };
}

pub turns-smaller : goal.turns-smaller
turns-smaller g c = rw c.in-Ok-Reading.field-0-is at c.in-Ok-Reading.ensures.lighter

pub returns-in-Ok-Finished-clause-means : goal.returns-in-Ok-Finished-clause-means
returns-in-Ok-Finished-clause-means g c = record {
  at = λ held is.
      finishes c.lead_without.ensures c.opening_without.ensures c.declarations_without_a_file.ensures (file_of held) c.args.facts.now c.args.options.now (further c.args.lexer.stage c.args.reads.now c.args.draft)
      c.turns.lexer.stage c.turns.reads c.take_turn.new.reads c.turns.draft c.in-Ok-Finished.plan (c.turns.invariant.so_far.at held is)
      ((rw c.in-Ok-Finished.field-0-is at c.in-Ok-Finished.ensures.means).at held (c.turns.invariant.asks.held.held ∙ is));
}

pub returns-in-Ok-Finished-clause-asks : goal.returns-in-Ok-Finished-clause-asks
returns-in-Ok-Finished-clause-asks g c = asked_on [] (g.F.Files.tells c.args.files.now) (g.F.Files.tells c.turns.files) (g.F.Files.tells c.take_turn.new.files) c.turns.invariant.asks c.in-Ok-Finished.ensures.asks

pub returns-in-Err-clause-means : goal.returns-in-Err-clause-means
returns-in-Err-clause-means g c = record {
  at = λ held is.
      stops_with c.lead_without.ensures c.opening_without.ensures c.declarations_without_a_file.ensures (file_of held) c.args.facts.now c.args.options.now (further c.args.lexer.stage c.args.reads.now c.args.draft)
      c.turns.lexer.stage c.turns.reads c.take_turn.new.reads c.turns.draft c.in-Err.stop (c.turns.invariant.so_far.at held is)
      (c.in-Err.ensures.means.at held (c.turns.invariant.asks.held.held ∙ is));
}

pub returns-in-Err-clause-asks : goal.returns-in-Err-clause-asks
returns-in-Err-clause-asks g c = rw (stop_unread Plan Next c.in-Err.stop)
    (asked_on (unread_in {A = Next} (Err c.in-Err.stop)) (g.F.Files.tells c.args.files.now) (g.F.Files.tells c.turns.files) (g.F.Files.tells c.take_turn.new.files) c.turns.invariant.asks c.in-Err.ensures.asks)

pub returns-in-Ok-Finished-clause-fit : goal.returns-in-Ok-Finished-clause-fit
returns-in-Ok-Finished-clause-fit g c = rw c.in-Ok-Finished.field-0-is at (c.in-Ok-Finished.ensures.fit c.turns.invariant.fit)

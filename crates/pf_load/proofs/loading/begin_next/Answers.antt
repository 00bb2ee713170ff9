use Rattle.std.proofs.Common.{length, ap, sym, ◌∙◌}
use Rattle.pf_source.specs.Told.{file_of}
use Rattle.pf_plan.specs.Anchors.{next_unit}
use Rattle.pf_load.proofs.Beginning.{next_begun, next_stopped}
use Rattle.pf_load.proofs.Deciding.{awaited, one_less}
use Rattle.pf_load.proofs.Standing.{goes_on_length, places_grow}
use Rattle.pf_load.proofs.Fitting.{fit_plan, unit_stays}
use Rattle.pf_load.specs.Fit.{is_plan_fit}
use Rattle.pf_load.proofs.loading.begin_next.Goals as goal

pub next_unit-requires : goal.next_unit-requires
next_unit-requires g c = awaited c.args.draft c.in-Some.next.now c.in-Some.ensures

pub returns-in-Err-clause-means : goal.returns-in-Err-clause-means
returns-in-Err-clause-means g c = record {
  at = λ held is. next_stopped (file_of held) c.args.options.now c.args.draft c.args.reads.now c.in-Some.next.now c.requires.ended c.in-Some.ensures c.in-Err.stop c.open_unit.new.reads
      (c.in-Err.ensures.means.at held is (next_unit c.args.draft c.in-Some.next.now.path));
}

pub returns-in_ok-draft-in-Ok-clause-means : goal.returns-in_ok-draft-in-Ok-clause-means
returns-in_ok-draft-in-Ok-clause-means g c = record {
  at = λ held is. next_begun (file_of held) c.args.options.now c.args.draft c.args.reads.now c.in-Some.next.now c.requires.ended c.in-Some.ensures c.in-Ok.lexer c.open_unit.new.reads c.in_ok-draft-in-Ok.draft
      (c.in-Ok.ensures.means.at held is (next_unit c.args.draft c.in-Some.next.now.path))
      (c.in_ok-draft-in-Ok.ensures.laid ∙ ap (next_unit c.args.draft c.in-Some.next.now.path) c.unit_at-place.ensures.at);
}

pub returns-in_ok-draft-in-Ok-clause-ready : goal.returns-in_ok-draft-in-Ok-clause-ready
returns-in_ok-draft-in-Ok-clause-ready g c = record {
  known = c.in-Ok.ensures.known;
  goes = c.in-Ok.ensures.goes;
  places = c.in_ok-draft-in-Ok.ensures.within (length c.open_unit.new.reads.names)
      (places_grow (length c.args.reads.now.names) (length c.open_unit.new.reads.names) c.args.draft (goes_on_length c.args.reads.now.names c.open_unit.new.reads.names c.in-Ok.ensures.grows) c.requires.places)
      c.unit_at-place.ensures.within;
}

pub returns-in_ok-draft-in-Ok-clause-lighter : goal.returns-in_ok-draft-in-Ok-clause-lighter
returns-in_ok-draft-in-Ok-clause-lighter g c = record {
  weight = c.in-Ok.ensures.lighter;
  fewer = one_less c.args.draft c.in_ok-draft-in-Ok.draft c.in-Some.next.now.path c.unit_at-place.result (awaited c.args.draft c.in-Some.next.now c.in-Some.ensures) c.in_ok-draft-in-Ok.ensures.laid;
}

pub returns-in_ok-draft-in-Ok-clause-fit : goal.returns-in_ok-draft-in-Ok-clause-fit
returns-in_ok-draft-in-Ok-clause-fit g c = unit_stays c.args.draft c.in_ok-draft-in-Ok.draft c.in-Some.next.now.path c.unit_at-place.result c.requires.ended c.in_ok-draft-in-Ok.ensures.laid

pub returns-in_ok-plan-in-None-clause-fit : goal.returns-in_ok-plan-in-None-clause-fit
returns-in_ok-plan-in-None-clause-fit g c = λ fit. ap is_plan_fit c.in_ok-plan-in-None.ensures ∙ fit_plan c.args.options.now.level c.args.draft c.requires.ended fit

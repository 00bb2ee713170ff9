use Rattle.std.proofs.Common.{Ok, Err, length, ap, subst, sym, ◌∙◌}
use Rattle.pf_source.specs.AskingLaws.{asked_on}
use Rattle.pf_source.specs.Told.{file_of}
use Rattle.pf_token.specs.Macros.{values_of}
use Rattle.pf_lexer.specs.ReadSoFar.{ReadSoFar}
use Rattle.pf_plan.specs.Drafts.{begun_draft}
use Rattle.pf_fault.specs.Stops.{unread_in}
use Rattle.pf_plan.specs.declared.draft.Draft.{Draft}
use Rattle.pf_load.specs.Answers.{UnitMay}
use Rattle.pf_load.specs.Fit.{IsDraftFit}
use Rattle.pf_load.specs.Load.{Begins, further}
use Rattle.pf_load.proofs.Beginning.{load_begun, load_unopened}
use Rattle.pf_load.proofs.Fitting.{fit_begun}
use Rattle.pf_load.proofs.loading.load_units.Goals as goal

pub read_on-requires-clause-ready : goal.read_on-requires-clause-ready
read_on-requires-clause-ready g c = record {
  known = c.in-Ok.ensures.known;
  goes = c.in-Ok.ensures.goes;
  places = c.begin-draft.ensures.within (length c.open_unit.new.reads.names) c.unit_at-place.ensures.within;
}

pub read_on-requires-clause-fit : goal.read_on-requires-clause-fit
read_on-requires-clause-fit g c = subst IsDraftFit (sym c.begin-draft.ensures.begun) (fit_begun c.args.options.now.path c.unit_at-place.result)

pub returns-in-Ok-clause-means : goal.returns-in-Ok-clause-means
returns-in-Ok-clause-means g c =
    let draft_is = c.begin-draft.ensures.begun ∙ ap (begun_draft c.args.options.now.path) c.unit_at-place.ensures.at in
    record {
      at = λ held is.
          let begins = c.in-Ok.ensures.means.at held is (begun_draft c.args.options.now.path) in
          let from_nothing = subst (λ (r : ReadSoFar). Begins (file_of held) (values_of c.args.options.now.defines) c.args.file.now r (begun_draft c.args.options.now.path) (further c.in-Ok.lexer.stage c.open_unit.new.reads c.begin-draft.result)) c.requires
          (subst (λ (d : Draft). Begins (file_of held) (values_of c.args.options.now.defines) c.args.file.now c.args.reads.now (begun_draft c.args.options.now.path) (further c.in-Ok.lexer.stage c.open_unit.new.reads d)) (sym draft_is) begins) in
          load_begun (file_of held) c.args.facts.now c.args.options.now c.args.file.now c.opening_without.ensures (further c.in-Ok.lexer.stage c.open_unit.new.reads c.begin-draft.result) c.read_on.result c.read_on.new.reads from_nothing
          (c.read_on.ensures.means.at held (c.in-Ok.ensures.asks.held.held ∙ is));
    }

pub returns-in-Ok-clause-asks : goal.returns-in-Ok-clause-asks
returns-in-Ok-clause-asks g c =
    asked_on (unread_in c.read_on.result) (g.F.Files.tells c.args.files.now) (g.F.Files.tells c.open_unit.new.files) (g.F.Files.tells c.read_on.new.files) c.in-Ok.ensures.asks c.read_on.ensures.asks

pub returns-in-Err-clause-means : goal.returns-in-Err-clause-means
returns-in-Err-clause-means g c = record {
  at = λ held is.
      load_unopened (file_of held) c.args.facts.now c.args.options.now c.args.file.now c.in-Err.stop c.open_unit.new.reads
      (subst (λ (r : ReadSoFar). UnitMay (file_of held) (values_of c.args.options.now.defines) c.args.file.now r (begun_draft c.args.options.now.path) (Err c.in-Err.stop) c.open_unit.new.reads) c.requires
      (c.in-Err.ensures.means.at held is (begun_draft c.args.options.now.path)));
}

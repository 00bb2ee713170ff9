use Rattle.std.proofs.Common.{◌++◌, Err, ◌∙◌, arith, refl}
use Rattle.std.proofs.lemmas.Result.{err_from_is_err_and}
use Rattle.pfctl.specs.Doing.{world}
use Rattle.pfctl.proofs.Feeding.{cut_is_shorter, fed_nothing, fed_line, fed_halts, fed_no_memory}
use Rattle.pfctl.proofs.Sessions.{fails_later}
use Rattle.pfctl.proofs.session.Session.feed.Goals as goal

pub loop-line-init : goal.loop-line-init
loop-line-init g c = record {
  fed = fed_nothing c.args.lead.now (world c.args.self.now (g.F.Files.tells c.args.files.now) (g.W.Sink.tells c.args.out.now)) c.args.kept.now.items c.args.piece.now c.requires.one;
  drawn = omega arith;
  later = omega arith;
}

pub returns-in_err-extend_from_slice-clause-runs :
    goal.returns-in_err-extend_from_slice-clause-runs
returns-in_err-extend_from_slice-clause-runs g c =
    let p = err_from_is_err_and c.from_residual.result c.from_residual.ensures.1 in
    rw (p.1, p.2) (fed_no_memory c.args.lead.now _ _ _ (c.args.kept.now.items ++ c.args.piece.now) c.loop-line.kept.items c.loop-line.rest.now refl refl c.loop-line.invariant.fed)

pub returns-in_err-execute_said-clause-runs : goal.returns-in_err-execute_said-clause-runs
returns-in_err-execute_said-clause-runs g c =
    let p = err_from_is_err_and c.from_residual-in_err-execute_said.result c.from_residual-in_err-execute_said.ensures.1 in
    let line = c.as_slice.ensures.value ∙ c.in_ok-extend_from_slice.ensures.items in
    let halts = rw line at c.in_err-execute_said.ensures.runs in
    rw (p.1, p.2) (fed_halts c.args.lead.now c.in_err-execute_said.field-0.0 _ _ _ (c.args.kept.now.items ++ c.args.piece.now) c.loop-line.kept.items c.loop-line.rest.now c.in-Some.line.now c.in-Some.behind.now c.loop-line.invariant.fed c.in-Some.ensures.line halts)

pub returns-in_err-execute_said-clause-causes : goal.returns-in_err-execute_said-clause-causes
returns-in_err-execute_said-clause-causes g c =
    let p = err_from_is_err_and c.from_residual-in_err-execute_said.result c.from_residual-in_err-execute_said.ensures.1 in
    rw (p.1, p.2) (fails_later {X = Unit {0}} (g.W.Sink.tells c.args.out.now) (g.W.Sink.tells c.loop-line.out) (g.W.Sink.tells c.execute_said.new.out) (Err c.in_err-execute_said.field-0.0) c.loop-line.invariant.later c.in_err-execute_said.ensures.causes)

pub loop-line-preserved : goal.loop-line-preserved
loop-line-preserved g c =
    let line = c.as_slice.ensures.value ∙ c.in_ok-extend_from_slice.ensures.items in
    let runs = rw line at c.in_ok-execute_said.ensures.runs in
    let shorter = cut_is_shorter c.loop-line.rest.now c.in-Some.line.now c.in-Some.behind.now c.in-Some.ensures.line in
    record {
      fed = rw c.clear.ensures.items (fed_line c.args.lead.now _ _ _ (c.args.kept.now.items ++ c.args.piece.now) c.loop-line.kept.items c.loop-line.rest.now c.in-Some.line.now c.in-Some.behind.now c.loop-line.invariant.fed c.in-Some.ensures.line runs);
      drawn = let before = c.loop-line.invariant.drawn in let more = c.in_ok-execute_said.ensures.drawn in omega arith;
      later = let before = c.loop-line.invariant.later in let more = c.in_ok-execute_said.ensures.causes in omega arith;
    }

pub returns-in_err-extend_from_slice-2-clause-runs :
    goal.returns-in_err-extend_from_slice-2-clause-runs
returns-in_err-extend_from_slice-2-clause-runs g c =
    let p = err_from_is_err_and c.from_residual-in_err-extend_from_slice-2.result c.from_residual-in_err-extend_from_slice-2.ensures.1 in
    rw (p.1, p.2) (fed_no_memory c.args.lead.now _ _ _ (c.args.kept.now.items ++ c.args.piece.now) c.loop-line.kept.items c.loop-line.rest.now refl refl c.loop-line.invariant.fed)

use Rattle.std.proofs.Common.{[], arith, subst}
use Rattle.std.proofs.lemmas.Result.{err_from_is_err_and}
use Rattle.pf_runs.specs.Runs.{World}
use Rattle.pf_state.specs.declared.machine.Machine.{Machine}
use Rattle.pfctl.specs.Doing.{Runs, world}
use Rattle.pfctl.specs.Lines.{script}
use Rattle.pfctl.specs.Program.{outside}
use Rattle.pfctl.proofs.Programs.{begins, cause_ended, cause_stopped, means_ended, means_stopped}
use Rattle.pfctl.proofs.Sessions.{runs_nothing}
use Rattle.pfctl.proofs.program.run_script.Goals as goal

pub returns-in_err-ending-clause-means : goal.returns-in_err-ending-clause-means
returns-in_err-ending-clause-means g c =
    let p = err_from_is_err_and c.from_residual.result c.from_residual.ensures.1 in
    let why = c.in_err-ending.field-0.0 in
    let before = outside (g.F.Files.tells c.args.files.now) (g.S.Source.tells c.args.input.now) (g.W.Sink.tells c.args.out.now) in
    let after = outside (g.F.Files.tells c.read_input.new.files) (g.S.Source.tells c.read_input.new.input) (g.W.Sink.tells c.read_input.new.out) in
    let session = c.read_input.new.self in
    let begun = world c.new-session.result (g.F.Files.tells c.args.files.now) (g.W.Sink.tells c.args.out.now) in
    let opened = begins c.new-session.result before.files before.source before.sink c.new-session.ensures.machine c.new-session.ensures.refused in
    let runs = subst (λ (w : World Machine). Runs [] w begun) opened (runs_nothing begun) in
    rw (p.1, p.2) (means_stopped why script before after begun session.engine session.refused runs c.in_err-ending.ensures.ends)

pub returns-clause-means : goal.returns-clause-means
returns-clause-means g c =
    let before = outside (g.F.Files.tells c.args.files.now) (g.S.Source.tells c.args.input.now) (g.W.Sink.tells c.args.out.now) in
    let after = outside (g.F.Files.tells c.read_input.new.files) (g.S.Source.tells c.read_input.new.input) (g.W.Sink.tells c.read_input.new.out) in
    let session = c.read_input.new.self in
    let begun = world c.new-session.result (g.F.Files.tells c.args.files.now) (g.W.Sink.tells c.args.out.now) in
    let opened = begins c.new-session.result before.files before.source before.sink c.new-session.ensures.machine c.new-session.ensures.refused in
    let runs = subst (λ (w : World Machine). Runs [] w begun) opened (runs_nothing begun) in
    rw (c.status_of.ensures, c.is_refused.ensures) (means_ended script before after begun session.engine c.in_ok-ending.ending session.refused runs c.in_ok-ending.ensures.ends)

pub returns-in_err-ending-clause-cause : goal.returns-in_err-ending-clause-cause
returns-in_err-ending-clause-cause g c =
    let p = err_from_is_err_and c.from_residual.result c.from_residual.ensures.1 in
    let before = outside (g.F.Files.tells c.args.files.now) (g.S.Source.tells c.args.input.now) (g.W.Sink.tells c.args.out.now) in
    let after = outside (g.F.Files.tells c.read_input.new.files) (g.S.Source.tells c.read_input.new.input) (g.W.Sink.tells c.read_input.new.out) in
    rw (p.1, p.2) (cause_stopped c.in_err-ending.field-0.0 script.lead before after _ _ (g.W.Sink.tells c.args.out.now) (omega arith) c.in_err-ending.ensures.causes c.in_err-ending.ensures.ends)

pub returns-clause-cause : goal.returns-clause-cause
returns-clause-cause g c =
    let before = outside (g.F.Files.tells c.args.files.now) (g.S.Source.tells c.args.input.now) (g.W.Sink.tells c.args.out.now) in
    let after = outside (g.F.Files.tells c.read_input.new.files) (g.S.Source.tells c.read_input.new.input) (g.W.Sink.tells c.read_input.new.out) in
    rw c.status_of.ensures (cause_ended c.in_ok-ending.ending c.is_refused.result script.lead before after _ _ c.in_ok-ending.ensures.ends)

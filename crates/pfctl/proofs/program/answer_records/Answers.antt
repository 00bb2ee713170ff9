use Rattle.std.proofs.Common.{refl, subst}
use Rattle.std.proofs.lemmas.Result.{err_from_is_err_and}
use Rattle.pf_runs.specs.Runs.{World}
use Rattle.pf_state.specs.declared.machine.Machine.{Machine}
use Rattle.pf_words.specs.Said.{load_of}
use Rattle.pfctl.specs.Doing.{Halts, Runs, world}
use Rattle.pfctl.specs.Lines.{first_lines, load_and_test}
use Rattle.pfctl.specs.Program.{outside}
use Rattle.pfctl.proofs.Programs.{begins, cause_ended, cause_stopped, cause_unread, means_ended, means_stopped, means_unbegun}
use Rattle.pfctl.proofs.program.answer_records.Goals as goal

pub returns-in_err-begin-clause-means : goal.returns-in_err-begin-clause-means
returns-in_err-begin-clause-means g c =
    let p = err_from_is_err_and c.from_residual.result c.from_residual.ensures.1 in
    let why = c.in_err-begin.field-0.0 in
    let words = load_of c.args.words in
    let before = outside (g.F.Files.tells c.args.files.now) (g.S.Source.tells c.args.input.now) (g.W.Sink.tells c.args.out.now) in
    let after = outside (g.F.Files.tells c.begin.new.files) (g.S.Source.tells c.args.input.now) (g.W.Sink.tells c.begin.new.out) in
    let session = c.begin.new.self in
    let opened = begins c.new-session.result before.files before.source before.sink c.new-session.ensures.machine c.new-session.ensures.refused in
    let halts = subst (λ (w : World Machine). Halts why (first_lines words) w (world session after.files after.sink)) opened c.in_err-begin.ensures.runs in
    rw (p.1, p.2) (means_unbegun why (load_and_test words) before after session.engine session.refused refl halts)

pub returns-in_err-ending-clause-means : goal.returns-in_err-ending-clause-means
returns-in_err-ending-clause-means g c =
    let p = err_from_is_err_and c.from_residual-in_err-ending.result c.from_residual-in_err-ending.ensures.1 in
    let why = c.in_err-ending.field-0.0 in
    let words = load_of c.args.words in
    let before = outside (g.F.Files.tells c.args.files.now) (g.S.Source.tells c.args.input.now) (g.W.Sink.tells c.args.out.now) in
    let after = outside (g.F.Files.tells c.read_input.new.files) (g.S.Source.tells c.read_input.new.input) (g.W.Sink.tells c.read_input.new.out) in
    let session = c.read_input.new.self in
    let begun = world c.begin.new.self (g.F.Files.tells c.begin.new.files) (g.W.Sink.tells c.begin.new.out) in
    let opened = begins c.new-session.result before.files before.source before.sink c.new-session.ensures.machine c.new-session.ensures.refused in
    let runs = subst (λ (w : World Machine). Runs (first_lines words) w begun) opened c.in_ok-begin.ensures.runs in
    rw (p.1, p.2) (means_stopped why (load_and_test words) before after begun session.engine session.refused runs c.in_err-ending.ensures.ends)

pub returns-clause-means : goal.returns-clause-means
returns-clause-means g c =
    let words = load_of c.args.words in
    let before = outside (g.F.Files.tells c.args.files.now) (g.S.Source.tells c.args.input.now) (g.W.Sink.tells c.args.out.now) in
    let after = outside (g.F.Files.tells c.read_input.new.files) (g.S.Source.tells c.read_input.new.input) (g.W.Sink.tells c.read_input.new.out) in
    let session = c.read_input.new.self in
    let begun = world c.begin.new.self (g.F.Files.tells c.begin.new.files) (g.W.Sink.tells c.begin.new.out) in
    let opened = begins c.new-session.result before.files before.source before.sink c.new-session.ensures.machine c.new-session.ensures.refused in
    let runs = subst (λ (w : World Machine). Runs (first_lines words) w begun) opened c.in_ok-begin.ensures.runs in
    rw (c.status_of.ensures, c.is_refused.ensures) (means_ended (load_and_test words) before after begun session.engine c.in_ok-ending.ending session.refused runs c.in_ok-ending.ensures.ends)

pub returns-in_err-begin-clause-cause : goal.returns-in_err-begin-clause-cause
returns-in_err-begin-clause-cause g c =
    let p = err_from_is_err_and c.from_residual.result c.from_residual.ensures.1 in
    let before = outside (g.F.Files.tells c.args.files.now) (g.S.Source.tells c.args.input.now) (g.W.Sink.tells c.args.out.now) in
    let after = outside (g.F.Files.tells c.begin.new.files) (g.S.Source.tells c.args.input.now) (g.W.Sink.tells c.begin.new.out) in
    rw (p.1, p.2) (cause_unread c.in_err-begin.field-0.0 before after refl c.in_err-begin.ensures.causes)

pub returns-in_err-ending-clause-cause : goal.returns-in_err-ending-clause-cause
returns-in_err-ending-clause-cause g c =
    let p = err_from_is_err_and c.from_residual-in_err-ending.result c.from_residual-in_err-ending.ensures.1 in
    let before = outside (g.F.Files.tells c.args.files.now) (g.S.Source.tells c.args.input.now) (g.W.Sink.tells c.args.out.now) in
    let after = outside (g.F.Files.tells c.read_input.new.files) (g.S.Source.tells c.read_input.new.input) (g.W.Sink.tells c.read_input.new.out) in
    rw (p.1, p.2) (cause_stopped c.in_err-ending.field-0.0 (load_and_test (load_of c.args.words)).lead before after _ _ (g.W.Sink.tells c.begin.new.out) c.in_ok-begin.ensures.causes c.in_err-ending.ensures.causes c.in_err-ending.ensures.ends)

pub returns-clause-cause : goal.returns-clause-cause
returns-clause-cause g c =
    let before = outside (g.F.Files.tells c.args.files.now) (g.S.Source.tells c.args.input.now) (g.W.Sink.tells c.args.out.now) in
    let after = outside (g.F.Files.tells c.read_input.new.files) (g.S.Source.tells c.read_input.new.input) (g.W.Sink.tells c.read_input.new.out) in
    rw c.status_of.ensures (cause_ended c.in_ok-ending.ending c.is_refused.result (load_and_test (load_of c.args.words)).lead before after _ _ c.in_ok-ending.ensures.ends)

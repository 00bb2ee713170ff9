use Rattle.std.proofs.Common.{[], ◌∷◌, refl}
use Rattle.std.proofs.lemmas.Result.{err_from_is_err_and}
use Rattle.pfctl.specs.Lines.{said_lines}
use Rattle.pfctl.proofs.Sessions.{halts_idle}
use Rattle.pfctl.proofs.session.Session.execute_said.Goals as goal

pub returns-in_err-extend_from_slice-clause-runs :
    goal.returns-in_err-extend_from_slice-clause-runs
returns-in_err-extend_from_slice-clause-runs g c =
    let p = err_from_is_err_and c.from_residual.result c.from_residual.ensures.1 in
    rw (p.1, p.2) (halts_idle (said_lines c.args.lead.now (c.args.line.now ∷ [])) _ _ refl refl)

pub returns-in_err-extend_from_slice-2-clause-runs :
    goal.returns-in_err-extend_from_slice-2-clause-runs
returns-in_err-extend_from_slice-2-clause-runs g c =
    let p = err_from_is_err_and c.from_residual-in_err-extend_from_slice-2.result c.from_residual-in_err-extend_from_slice-2.ensures.1 in
    rw (p.1, p.2) (halts_idle (said_lines c.args.lead.now (c.args.line.now ∷ [])) _ _ refl refl)

use Rattle.std.proofs.Common.{[], ◌∷◌, refl}
use Rattle.std.proofs.lemmas.Result.{err_from_is_err_and}
use Rattle.pf_words.specs.Said.{load_of}
use Rattle.pfctl.specs.Lines.{load_line}
use Rattle.pfctl.proofs.Sessions.{halts_idle}
use Rattle.pfctl.proofs.session.Session.load.Goals as goal

pub returns-in_err-put_load_line-clause-runs : goal.returns-in_err-put_load_line-clause-runs
returns-in_err-put_load_line-clause-runs g c =
    let p = err_from_is_err_and c.from_residual.result c.from_residual.ensures.1 in
    rw (p.1, p.2) (halts_idle (load_line (load_of c.args.words) ∷ []) _ _ refl refl)

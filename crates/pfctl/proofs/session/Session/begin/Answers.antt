use Rattle.std.proofs.Common.{[], ◌∷◌}
use Rattle.std.proofs.lemmas.Result.{err_from_is_err_and}
use Rattle.pf_words.specs.Said.{load_of}
use Rattle.pfctl.specs.Lines.{hosts_lines, load_line}
use Rattle.pfctl.proofs.Sessions.{halts_sooner, performs_on}
use Rattle.pfctl.proofs.session.Session.begin.Goals as goal

pub returns-in_err-hosts-clause-runs : goal.returns-in_err-hosts-clause-runs
returns-in_err-hosts-clause-runs g c =
    let p = err_from_is_err_and c.from_residual.result c.from_residual.ensures.1 in
    rw (p.1, p.2) (halts_sooner c.in_err-hosts.field-0.0 (hosts_lines (load_of c.args.words).hosts) (load_line (load_of c.args.words) ∷ []) _ _ c.in_err-hosts.ensures.runs)

pub returns-clause-runs : goal.returns-clause-runs
returns-clause-runs g c =
    performs_on (hosts_lines (load_of c.args.words).hosts) (load_line (load_of c.args.words) ∷ []) _ _ _ c.load.result c.in_ok-hosts.ensures.runs c.load.ensures.runs

use Rattle.std.proofs.Common.{refl}
use Rattle.std.proofs.lemmas.Result.{err_from_is_err_and}
use Rattle.pf_words.specs.Said.{text_if}
use Rattle.pfctl.specs.Lines.{hosts_lines}
use Rattle.pfctl.proofs.Sessions.{halts_idle}
use Rattle.pfctl.proofs.session.Session.hosts.Goals as goal

pub returns-in_err-put_hosts_line-clause-runs : goal.returns-in_err-put_hosts_line-clause-runs
returns-in_err-put_hosts_line-clause-runs g c =
    let p = err_from_is_err_and c.from_residual.result c.from_residual.ensures.1 in
    rw (p.1, p.2) (halts_idle (hosts_lines (text_if c.args.facts)) _ _ refl refl)

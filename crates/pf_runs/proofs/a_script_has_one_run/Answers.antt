use Rattle.std.proofs.Common.{sym, ◌∙◌}
use Rattle.pf_runs.proofs.Scripts.{one_script}
use Rattle.pf_runs.proofs.a_script_has_one_run.Goals as goal

pub returns : goal.returns
returns g c = λ disk one machine lines a b. one_script g.M.Machine.step disk one machine a.events b.events (a.are ∙ sym b.are) a.whole b.whole a.follow b.follow

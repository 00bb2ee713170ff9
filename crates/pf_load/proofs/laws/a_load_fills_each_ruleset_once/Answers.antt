use Rattle.pf_load.proofs.FilledOnce.{fills_once}
use Rattle.pf_load.proofs.laws.a_load_fills_each_ruleset_once.Goals as goal

pub returns : goal.returns
returns c = fills_once

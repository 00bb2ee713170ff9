use Rattle.pf_standing.proofs.Appearing.{commit_appears, load_appears}
use Rattle.pf_standing.proofs.laws.an_accepted_plan_appears_whole.Goals as goal

pub returns : goal.returns
returns c = record { commit = commit_appears c.a_load_is_one_replacement.ensures; load = load_appears c.a_load_is_one_replacement.ensures }

use Rattle.pf_calls.specs.Calls.{call_graph, path_eq}
use Rattle.pf_calls.specs.GraphLaws.{no_cycle_ranked, rank_unique}
use Rattle.pf_calls.specs.CallLaws.{paths_decide}
use Rattle.pf_calls.proofs.Linked.{paths_listed, paths_equivalent}
use Rattle.pf_calls.proofs.calls.acyclic_calls_have_ranks.Goals as goal

pub returns-clause-unique : goal.returns-clause-unique
returns-clause-unique c = λ paths calls r s first second path. rank_unique (call_graph paths calls) r s first second path

pub returns-clause-found : goal.returns-clause-found
returns-clause-found c = λ paths calls none. no_cycle_ranked (call_graph paths calls) path_eq paths_decide paths_equivalent paths (paths_listed paths calls) none

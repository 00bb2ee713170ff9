use Rattle.pf_eval.proofs.Bounds.{bound_only, bound_walks}
use Rattle.pf_eval.proofs.laws.walks_need_no_bound.Goals as goal

pub returns-clause-walk : goal.returns-clause-walk
returns-clause-walk g c = λ by trees facts shallow. bound_walks (record { alike = c.laws_of_walks.ensures.alike }) by trees facts shallow

pub returns-clause-only : goal.returns-clause-only
returns-clause-only g c = λ by trees facts other shallow is. bound_only (record { alike = c.laws_of_walks.ensures.alike }) by trees facts shallow other is

use Rattle.std.proofs.Common.{ap, sym, ◌∙◌}
use Rattle.std.specs.FinMap as finite
use Rattle.pf_plan.specs.Filled.{Paths}
use Rattle.pf_plan.proofs.filled.FilledPaths.with.Goals as goal

pub returns : goal.returns
returns c =
    c.path_map_laws.ensures.inserted c.all.inside.paths c.insert.new.self c.args.path tt c.in_ok-insert.ensures.updates
    ∙ ap (λ (paths : Paths). finite.insert paths c.args.path tt) c.all.view_is

use Rattle.std.proofs.Common.{ap, sym, ◌∙◌}
use Rattle.std.specs.Prelude.{is_some}
use Rattle.std.specs.FinMap as finite
use Rattle.pf_plan.specs.Filled.{Paths}
use Rattle.pf_plan.proofs.filled.FilledPaths.has.Goals as goal

pub returns : goal.returns
returns c =
    c.contains_key.ensures ∙ sym (ap is_some (c.path_map_laws.ensures.found c.self.inside.paths c.args.path.now))
    ∙ ap (λ (paths : Paths). is_some (finite.get paths c.args.path.now)) c.self.view_is

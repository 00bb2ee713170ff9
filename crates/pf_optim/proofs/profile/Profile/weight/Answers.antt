use Rattle.std.proofs.Common.{ℕ, List, Option, ◌∙◌, ap}
use Rattle.std.specs.Option.{unwrap_or}
use Rattle.pf_optim.specs.Profile.{weight_at}
use Rattle.pf_optim.specs.declared.rows.Row.{Row}
use Rattle.pf_optim.proofs.SaidRows.{weight_by_lookup}
use Rattle.pf_optim.proofs.profile.Profile.weight.Goals as goal

pub returns-in-Some-clause-weight : goal.returns-in-Some-clause-weight
returns-in-Some-clause-weight c =
    c.from.ensures
    ∙ ap (λ (found : Option ℕ). unwrap_or found 0) c.in-Some.ensures.value
    ∙ weight_by_lookup c.self.inside.counts.entries c.args.path.now c.args.place
    ∙ ap (λ (rows : List Row). weight_at rows c.args.path.now c.args.place) c.self.view_is

pub returns-in-None-clause-weight : goal.returns-in-None-clause-weight
returns-in-None-clause-weight c =
    ap (λ (found : Option ℕ). unwrap_or found 0) c.in-None.ensures.value
    ∙ weight_by_lookup c.self.inside.counts.entries c.args.path.now c.args.place
    ∙ ap (λ (rows : List Row). weight_at rows c.args.path.now c.args.place) c.self.view_is

use Rattle.std.proofs.Common.{ap, not, ◌==◌, length, ◌∙◌}
use Rattle.pf_host.proofs.Kept.{has_values}
use Rattle.pf_host.proofs.index.Index.has.Goals as goal

pub returns : goal.returns
returns g c = ap not c.is_empty.ensures ∙ (ap (λ values. not (length values == 0)) c.get.ensures ∙ has_values c.args.self.now c.args.name.now)

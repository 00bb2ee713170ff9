use Rattle.std.proofs.Common.{ap, map, ◌∙◌}
use Rattle.pf_host.specs.Addresses.{prefix_listed}
use Rattle.pf_host.proofs.Found.{map_twice}
use Rattle.pf_host.proofs.facts.Facts.own_addresses.Goals as goal

pub returns : goal.returns
returns c =
    rw (← c.self.view_is)
    (c.in_ok-prefixes.ensures ∙ map_twice (λ entry. entry.address) (prefix_listed c.args.network) _
    ∙ ap (map (prefix_listed c.args.network)) c.own.ensures)

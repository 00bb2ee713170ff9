use Rattle.std.proofs.Common.{sym, ap, map, filter, ◌∙◌}
use Rattle.pf_host.specs.Addresses.{addresses_listed, first_of_each, prefix_listed}
use Rattle.pf_host.specs.Facts.{HostFacts}
use Rattle.pf_host.specs.Queries.{is_meant}
use Rattle.pf_host.proofs.Found.{collected}
use Rattle.pf_host.proofs.facts.Facts.addresses.Goals as goal

pub returns : goal.returns
returns c =
    let what = c.args.what.now in
    let meant = is_meant c.args.self.now what.name in
    let all = c.rows.ensures.all ∙ ap (λ (facts : HostFacts). facts.addresses) c.self.view_is in
    c.in_ok-prefixes.ensures
    ∙ collected what.first what.network meant c.rows.result.now (c.rows.ensures.firsts ∙ ap first_of_each (sym c.rows.ensures.all))
    ∙ ap (λ listed. map (λ row. prefix_listed what.network row.value) (filter (λ row. meant row.name) (addresses_listed what.first listed))) all

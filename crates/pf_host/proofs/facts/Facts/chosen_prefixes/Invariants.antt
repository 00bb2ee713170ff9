use Rattle.std.proofs.Common.{◌≡◌, ◌&&◌, take, map, filter}
use Rattle.pf_host.specs.Addresses.{prefix_listed}
use Rattle.pf_host.specs.Kept.{is_chosen}
use Rattle.pf_host.specs.Queries.{is_meant}
use Rattle.pf_host.proofs.facts.Facts.chosen_prefixes.Given as goal

-- the prefixes of the addresses so far
abbrev pub invariant-loop-row : goal.invariant-loop-row
invariant-loop-row l =
    l.prefixes ≡ map (λ row. prefix_listed l.what.network row.value.address) (filter (λ row. is_chosen l.what.first row.value && is_meant l.self l.what.name row.name) (take l.row-index l.rows))

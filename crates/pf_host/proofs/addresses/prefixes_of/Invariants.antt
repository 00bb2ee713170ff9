use Rattle.std.proofs.Common.{◌≡◌, take, map}
use Rattle.pf_host.specs.Addresses.{prefix_listed}
use Rattle.pf_host.proofs.addresses.prefixes_of.Given as goal

-- the prefixes of the addresses so far
abbrev pub invariant-loop-entry : goal.invariant-loop-entry
invariant-loop-entry l = l.prefixes ≡ map (λ entry. prefix_listed l.network entry.address) (take l.entry-index l.own)

use Rattle.std.proofs.Common.{◌≡◌, ◌≤◌, ◌-◌}
use Rattle.pf_addr.specs.Addr.{leading}
use Rattle.pf_table.proofs.bits.shared.Given as goal

abbrev pub invariant-loop-len : goal.invariant-loop-len
invariant-loop-len l = record { known : l.from ≤ l.len; within : l.len ≤ l.limit; same : leading l.a.addr l.len ≡ leading l.b.addr l.len }

abbrev pub decreases-loop-len : goal.decreases-loop-len
decreases-loop-len l = l.limit - l.len

use Rattle.std.proofs.Common.{◌≡◌, ◌++◌, drop, length}
use Rattle.pf_addr.specs.Text.{last_digits}
use Rattle.pf_addr.proofs.print.groups_of.Given as goal

-- the digits of what is left, and then the groups that are done, are all the groups
abbrev pub invariant-loop-i : goal.invariant-loop-i
invariant-loop-i l =
    (last_digits 65536 l.i l.rest ++ drop l.i l.groups ≡ last_digits 65536 8 l.bits) × (length l.groups ≡ 8)

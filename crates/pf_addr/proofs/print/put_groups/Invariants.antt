use Rattle.std.proofs.Common.{◌≡◌, ◌+◌, ◌*◌, ◌≤◌, ◌++◌, length, take}
use Rattle.std.specs.Net.Text.{groups_text}
use Rattle.pf_addr.proofs.print.put_groups.Given as goal

abbrev pub invariant-loop-i : goal.invariant-loop-i
invariant-loop-i l =
    (l.line ≡ l.fn.line ++ groups_text (take l.i l.groups)) × (length l.line ≤ length l.fn.line + 5 * l.i)

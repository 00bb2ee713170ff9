use Rattle.std.proofs.Common.{◌≡◌, take}
use Rattle.pf_parts.proofs.call_target.front_of.Given as goal

-- the names so far
abbrev pub invariant-loop-name : goal.invariant-loop-name
invariant-loop-name l = l.front ≡ take l.name-index l.path

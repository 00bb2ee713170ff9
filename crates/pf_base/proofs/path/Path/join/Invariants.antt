use Rattle.std.proofs.Common.{◌≡◌, ◌++◌, take}
use Rattle.pf_base.proofs.path.Path.join.Given as goal

-- the names so far
abbrev pub invariant-loop-name : goal.invariant-loop-name
invariant-loop-name l = l.path ≡ l.self ++ take l.name-index l.name-items

use Rattle.std.proofs.Common.{◌≡◌, ◌++◌, length, take}
use Rattle.std.specs.List.{flat_map}
use Rattle.pf_combine.specs.Walk.{combined_with}
use Rattle.pf_combine.proofs.combine.+combine.Given as goal

abbrev pub decreases-combine : goal.decreases-combine
decreases-combine l = length l.lists.now

-- what the members so far give
abbrev pub invariant-loop-member : goal.invariant-loop-member
invariant-loop-member l = l.found ≡ take l.room (l.initial.found ++ flat_map (combined_with l.chosen l.start l.rest) (take l.member-index l.member-items))

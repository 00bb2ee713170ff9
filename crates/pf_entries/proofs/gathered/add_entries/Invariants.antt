use Rattle.std.proofs.Common.{◌≡◌, take, map, ◌++◌}
use Rattle.pf_entries.specs.Tables.{entry_of, placed_at}
use Rattle.pf_entries.proofs.gathered.add_entries.Given as goal

abbrev pub invariant-loop-prefix : goal.invariant-loop-prefix
invariant-loop-prefix l = l.gathered ≡ record l.initial.gathered {
  placed = l.initial.gathered.placed ++ map (placed_at l.place) (map (entry_of l.negated) (take l.prefix-index l.prefixes));
}

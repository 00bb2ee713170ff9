use Rattle.std.proofs.Common.{◌≡◌, ◌++◌, map}
use Rattle.std.specs.List.{filter}
use Rattle.std.specs.FinMap as finite
use Rattle.std.specs.Map.Iter.{deref_pair}
use Rattle.pf_shelf.specs.Shelf.{name_cmp}
use Rattle.pf_shelf.specs.Renewed.{persists}
use Rattle.pf_shelf.proofs.shelf.Shelf.keep_on.Given as goal

abbrev pub invariant-loop-name : goal.invariant-loop-name
invariant-loop-name l = l.shelf ≡ finite.from_entries {R = name_cmp} (finite.entries l.initial.shelf ++ filter persists (map deref_pair l.yielded))

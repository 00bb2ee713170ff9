-- What stands at a path of the tree.
use Rattle.std.specs.Prelude.{Bool, ◌&&◌, ◌==◌, length}
use Rattle.std.specs.FinMap as finite
use Rattle.pf_optim.specs.Ruleset.{Written}
use Rattle.pf_shelf.specs.Shelf.{Tables}

-- without rules and tables
abbrev pub is_bare : Written → Tables → Bool
is_bare written tables = length written.rules == 0 && finite.len tables == 0

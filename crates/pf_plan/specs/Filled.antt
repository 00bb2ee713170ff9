-- The rulesets that a load fills below the one that it is into: those of its bodies and of its `load anchor` statements (pf.conf(5), ANCHORS).
use Rattle.std.specs.Prelude.{ℕ, List}
use Rattle.std.specs.Coded.{Coded, coded_list, coded_ℕ}
use Rattle.std.specs.FinSet as set
use Rattle.std.specs.declared.cmp.Ordering.{Ordering}
use Rattle.std.specs.Ordering.{nat_cmp}
use Rattle.std.specs.Cmp.Lexicographic.{slice_cmp}

-- paths by their names, in byte order
abbrev pub path_cmp : List (List ℕ) → List (List ℕ) → Ordering
path_cmp = slice_cmp (slice_cmp nat_cmp)

abbrev pub Paths : Type 0
Paths = set.FinSet path_cmp

-- a set of paths is stored as the list of them
abbrev pub paths_code : Coded Paths
paths_code = set.code (coded_list (coded_list coded_ℕ))

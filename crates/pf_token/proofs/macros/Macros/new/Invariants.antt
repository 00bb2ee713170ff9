use Rattle.std.proofs.Common.{◌≡◌, drop}
use Rattle.std.specs.Ordering.{nat_cmp}
use Rattle.std.specs.Cmp.Lexicographic.{slice_cmp}
use Rattle.std.specs.FinMap.{from_entries, empty}
use Rattle.pf_token.specs.Macros.{with_defines}
use Rattle.pf_token.proofs.macros.Macros.new.Given as goal

abbrev pub invariant-loop-define : goal.invariant-loop-define
invariant-loop-define l =
    with_defines (from_entries {R = slice_cmp nat_cmp} l.given.entries) (drop l.define-index l.defines) ≡ with_defines empty l.defines

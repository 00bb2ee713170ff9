use Rattle.std.proofs.Common.{◌≡◌, take, map}
use Rattle.std.specs.FinMap as finite
use Rattle.pf_shelf.specs.Shelf.{name_cmp}
use Rattle.pf_shelf.specs.Renewed.{declared}
use Rattle.pf_shelf.proofs.shelf.Shelf.renew.Given as goal

abbrev pub invariant-loop-decl : goal.invariant-loop-decl
invariant-loop-decl l = l.shelf ≡ finite.from_entries {R = name_cmp} (map (declared l.self) (take l.decl-index l.decls))

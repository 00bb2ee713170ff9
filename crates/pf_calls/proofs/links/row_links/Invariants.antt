use Rattle.std.proofs.Common.{[], take}
use Rattle.std.specs.List.{flat_map}
use Rattle.pf_calls.specs.Calls.{called, paths_of}
use Rattle.pf_calls.specs.Links.{Reaches}
use Rattle.pf_calls.proofs.links.row_links.Given as goal

abbrev pub invariant-loop-call : goal.invariant-loop-call
invariant-loop-call l = Reaches l.rows [] (flat_map (called (paths_of l.rows) l.row.path) (take l.call-index l.call-items)) l.links

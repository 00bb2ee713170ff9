use Rattle.pf_calls.specs.Links.{IsLinked}
use Rattle.pf_calls.proofs.links.links.Given as goal

abbrev pub invariant-loop-row : goal.invariant-loop-row
invariant-loop-row l = IsLinked l.rows l.row-index l.links.items

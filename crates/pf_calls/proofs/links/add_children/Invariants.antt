use Rattle.pf_calls.proofs.Reached.{ReachesFront}
use Rattle.pf_calls.proofs.links.add_children.Given as goal

abbrev pub invariant-loop-place : goal.invariant-loop-place
invariant-loop-place l = ReachesFront l.rows l.initial.links l.at l.place l.links

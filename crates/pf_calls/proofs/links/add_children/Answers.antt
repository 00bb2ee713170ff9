use Rattle.std.proofs.Common.{◌+◌, subst, sym, ◌∙◌, arith}
use Rattle.std.proofs.lemmas.Bool.{false≢true}
use Rattle.pf_calls.specs.Links.{IsChild}
use Rattle.pf_calls.proofs.Placed.{path_here}
use Rattle.pf_calls.proofs.Reached.{ReachesFront, front_all, front_passed, front_taken}
use Rattle.pf_calls.proofs.links.add_children.Goals as goal
use Rattle.pf_calls.proofs.links.add_children.Goals.{then-is_child+in_ok-push, else-is_child}

pub loop-place-preserved : goal.loop-place-preserved
loop-place-preserved c =
    let rows = c.args.rows.now in
    let at = c.args.at.now in
    let here = path_here rows c.loop-place.place c.index-rows-place.result c.loop-place-test.true c.index-rows-place.is in
    elim c.if-is_child.branch [
      | then-is_child+in_ok-push w ↦
          let child = subst (IsChild at) (sym here) (c.is_child.ensures.0 w.if-is_child.true) in
          subst (ReachesFront rows c.args.links.now at (c.loop-place.place + 1)) (sym (w.links-is ∙ w.in_ok-push.ensures.ok)) (front_taken rows c.args.links.now at c.loop-place.place c.loop-place.links c.loop-place-test.true c.loop-place.invariant child)
      | else-is_child w ↦
          subst (ReachesFront rows c.args.links.now at (c.loop-place.place + 1)) (sym w.links-is)
          (front_passed rows c.args.links.now at c.loop-place.place c.loop-place.links c.loop-place.invariant (λ child. false≢true (sym w.if-is_child.false ∙ c.is_child.ensures.1 (subst (IsChild at) here child))))
    ]

pub returns : goal.returns
returns c = front_all c.args.rows.now c.args.links.now c.args.at.now c.loop-place.place c.loop-place.links (omega arith) c.loop-place.invariant

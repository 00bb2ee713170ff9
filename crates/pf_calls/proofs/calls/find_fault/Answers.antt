use Rattle.std.proofs.Common.{Some, subst}
use Rattle.pf_calls.specs.Numbered.{IsDepthOf}
use Rattle.pf_calls.proofs.Answered.{deep, shallow}
use Rattle.pf_calls.proofs.calls.find_fault.Goals as goal

pub returns-then-depth-gt-MOST_CALLS : goal.returns-then-depth-gt-MOST_CALLS
returns-then-depth-gt-MOST_CALLS c =
    let is = subst (λ links. IsDepthOf links (Some c.in-Some.depth)) c.deref.ensures.value (subst (IsDepthOf c.deref.result.now) c.in-Some.is c.in_ok-depth.ensures) in
    deep c.args.rows.now c.in_ok-links.links.items c.in_ok-links.ensures.copy c.in-Some.depth c.if-depth-gt-MOST_CALLS.true is

pub returns : goal.returns
returns c =
    let is = subst (λ links. IsDepthOf links (Some c.in-Some.depth)) c.deref.ensures.value (subst (IsDepthOf c.deref.result.now) c.in-Some.is c.in_ok-depth.ensures) in
    shallow c.args.rows.now c.in_ok-links.links.items c.in_ok-links.ensures.copy c.in-Some.depth c.if-depth-gt-MOST_CALLS.false is

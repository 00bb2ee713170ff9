use Rattle.std.proofs.Common.{◌+◌, false, subst, sym, ap, ◌∙◌}
use Rattle.std.specs.List.{list_any}
use mathlib.Core.Bool.{beq}
use Rattle.pf_calls.specs.Numbered.{IsRound, next_round}
use Rattle.pf_calls.proofs.Rounds.{depth_found, over_more, round_more}
use Rattle.pf_calls.proofs.ranks.depth.Goals as goal

pub returns-then-not-contains : goal.returns-then-not-contains
returns-then-not-contains c =
    let more = round_more c.args.links.now c.loop-rank.rank c.loop-rank.within.items c.requires c.loop-rank.invariant.round in
    let next = subst (IsRound c.args.links.now (c.loop-rank.rank + 1)) (sym (c.in_ok-within-2.ensures ∙ ap (next_round c.args.links.now) c.deref.ensures.value)) more in
    let none = sym (ap (list_any (λ y. beq y false)) c.deref-in-loop-rank.ensures.value) ∙ sym c.contains.ensures.value ∙ c.if-not-contains.true in
    depth_found c.args.links.now c.loop-rank.rank c.in_ok-within-2.within.items next none c.loop-rank.invariant.over

pub loop-rank-preserved : goal.loop-rank-preserved
loop-rank-preserved c =
    let more = round_more c.args.links.now c.loop-rank.rank c.loop-rank.within.items c.requires c.loop-rank.invariant.round in
    let next = subst (IsRound c.args.links.now (c.loop-rank.rank + 1)) (sym (c.in_ok-within-2.ensures ∙ ap (next_round c.args.links.now) c.deref.ensures.value)) more in
    let some = sym (ap (list_any (λ y. beq y false)) c.deref-in-loop-rank.ensures.value) ∙ sym c.contains.ensures.value ∙ c.if-not-contains.false in
    record { round = next; over = over_more c.args.links.now c.loop-rank.rank c.in_ok-within-2.within.items next some c.loop-rank.invariant.over }

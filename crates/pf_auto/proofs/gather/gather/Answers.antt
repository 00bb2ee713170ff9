use Rattle.std.proofs.Common.{◌≡◌, get_or, take, sym, ap, ◌∙◌, arith}
use Rattle.std.specs.HashMap as hash
use Rattle.std.specs.List.{zip}
use Rattle.pf_auto.proofs.Gathering.{gathered_all, gathered_next, weight_fits}
use Rattle.pf_auto.specs.Beside.{besides, keyed}
use Rattle.pf_auto.specs.Ends.{beside}
use Rattle.pf_auto.specs.Groups.{after, gathered, weight_of}
use Rattle.pf_auto.specs.declared.group.Group.{Group}
use Rattle.std.proofs.Common.{Option}
use Rattle.pf_auto.proofs.gather.gather.Goals as goal

pub add-requires : goal.add-requires
add-requires c =
    let rule = c.index-rules-i.result in
    let key = beside c.args.end rule in
    let same : weight_of (hash.get besides.same c.loop-i.groups (keyed key)) ≡ weight_of (gathered c.args.end (take c.loop-i.i (zip c.args.rules.now c.args.weights.now)) key) = ap weight_of (c.loop-i.invariant key) in
    omega (arith, weight_fits c.args.end c.args.rules.now c.args.weights.now c.loop-i.i rule key c.requires.same c.loop-i-test.true c.index-rules-i.is, c.requires.few)

pub loop-i-preserved : goal.loop-i-preserved
loop-i-preserved c = λ key.
    c.in_ok-add.ensures key
    ∙ ap (λ (o : Option Group). after c.args.end c.loop-i.i (c.index-rules-i.result, get_or c.args.weights.now c.loop-i.i 0) key o) (c.loop-i.invariant key)
    ∙ sym (gathered_next c.args.end c.args.rules.now c.args.weights.now c.loop-i.i c.index-rules-i.result key c.requires.same c.loop-i-test.true c.index-rules-i.is)

pub returns : goal.returns
returns c = λ key.
    c.loop-i.invariant key
    ∙ gathered_all c.args.end c.args.rules.now c.args.weights.now c.loop-i.i key c.requires.same c.loop-i-test.false

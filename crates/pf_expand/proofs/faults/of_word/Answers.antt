use Rattle.std.proofs.Common.{◌≡◌, ◌<◌, length, true, false, sym, ◌∙◌, arith}
use Rattle.pf_expand.specs.Faults.{is_of}
use Rattle.pf_expand.proofs.Loops.{found_at, none_yet}
use Rattle.pf_expand.proofs.faults.of_word.Goals as goal

pub returns-then-is_of : goal.returns-then-is_of
returns-then-is_of c =
    let low : c.loop-fault.fault-index < length c.args.faults.now = omega arith in
    sym (found_at (is_of c.args.kind) c.args.faults.now c.loop-fault.fault-index c.fault-item.result low c.fault-item.is c.loop-fault.invariant (sym c.is_of.ensures ∙ c.if-is_of.true))

pub loop-fault-preserved : goal.loop-fault-preserved
loop-fault-preserved c =
    let low : c.loop-fault.fault-index < length c.args.faults.now = omega arith in
    none_yet (is_of c.args.kind) c.args.faults.now c.loop-fault.fault-index c.fault-item.result low c.fault-item.is c.loop-fault.invariant (sym c.is_of.ensures ∙ c.if-is_of.false)

use Rattle.std.proofs.Common.{◌≡◌, ◌∙◌, ◌∷◌, [], Ok, Err, ap, refl, sym}
use Rattle.std.proofs.Common.{OnOk, Result}
use Rattle.pf_base.specs.declared.fault.FaultKind.{FaultKind}
use Rattle.pf_word.specs.Hosts.{EndsMean, RangeMeans}
use Rattle.pf_word.specs.Words.{Adds, failed, joined}
use Rattle.pf_word.proofs.Adding.{adds_ok, failed_twice, on_ok}
use Rattle.pf_word.proofs.item.add_ends.Goals as goal

pub returns-in-Ok-Ok : goal.returns-in-Ok-Ok
returns-in-Ok-Ok c = rw (c.in-Ok-Ok.is-0, c.in-Ok-Ok.is-1) c.add_between.ensures

pub returns-in-Ok-Err : goal.returns-in-Ok-Err
returns-in-Ok-Err c =
    adds_ok c.fail.result (EndsMean c.args.low.now c.args.negated c.args.first c.args.last) c.args.words.now c.fail.new.self (failed c.in-Ok-Err.fault)
    (rw (c.in-Ok-Err.is-0, c.in-Ok-Err.is-1) refl) c.fail.ensures

pub returns-in-Err-Ok : goal.returns-in-Err-Ok
returns-in-Err-Ok c =
    adds_ok c.fail-in-Err-Ok.result (EndsMean c.args.low.now c.args.negated c.args.first c.args.last) c.args.words.now c.fail-in-Err-Ok.new.self (failed c.in-Err-Ok.fault)
    (rw (c.in-Err-Ok.is-0, c.in-Err-Ok.is-1) refl) c.fail-in-Err-Ok.ensures

pub returns-in_ok-fail-in-Err-Err : goal.returns-in_ok-fail-in-Err-Err
returns-in_ok-fail-in-Err-Err c =
    let first = c.in-Err-Err.fault in
    let second = c.in-Err-Err.second in
    let new = c.fail-in-Err-Err-2.new.self in
    adds_ok c.fail-in-Err-Err-2.result (EndsMean c.args.low.now c.args.negated c.args.first c.args.last) c.args.words.now new (record { values = []; faults = first ∷ second ∷ [] })
    (rw (c.in-Err-Err.is-0, c.in-Err-Err.is-1) refl)
    (on_ok c.fail-in-Err-Err-2.result _ _ (failed_twice c.args.words.now c.fail-in-Err-Err.new.self new first second c.in_ok-fail-in-Err-Err.ensures) c.fail-in-Err-Err-2.ensures)

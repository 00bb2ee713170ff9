use Rattle.std.proofs.Common.{◌≡◌, ◌++◌, ◌<◌, true, length, take, filter, sym, ap, ◌∙◌, arith}
use Rattle.std.specs.List.{flat_map}
use Rattle.pf_host.specs.Queries.{is_meant}
use Rattle.pf_combine.specs.Antispoof.{of_iface}
use Rattle.pf_combine.proofs.Combined.{added_within}
use Rattle.pf_combine.proofs.Loops.{flat_one}
use Rattle.pf_combine.proofs.antispoof.add_name.Goals as goal

pub loop-iface-preserved : goal.loop-iface-preserved
loop-iface-preserved c =
    let iface = c.iface-item.result in
    let ifaces = c.interfaces-iface-items.result.now in
    let low : c.loop-iface.iface-index < length ifaces = omega arith in
    let keeps = is_meant c.args.facts.now c.args.name.now in
    let give = of_iface c.args.facts.now c.args.written c.args.start.now in
    let kept : is_meant c.args.facts.now c.args.name.now iface ≡ true = cc (c.if-not-is_meant.false, c.is_meant.ensures) in
    added_within c.args.room c.args.found.now (flat_map give (filter keeps (take c.loop-iface.iface-index ifaces))) (give iface) c.loop-iface.found c.add_iface.new.found c.loop-iface.invariant c.in_ok-add_iface.ensures
    ∙ ap (λ x. take c.args.room (c.args.found.now ++ x)) (sym (flat_one keeps give ifaces c.loop-iface.iface-index iface low c.iface-item.is kept))

use Rattle.std.proofs.Common.{◌≡◌, ◌∙◌, ◌++◌, ◌<◌, length, [], Ok, Err, ap, refl, sym, arith}
use Rattle.pf_word.specs.Hosts.{HostMeans}
use Rattle.pf_word.proofs.Readings.{each_more}
use Rattle.pf_word.proofs.item.read_hosts.Goals as goal

pub loop-item-preserved : goal.loop-item-preserved
loop-item-preserved c =
    let low : c.loop-item.item-index < length c.args.items.now = omega arith in
    each_more (HostMeans c.args.facts.now) c.args.items.now c.loop-item.item-index c.item-item.result c.loop-item.words c.add_host.new.words low c.item-item.is
    c.loop-item.invariant c.in_ok-add_host.ensures

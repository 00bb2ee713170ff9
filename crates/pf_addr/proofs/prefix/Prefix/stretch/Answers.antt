use Rattle.std.proofs.Common.{◌+◌, ◌^◌, ◌<◌, arith}
use Rattle.pf_addr.specs.Addr.{family_of}
use Rattle.pf_addr.proofs.Stretches.{below_most, prefix_stretch-contains, prefix_stretch-kept}
use Rattle.pf_addr.proofs.prefix.Prefix.stretch.Goals as goal

pub overflow_add-result : goal.overflow_add-result
overflow_add-result c =
    let below : c.number-low.result + c.host_mask.result < 2 ^ 128 =
    rw (c.number-low.ensures.value, c.host_mask.ensures, c.width.ensures)
    (below_most (family_of c.args.self.now.addr) _ (prefix_stretch-kept c.args.self.now c.number-low.ensures.range).fits) in
    omega arith

pub returns-clause-kept : goal.returns-clause-kept
returns-clause-kept c =
    rw (c.family.ensures, c.number-low.ensures.value, c.host_mask.ensures, c.width.ensures)
    (prefix_stretch-kept c.args.self.now c.number-low.ensures.range)

pub returns-clause-same : goal.returns-clause-same
returns-clause-same c addr =
    rw (c.family.ensures, c.number-low.ensures.value, c.host_mask.ensures, c.width.ensures)
    (prefix_stretch-contains c.args.self.now addr)

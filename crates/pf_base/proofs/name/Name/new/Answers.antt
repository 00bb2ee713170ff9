use Rattle.std.proofs.Common.{◌≤◌, length, arith, rules}
use Rattle.pf_base.specs.Padding.{IsPadded-made}
use Rattle.pf_base.proofs.name.Name.new.Goals as goal

-- the bytes lie in front of the zeros
pub invariant_of-result : goal.invariant_of-result
invariant_of-result c =
    let fits : length c.args.bytes.now ≤ 63 = omega arith in
    let some : 1 ≤ length c.args.bytes.now = search rules in
    (rw c.copy_from_slice.ensures.after (IsPadded-made 0 63 c.args.bytes.now fits), some)

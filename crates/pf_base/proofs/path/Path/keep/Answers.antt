use Rattle.std.proofs.Common.{arith, ap, length}
use Rattle.pf_base.proofs.Paths.{take-full}
use Rattle.pf_base.proofs.path.Path.keep.Goals as goal

pub returns-else-names-lt-MOST : goal.returns-else-names-lt-MOST
returns-else-names-lt-MOST c =
    let same = ap length c.names.ensures.same in
    take-full c.args.self.now _ c.names.ensures.path.few (omega arith)

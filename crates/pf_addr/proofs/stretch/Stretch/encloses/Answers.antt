use Rattle.pf_addr.proofs.Stretches.{encloses-all}
use Rattle.pf_addr.proofs.stretch.Stretch.encloses.Goals as goal

pub returns-clause-all : goal.returns-clause-all
returns-clause-all c self other = rw c.spans.ensures (encloses-all c.args.self.now c.args.other.now other)

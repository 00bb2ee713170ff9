use Rattle.pf_host.proofs.Kept.{listed_last}
use Rattle.pf_host.proofs.names.Names.keep.Goals as goal

pub returns-clause-kept : goal.returns-clause-kept
returns-clause-kept c = listed_last c.push.result c.args.self.now c.push.new.self c.args.name c.push.ensures.ok

use Rattle.pf_host.proofs.Kept.{name_kept}
use Rattle.pf_host.proofs.names.Names.push.Goals as goal

pub invariant_of-self-in-Ok : goal.invariant_of-self-in-Ok
invariant_of-self-in-Ok c = rw c.in_ok-push.ensures.items (name_kept c.self.inside.known.keys c.insert.new.self.keys c.self.inside.list.items c.args.name c.in-Ok.ensures.updates.0 c.self.invariant)

use Rattle.pf_host.specs.Facts.{facts_in}
use Rattle.pf_host.proofs.Causes.{host_sound}
use Rattle.pf_host.proofs.Said.{host_said}
use Rattle.pf_host.proofs.lists.Lists.add_host.Goals as goal

pub returns : goal.returns
returns c before said = record {
  sound = host_sound before c.args.name c.args.word.now c.in-Ok.addr c.in-Ok.ensures.found;
  said = host_said before (facts_in c.args.self.now) c.args.name c.args.word.now c.in-Ok.addr c.push.new.self said c.in-Ok.ensures.found c.in_ok-push.ensures.ok;
}

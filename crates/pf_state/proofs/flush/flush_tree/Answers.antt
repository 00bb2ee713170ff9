use Rattle.pf_state.proofs.Putting.{flush_steps}
use Rattle.pf_state.proofs.flush.flush_tree.Goals as goal

pub returns : goal.returns
returns c =
    flush_steps c.args.tree.now.payloads c.clear_under.new.self.payloads c.install.new.self.payloads c.install-2.new.self.payloads c.args.path.now c.install.new.payload c.new.result _
    c.clear_under.ensures.payloads c.install.ensures.payloads c.install.ensures.swapped c.new.ensures c.install-2.ensures.payloads

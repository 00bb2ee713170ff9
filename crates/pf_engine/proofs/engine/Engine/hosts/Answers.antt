use Rattle.std.proofs.Common.{◌≡◌, subst}
use Rattle.std.specs.Prelude.{IfOk}
use Rattle.pf_state.specs.declared.machine.Machine.{Machine}
use Rattle.pf_engine.specs.Answering.{Adds, DoesSo, is_refused}
use Rattle.pf_engine.specs.FilesRead.{read_as}
use Rattle.pf_engine.specs.HostLines.{with_facts}
use Rattle.pf_engine.proofs.FactsTaken.{hosts_answers, hosts_asks, hosts_fails, hosts_refused, hosts_whatever}
use Rattle.pf_engine.proofs.engine.Engine.hosts.Goals as goal

pub returns-clause-answers : goal.returns-clause-answers
returns-clause-answers g c =
    hosts_answers c.args.self.now c.take_facts.new.machine c.args.file (read_as c.in_ok-read.read) (g.F.Files.tells c.args.files.now) (g.F.Files.tells c.facts_of.new.files) c.args.out.now.items c.take_facts.new.out.items c.take_facts.result
    c.in_ok-read.ensures.means c.in_ok-read.ensures.asks
    (subst (λ (m : Machine). IfOk c.take_facts.result (λ outcome. Adds c.args.out.now.items c.take_facts.new.out.items (λ bytes. DoesSo (λ does. does ≡ with_facts m (read_as c.in_ok-read.read)) c.take_facts.new.machine bytes (is_refused outcome)))) c.self.view_is c.take_facts.ensures.answers)

pub returns-clause-whatever : goal.returns-clause-whatever
returns-clause-whatever g c =
    hosts_whatever c.args.self.now c.take_facts.new.machine c.args.file (read_as c.in_ok-read.read) (g.F.Files.tells c.args.files.now) (g.F.Files.tells c.facts_of.new.files) c.args.out.now.items c.take_facts.new.out.items c.take_facts.result
    c.in_ok-read.ensures.comes
    (subst (λ (m : Machine). IfOk c.take_facts.result (λ outcome. Adds c.args.out.now.items c.take_facts.new.out.items (λ bytes. DoesSo (λ does. does ≡ with_facts m (read_as c.in_ok-read.read)) c.take_facts.new.machine bytes (is_refused outcome)))) c.self.view_is c.take_facts.ensures.answers)

pub returns-clause-asks : goal.returns-clause-asks
returns-clause-asks g c =
    hosts_asks c.args.self.now c.take_facts.new.machine c.args.file (read_as c.in_ok-read.read) (g.F.Files.tells c.args.files.now) (g.F.Files.tells c.facts_of.new.files) c.args.out.now.items c.take_facts.new.out.items c.take_facts.result
    c.in_ok-read.ensures.asks
    (subst (λ (m : Machine). IfOk c.take_facts.result (λ outcome. Adds c.args.out.now.items c.take_facts.new.out.items (λ bytes. DoesSo (λ does. does ≡ with_facts m (read_as c.in_ok-read.read)) c.take_facts.new.machine bytes (is_refused outcome)))) c.self.view_is c.take_facts.ensures.answers)

pub returns-clause-refused : goal.returns-clause-refused
returns-clause-refused g c =
    hosts_refused c.args.self.now c.take_facts.new.machine c.args.file (read_as c.in_ok-read.read) (g.F.Files.tells c.args.files.now) (g.F.Files.tells c.facts_of.new.files) c.args.out.now.items c.take_facts.new.out.items c.take_facts.result
    (subst (λ (m : Machine). IfOk c.take_facts.result (λ outcome. Adds c.args.out.now.items c.take_facts.new.out.items (λ bytes. DoesSo (λ does. does ≡ with_facts m (read_as c.in_ok-read.read)) c.take_facts.new.machine bytes (is_refused outcome)))) c.self.view_is c.take_facts.ensures.answers)

pub returns-clause-fails : goal.returns-clause-fails
returns-clause-fails g c = hosts_fails (read_as c.in_ok-read.read) (g.F.Files.tells c.args.files.now) (g.F.Files.tells c.facts_of.new.files) c.take_facts.result c.in_ok-read.ensures.asks

use Rattle.std.proofs.Common.{◌≡◌, ◌∙◌, ◌++◌, ◌<◌, length, [], Ok, Err, ap, refl, sym, arith}
use Rattle.pf_rule.specs.declared.criteria.AddrSet.TheVariants as sets
use Rattle.pf_rule.specs.declared.criteria.AddrTest.TheVariants as tests
use Rattle.pf_word.specs.Hosts.{HostMeans}
use Rattle.pf_word.specs.Words.{found}
use Rattle.pf_word.proofs.Adding.{adds_ok}
use Rattle.pf_word.proofs.item.add_host.Goals as goal

pub returns-in-Any : goal.returns-in-Any
returns-in-Any c =
    adds_ok c.find.result (HostMeans c.args.facts.now c.args.item.now) c.args.words.now c.find.new.self (found tests.Any) (rw c.in-Any.is refl) c.find.ensures

pub returns-in-Table : goal.returns-in-Table
returns-in-Table c =
    adds_ok c.find-in-Table.result (HostMeans c.args.facts.now c.args.item.now) c.args.words.now c.find-in-Table.new.self
    (found (tests.Test c.args.item.now.negated (sets.Table c.in-Table.name)))
    (rw c.in-Table.is refl) c.find-in-Table.ensures

use Rattle.std.proofs.Common.{◌≡◌, ℕ, List, true, length, ap, ◌∙◌, arith}
use Rattle.std.specs.Prelude.{◌==◌}
use Rattle.std.specs.FinMap as fin
use Rattle.std.specs.FinSet.{FinSet}
use Rattle.pf_tree.specs.Meaning.{is_prepared, put_payload, shown}
use Rattle.pf_tree.specs.Order.{path_cmp}
use Rattle.pf_state.proofs.Giving.{given_all, given_on}
use Rattle.pf_state.proofs.Lists.{each_of}
use Rattle.pf_state.proofs.commit.give_all.Goals as goal

pub install-requires : goal.install-requires
install-requires c =
    ap (λ (s : FinSet path_cmp). fin.contains_key s c.path-item.result) c.loop-path.invariant.prepared
    ∙ each_of (λ path. is_prepared c.args.tickets.now path) c.args.paths.now c.loop-path.path-index c.path-item.result c.requires.prepared c.loop-path-test.true c.path-item.is

pub loop-path-preserved : goal.loop-path-preserved
loop-path-preserved c = record {
  payloads = given_on c.args.paths.now c.loop-path.path-index c.args.number c.path-item.result c.loop-path.tickets.payloads c.install.new.self.payloads c.args.tickets.now.payloads
      c.requires.drawn c.loop-path-test.true c.path-item.is
      (c.install.ensures.payloads ∙ ap (λ (n : ℕ). put_payload c.loop-path.tickets.payloads c.path-item.result (shown (λ ticket. ticket == 0) n)) c.new-ticket.ensures) c.loop-path.invariant.payloads;
  prepared = c.install.ensures.prepared ∙ c.loop-path.invariant.prepared;
}

pub returns-clause-payloads : goal.returns-clause-payloads
returns-clause-payloads c = given_all c.args.paths.now c.loop-path.path-index c.args.number c.loop-path.tickets.payloads c.args.tickets.now.payloads (omega arith) c.loop-path.invariant.payloads

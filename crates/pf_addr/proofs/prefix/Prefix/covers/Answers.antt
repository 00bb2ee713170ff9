use Rattle.std.proofs.Common.{sym, ◌∙◌}
use Rattle.pf_addr.proofs.Cover.{covers_by_len}
use Rattle.pf_addr.proofs.prefix.Prefix.covers.Goals as goal

pub returns-then-contains-clause-all : goal.returns-then-contains-clause-all
returns-then-contains-clause-all c =
    covers_by_len c.args.self.now c.args.other.now c.contains.ensures.range (sym c.contains.ensures.value ∙ c.if-contains.true)

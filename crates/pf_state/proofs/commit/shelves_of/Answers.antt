use Rattle.std.proofs.Common.{◌≡◌, ℕ, List, length, arith}
use Rattle.pf_state.specs.Commits.{shelf_of}
use Rattle.pf_state.proofs.Lists.{mapped_all, mapped_on}
use Rattle.pf_state.proofs.commit.shelves_of.Goals as goal

pub loop-part-preserved : goal.loop-part-preserved
loop-part-preserved c =
    mapped_on (shelf_of c.args.rulesets.now) c.args.parts.now c.loop-part.part-index c.part-item.result c.loop-part.shelves.items c.push.new.self.items c.in_ok-shelf_of.field-0
    c.loop-part-test.true c.part-item.is c.in_ok-shelf_of.ensures c.in_ok-push.ensures.items c.loop-part.invariant

pub returns : goal.returns
returns c = mapped_all (shelf_of c.args.rulesets.now) c.args.parts.now c.loop-part.part-index c.loop-part.shelves.items (omega arith) c.loop-part.invariant

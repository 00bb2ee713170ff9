use Rattle.std.proofs.Common.{◌≡◌, ℕ, List, length, refl, arith}
use Rattle.pf_state.specs.declared.ready.Staged.{Staged}
use Rattle.pf_state.proofs.Lists.{mapped_all, mapped_on}
use Rattle.pf_state.proofs.commit.paths_of.Goals as goal

abbrev path_of : Staged → List (List ℕ)
path_of part = part.path

pub loop-part-preserved : goal.loop-part-preserved
loop-part-preserved c =
    mapped_on path_of c.args.parts.now c.loop-part.part-index c.part-item.result c.loop-part.paths.items c.push.new.self.items _
    c.loop-part-test.true c.part-item.is refl c.in_ok-push.ensures.items c.loop-part.invariant

pub returns : goal.returns
returns c = mapped_all path_of c.args.parts.now c.loop-part.part-index c.loop-part.paths.items (omega arith) c.loop-part.invariant

use Rattle.std.proofs.Common.{subst}
use Rattle.pf_state.specs.Sound.{AreSound}
use Rattle.pf_state.proofs.staging.stage_parts.Goals as goal

pub stage_part-requires : goal.stage_part-requires
stage_part-requires c = (subst AreSound c.in-Some.ensures.steps.0 c.loop-part.invariant.sound).0

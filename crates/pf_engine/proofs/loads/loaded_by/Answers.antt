use Rattle.pf_engine.proofs.Sound.{few_ready, plan_sound}
use Rattle.pf_engine.proofs.loads.loaded_by.Goals as goal

pub stage-requires : goal.stage-requires
stage-requires g c = plan_sound c.in-Ok.plan c.in-Ok.ensures.fit

pub returns-in_ok-stage-in-Ok-clause-comes : goal.returns-in_ok-stage-in-Ok-clause-comes
returns-in_ok-stage-in-Ok-clause-comes g c = few_ready c.args.profile.now c.in-Ok.plan _ c.in-Ok.ensures.fit c.in_ok-stage-in-Ok.ensures

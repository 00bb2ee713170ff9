use Rattle.std.proofs.Common.{◌<◌, true, length, ap, arith}
use Rattle.pf_base.specs.Padding.{length_front}
use Rattle.pf_base.specs.PathKept.{no_name}
use Rattle.pf_base.specs.Path.{is_written_name}
use Rattle.pf_base.proofs.Paths.{IsPadded-set, all_more}
use Rattle.pf_base.proofs.path.Path.push.Goals as goal

-- there is room, since the view has as many names as are counted
pub invariant_of-self : goal.invariant_of-self
invariant_of-self c =
    let kept = c.self.invariant.0 in
    let counted = length_front no_name 8 c.self.inside.names c.self.inside.count kept in
    let seen = ap length c.self.view_is in
    let long = kept.long in
    let room : c.self.inside.count < 8 = omega (arith, c.requires.few) in (
      IsPadded-set no_name 8 c.self.inside.names c.self.inside.count c.args.name.now kept room,
      all_more (is_written_name true) c.self.inside.names c.self.inside.count c.args.name.now (omega arith) c.self.invariant.1 c.requires.named,
    )

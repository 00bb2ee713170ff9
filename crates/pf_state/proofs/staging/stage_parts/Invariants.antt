use Rattle.std.proofs.Common.{◌≡◌, ◌++◌, map}
use Rattle.std.specs.Vec.Iter.{into_iter_items}
use Rattle.pf_state.specs.Commits.{staged_of}
use Rattle.pf_state.specs.Sound.{AreSound}
use Rattle.pf_state.proofs.staging.stage_parts.Given as goal

abbrev pub invariant-loop-part : goal.invariant-loop-part
invariant-loop-part l = record {
  sound : AreSound (into_iter_items l.part-iterator);
  left : l.staged ++ map (staged_of l.level l.profile) (into_iter_items l.part-iterator) ≡ map (staged_of l.level l.profile) l.fn.parts;
}

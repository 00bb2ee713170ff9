use Rattle.std.proofs.Common.{◌≡◌, ◌<◌, ◌-◌, length, get_or, arith}
use Rattle.std.proofs.lemmas.List.{get_or_default}
use Rattle.pf_cover.proofs.Searching.{jump_over}
use Rattle.pf_cover.specs.declared.corner.Corner.{Corner}
use Rattle.pf_cover.proofs.search.passed.Goals as goal

pub loop-left-preserved : goal.loop-left-preserved
loop-left-preserved c =
    let corners = c.args.corners.now in
    let left = c.loop-left.left in
    let zero : Corner = record { low = 0; depth = 0; place = 0 } in
    let one : Corner = get_or corners (left - 1) zero in
    let behind : left - 1 < length c.args.jumps.now = omega (arith, c.loop-left-test.true, c.loop-left.invariant.down, c.requires.within) in
    let inside : left - 1 < length corners = omega (arith, behind, c.requires.jumps.few) in
    let is : one ≡ get_or corners (left - 1) one = get_or_default corners (left - 1) zero one inside in
    record {
      down = omega (arith, c.requires.jumps.down (left - 1) behind, c.loop-left.invariant.down);
      over = jump_over corners c.args.jumps.now c.args.depth left c.args.end one c.requires.jumps c.loop-left.invariant.down c.requires.within c.loop-left-test.true is c.if-corners-left.true c.loop-left.invariant.over;
    }

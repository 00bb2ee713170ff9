use Rattle.std.proofs.Common.{◌≡◌, ◌≤◌, ◌<◌, ℕ, List, [], ◌∷◌, ◌++◌, length, get_or, sym, ap, ◌∙◌, subst, arith}
use Rattle.std.proofs.lemmas.List.{get_or_default, length-append}
use Rattle.pf_cover.proofs.Searching.{jumps_more, no_jumps}
use Rattle.pf_cover.specs.Search.{AreDeeper, AreJumps}
use Rattle.pf_cover.specs.declared.corner.Corner.{Corner}
use Rattle.pf_cover.proofs.search.jumps.Goals as goal

pub loop-i-init : goal.loop-i-init
loop-i-init c = record {
  jumps = subst (λ (t : List ℕ). AreJumps c.args.corners.now t) (sym c.new-jumps.ensures.items) (no_jumps c.args.corners.now);
  each = ap length c.new-jumps.ensures.items;
}

pub loop-i-preserved : goal.loop-i-preserved
loop-i-preserved c =
    let corners = c.args.corners.now in
    let jumps = c.loop-i.jumps.items in
    let i = c.loop-i.i in
    let jump = c.passed-jump.result in
    let zero : Corner = record { low = 0; depth = 0; place = 0 } in
    let one : Corner = get_or corners i zero in
    let e : length jumps ≡ i = c.loop-i.invariant.each in
    let inside : length jumps < length corners = omega (arith, e, c.loop-i-test.true) in
    let is : one ≡ get_or corners (length jumps) one = get_or_default corners i zero one c.loop-i-test.true ∙ ap (λ (n : ℕ). get_or corners n one) (sym e) in
    let down : jump ≤ length jumps = omega (arith, e, c.passed-jump.ensures.down) in
    let size : length c.push.new.self.items ≡ length (jumps ++ jump ∷ []) = ap length c.in_ok-push.ensures.items in
    record {
      jumps =
          subst (λ (t : List ℕ). AreJumps corners t) (sym c.in_ok-push.ensures.items)
          (jumps_more corners jumps jump one c.loop-i.invariant.jumps inside is down
          (subst (λ (n : ℕ). AreDeeper corners one.depth jump n) (sym e) c.passed-jump.ensures.over));
      each = omega (arith, size, length-append jumps (jump ∷ []), e);
    }

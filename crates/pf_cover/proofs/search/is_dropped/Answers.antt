use Rattle.std.proofs.Common.{◌≡◌, ◌<◌, ◌-◌, ℕ, inl, inr, length, get_or, sym, ap, ◌∙◌, arith}
use Rattle.std.proofs.lemmas.Bool.{cases_lt}
use Rattle.std.proofs.lemmas.List.{get_or_default}
use Rattle.pf_cover.proofs.Corners.{each_corner}
use Rattle.pf_cover.proofs.Searching.{found_dropped, higher_none, none_dropped}
use Rattle.pf_cover.specs.Search.{corner_drops}
use Rattle.pf_cover.specs.declared.corner.Corner.{Corner}
use Rattle.pf_cover.proofs.search.is_dropped.Goals as goal

pub corner_drops-requires : goal.corner_drops-requires
corner_drops-requires c =
    let zero : Corner = record { low = 0; depth = 0; place = 0 } in
    let inside : c.loop-left.left - 1 < length c.args.corners.now = omega (arith, c.loop-left-test.true, c.loop-left.invariant.within, c.requires.each) in
    (each_corner c.args.axis c.args.rules.now c.args.rule.now c.args.corners.now c.requires.corners (c.loop-left.left - 1) zero inside).inside

pub loop-left-init : goal.loop-left-init
loop-left-init c =
    let none = higher_none c.args.axis c.args.rules.now c.args.corners.now c.args.place c.args.rule.now c.corner_at-own.result c.requires.corners c.corner_at-own.ensures in
    record {
      within = omega (arith, c.passed-left.ensures.down, c.end_of-end.ensures.within, c.requires.each);
      none = λ i d low inside. elim (cases_lt i c.end_of-end.result) [
        | inl e ↦ none i d inside (inr (c.passed-left.ensures.over i d low e))
        | inr e ↦ none i d inside (inl (c.end_of-end.ensures.above i d e inside))
      ];
    }

pub loop-left-preserved : goal.loop-left-preserved
loop-left-preserved c =
    let corners = c.args.corners.now in
    let left = c.loop-left.left in
    let zero : Corner = record { low = 0; depth = 0; place = 0 } in
    let none = higher_none c.args.axis c.args.rules.now corners c.args.place c.args.rule.now c.corner_at-own.result c.requires.corners c.corner_at-own.ensures in
    record {
      within = omega (arith, c.passed-left-in-loop-left.ensures.down, c.loop-left.invariant.within);
      none = λ i d low inside. elim (cases_lt i (left - 1)) [
        | inl e ↦ none i d inside (inr (c.passed-left-in-loop-left.ensures.over i d low e))
        | inr e ↦ elim (cases_lt i left) [
          | inl h ↦
              let at : i ≡ left - 1 = omega arith in
              ap (corner_drops c.args.rules.now (c.args.place, c.args.rule.now)) (get_or_default corners i d zero inside ∙ ap (λ (n : ℕ). get_or corners n zero) at)
              ∙ sym c.if-corner_drops.ensures
          | inr h ↦ c.loop-left.invariant.none i d h inside
        ]
      ];
    }

pub returns-then-corner_drops : goal.returns-then-corner_drops
returns-then-corner_drops c =
    let zero : Corner = record { low = 0; depth = 0; place = 0 } in
    let inside : c.loop-left.left - 1 < length c.args.corners.now = omega (arith, c.loop-left-test.true, c.loop-left.invariant.within, c.requires.each) in
    sym (found_dropped c.args.axis c.args.rules.now c.args.corners.now c.args.place c.args.rule.now (c.loop-left.left - 1) zero c.requires.corners inside (sym c.if-corner_drops.ensures))

pub returns : goal.returns
returns c =
    sym (none_dropped c.args.axis c.args.rules.now c.args.corners.now c.args.place c.args.rule.now c.requires.corners
    (λ i d low inside. c.loop-left.invariant.none i d (omega (arith, c.loop-left-test.false)) inside))

use Rattle.std.proofs.Common.{◌≡◌, ◌<◌, ◌≤◌, ◌-◌, ℕ, true, inl, inr, length, get_or, sym, ap, ◌∙◌, subst, arith}
use Rattle.std.proofs.lemmas.Bool.{cases_lt, false≢true}
use Rattle.std.proofs.lemmas.List.{get_or_default}
use Rattle.pf_cover.proofs.Corners.{each_corner}
use Rattle.pf_cover.proofs.Searching.{first_is, higher_covers_none}
use Rattle.pf_cover.specs.Search.{covering}
use Rattle.pf_cover.specs.declared.corner.Corner.{Corner}
use Rattle.pf_cover.proofs.search.first_among.Goals as goal

pub earlier-first-requires : goal.earlier-first-requires
earlier-first-requires c =
    let zero : Corner = record { low = 0; depth = 0; place = 0 } in
    let inside : c.loop-left.left - 1 < length c.args.corners.now = omega (arith, c.loop-left-test.true, c.loop-left.invariant.within, c.requires.each) in
    (each_corner c.args.axis c.args.rules.now c.args.rule.now c.args.corners.now c.requires.corners (c.loop-left.left - 1) zero inside).inside

pub loop-left-init : goal.loop-left-init
loop-left-init c =
    let none = higher_covers_none c.args.axis c.args.rules.now c.args.corners.now 0 c.args.rule.now c.corner_at-own.result c.requires.corners c.corner_at-own.ensures in
    record {
      within = omega (arith, c.passed-left.ensures.down, c.end_of-end.ensures.within, c.requires.each);
      most = omega arith;
      is = λ h. absurd (omega arith);
      none = λ i d low inside h. elim (cases_lt i c.end_of-end.result) [
        | inl e ↦ absurd (false≢true (sym (none i d inside (inr (c.passed-left.ensures.over i d low e))) ∙ h))
        | inr e ↦ absurd (false≢true (sym (none i d inside (inl (c.end_of-end.ensures.above i d e inside))) ∙ h))
      ];
    }

pub loop-left-preserved : goal.loop-left-preserved
loop-left-preserved c =
    let rules = c.args.rules.now in
    let rule = c.args.rule.now in
    let corners = c.args.corners.now in
    let left = c.loop-left.left in
    let first = c.earlier-first.result in
    let zero : Corner = record { low = 0; depth = 0; place = 0 } in
    let none = higher_covers_none c.args.axis rules corners 0 rule c.corner_at-own.result c.requires.corners c.corner_at-own.ensures in
    record {
      within = omega (arith, c.passed-left-in-loop-left.ensures.down, c.loop-left.invariant.within);
      most = omega (arith, c.earlier-first.ensures.within, c.loop-left.invariant.most);
      is = λ less. elim c.earlier-first.ensures.is [
        | inl e ↦ subst (λ (n : ℕ). covering rule (get_or rules n rule) ≡ true) (sym e) (c.loop-left.invariant.is (omega arith))
        | inr p ↦ subst (λ (n : ℕ). covering rule (get_or rules n rule) ≡ true) (sym p.0) p.1
      ];
      none = λ i d low inside h. elim (cases_lt i (left - 1)) [
        | inl e ↦ absurd (false≢true (sym (none i d inside (inr (c.passed-left-in-loop-left.ensures.over i d low e))) ∙ h))
        | inr e ↦ elim (cases_lt i left) [
          | inl k ↦
              let at : i ≡ left - 1 = omega arith in
              let same : get_or corners i d ≡ get_or corners (left - 1) zero = get_or_default corners i d zero inside ∙ ap (λ (n : ℕ). get_or corners n zero) at in
              let here = c.earlier-first.ensures.here (subst (λ (t : Corner). covering rule (get_or rules t.place rule) ≡ true) same h) in
              subst (λ (t : Corner). first ≤ t.place) (sym same) here
          | inr k ↦
              let before : c.loop-left.first ≤ (get_or corners i d).place = c.loop-left.invariant.none i d k inside h in
              omega (arith, c.earlier-first.ensures.within)
        ]
      ];
    }

pub returns : goal.returns
returns c =
    sym (first_is c.args.axis c.args.rules.now c.args.corners.now c.args.rule.now c.loop-left.first c.requires.corners c.loop-left.invariant.most c.loop-left.invariant.is
    (λ i d inside. c.loop-left.invariant.none i d (omega (arith, c.loop-left-test.false)) inside))

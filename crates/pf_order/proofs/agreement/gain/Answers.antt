use Rattle.std.proofs.Common.{◌≡◌, ℕ, List, ◌+◌, ◌-◌, ◌<◌, length, drop, sym, ap, ◌∙◌, arith}
use Rattle.pf_order.specs.Order.{first_agreements, gain}
use Rattle.pf_rule.specs.declared.rule.Rule.{Rule}
use Rattle.pf_order.proofs.Gaining.{from_place, gain_step, to_end}
use Rattle.pf_order.proofs.agreement.gain.Goals as goal

pub loop-place-preserved : goal.loop-place-preserved
loop-place-preserved c =
    let rules = c.args.rules.now in
    let p = c.loop-place.place - 1 in
    let rule = c.index-rules-place.result in
    let inside : p < length rules = omega arith in
    let next : p + 1 ≡ c.loop-place.place = omega arith in
    let at = from_place rules p rule inside c.index-rules-place.is in
    let whole : gain (drop p rules) ≡ first_agreements rule (drop (p + 1) rules) + gain (drop (p + 1) rules) = ap gain at ∙ gain_step rule (drop (p + 1) rules) in
    let rest : gain (drop (p + 1) rules) ≡ c.loop-place.total = ap (λ (n : ℕ). gain (drop n rules)) next ∙ sym c.loop-place.invariant.found in
    let told : c.first_agreements-total.result ≡ first_agreements rule (drop (p + 1) rules) =
    c.first_agreements-total.ensures.value ∙ ap (λ (t : List Rule). first_agreements rule t) (to_end rules (p + 1)) in
    record { within = omega arith; found = omega arith; fits = omega (arith, c.first_agreements-total.ensures.most) }

use Rattle.std.proofs.Common.{◌≡◌, ◌≤◌, ◌<◌, ◌*◌, ◌^◌, ℕ, List, length, sym, ap, subst, ◌∙◌, arith}
use Rattle.std.specs.List.{All, sum}
use Rattle.std.proofs.lemmas.List.Sums.{sum_by-le}
use Rattle.pf_state.proofs.staging.stage_part.Goals as goal

-- so few weights, each of 32 bits, don't come to much
light : (weights : List ℕ) → length weights ≤ 16384 → All (λ weight. weight ≤ 4294967295) weights → sum weights < 2 ^ 60
light weights few small =
    let most : sum weights ≤ length weights * 4294967295 = sum_by-le (λ weight. weight) 4294967295 weights small in
    omega (arith, most, few)

pub optimise-requires-clause-light : goal.optimise-requires-clause-light
optimise-requires-clause-light c =
    let each = c.in_ok-weights.ensures.each in
    let count = ap length c.items.ensures in
    let few = c.requires.few in
    subst (λ (weights : List ℕ). sum weights < 2 ^ 60) (sym c.deref.ensures.value)
    (light c.in_ok-weights.weights.items (omega (arith, each, count, few)) c.in_ok-weights.ensures.small)

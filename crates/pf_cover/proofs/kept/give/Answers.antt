use Rattle.std.proofs.Common.{ℕ, ◌<◌, ◌≤◌, length, set, get_or, sym, ap, ◌∙◌, ◌+◌, arith}
use Rattle.std.proofs.lemmas.List.{get_or_read, set_past}
use Rattle.pf_cover.proofs.Giving.{given_set, raised}
use Rattle.pf_cover.proofs.kept.give.Goals as goal

pub returns-then-place-len : goal.returns-then-place-len
returns-then-place-len c =
    let ws = c.args.weights.now.items in
    let place = c.first_covering-place.result in
    let inside : place < length ws = omega (arith, c.args.weights.now.ok.0) in
    ap (λ (n : ℕ). set ws place (n + c.args.weight)) (get_or_read ws place _ inside c.index_mut.ensures.value 0)
    ∙ sym (given_set c.args.kept.now ws c.args.rule.now c.args.weight c.requires.same ∙ sym (ap (λ (n : ℕ). raised ws n c.args.weight) c.first_covering-place.ensures))

pub returns-else-place-len : goal.returns-else-place-len
returns-else-place-len c =
    let ws = c.args.weights.now.items in
    let place = c.first_covering-place.result in
    let past : length ws ≤ place = omega (arith, c.args.weights.now.ok.0) in
    sym (given_set c.args.kept.now ws c.args.rule.now c.args.weight c.requires.same
    ∙ sym (ap (λ (n : ℕ). raised ws n c.args.weight) c.first_covering-place.ensures)
    ∙ set_past ws place (get_or ws place 0 + c.args.weight) past)

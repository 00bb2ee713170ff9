use Rattle.std.proofs.Common.{◌≡◌, ℕ, ◌+◌, ◌≤◌, ◌++◌, ◌∷◌, [], List, map, length, sym, ap, ◌∙◌, subst, arith, All}
use Rattle.std.proofs.lemmas.List.Elements.{All-append}
use Rattle.std.proofs.lemmas.List.FromFn.{length-map-range_with_len, map-range_with_len_more}
use Rattle.std.specs.List.{range_with_len}
use Rattle.pf_optim.specs.Profile.{weight_at}
use Rattle.pf_optim.proofs.Lists.{all_one}
use Rattle.pf_optim.proofs.profile.Profile.weights.Goals as goal

pub loop-before-preserved : goal.loop-before-preserved
loop-before-preserved c =
    let weigh = weight_at c.args.self.now c.args.path.now in
    let before = c.loop-before.before in
    let place : 1 + before ≡ before + 1 = omega arith in
    let small = λ (weight : ℕ). weight ≤ 4294967295 in
    let P : List ℕ → Type 0 = λ t. All small t in
    record {
      are =
          c.in_ok-push.ensures.items
          ∙ ap (λ t. t ++ c.weight.result ∷ []) c.loop-before.invariant.are
          ∙ ap (λ (w : ℕ). map weigh (range_with_len 1 before) ++ w ∷ []) c.weight.ensures.weight
          ∙ sym (map-range_with_len_more weigh 1 before (before + 1) place);
      small = subst P (sym c.in_ok-push.ensures.items) (All-append small c.loop-before.weights.items (c.weight.result ∷ []) c.loop-before.invariant.small (all_one small c.weight.result c.weight.ensures.small));
    }

pub returns-clause-each : goal.returns-clause-each
returns-clause-each c =
    let weigh = weight_at c.args.self.now c.args.path.now in
    omega (arith, ap length c.loop-before.invariant.are, length-map-range_with_len weigh 1 c.loop-before.before)

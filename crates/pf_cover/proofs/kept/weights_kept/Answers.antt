use Rattle.std.proofs.Common.{◌≡◌, ◌≤◌, ℕ, List, ◌∷◌, Bool, true, cond, ◌+◌, length, sum, get_or, drop, sym, ap, ◌∙◌, subst, arith}
use Rattle.std.specs.List.{fold, zip}
use Rattle.pf_rule.specs.declared.rule.Rule.{Rule}
use Rattle.pf_cover.specs.Kept.{dropped_weighed, given_to_first, is_dropped, own_weights, placed}
use Rattle.pf_cover.proofs.Giving.{give_step, given_if_length, still_fits, to_give, zip_at, zip_end}
use Rattle.pf_cover.proofs.Keeping.{own_each, own_sum, second_sum, weighed_of}
use Rattle.pf_cover.proofs.kept.weights_kept.Goals as goal

pub loop-i-init : goal.loop-i-init
loop-i-init c =
    let rules = c.args.rules.now in
    let ws = c.args.weights.now in
    record {
      is =
          ap (λ (t : List ℕ). fold (given_to_first c.args.kept.now) t (dropped_weighed rules ws)) c.in_ok-given.ensures
          ∙ ap (λ (t : List Rule). fold (given_to_first t) (own_weights rules ws) (dropped_weighed rules ws)) c.requires.kept;
      fits = subst (λ (t : List ℕ). sum t + second_sum (dropped_weighed rules ws) ≤ sum ws) (sym c.in_ok-given.ensures) (own_sum rules ws c.requires.same);
      each = ap length c.requires.kept ∙ sym (own_each rules ws c.requires.same) ∙ sym (ap length c.in_ok-given.ensures);
    }

pub give_if-requires-clause-fits : goal.give_if-requires-clause-fits
give_if-requires-clause-fits c = λ (h : c.is_dropped-dropped.result ≡ true).
    let rules = c.args.rules.now in
    let ws = c.args.weights.now in
    let i = c.loop-i.i in
    let rule = c.index-rules-i.result in
    let rest = drop (i + 1) (zip (placed rules) ws) in
    let at = zip_at rules ws i rule c.requires.same c.loop-i-test.true c.index-rules-i.is in
    let most : get_or ws i 0 ≤ second_sum (weighed_of (is_dropped rules) (((i, rule), get_or ws i 0) ∷ rest)) = to_give (is_dropped rules) ((i, rule), get_or ws i 0) rest (sym c.is_dropped-dropped.ensures ∙ h) in
    let fits : sum c.loop-i.given.items + second_sum (weighed_of (is_dropped rules) (((i, rule), get_or ws i 0) ∷ rest)) ≤ sum ws =
    subst (λ (t : List ((ℕ × Rule) × ℕ)). sum c.loop-i.given.items + second_sum (weighed_of (is_dropped rules) t) ≤ sum ws) at c.loop-i.invariant.fits in
    omega (arith, c.requires.few)

pub loop-i-preserved : goal.loop-i-preserved
loop-i-preserved c =
    let rules = c.args.rules.now in
    let ws = c.args.weights.now in
    let kept = c.args.kept.now in
    let i = c.loop-i.i in
    let rule = c.index-rules-i.result in
    let given = c.loop-i.given.items in
    let w = get_or ws i 0 in
    let rest = drop (i + 1) (zip (placed rules) ws) in
    let at = zip_at rules ws i rule c.requires.same c.loop-i-test.true c.index-rules-i.is in
    let done = c.give_if.ensures ∙ ap (λ (b : Bool). cond b (given_to_first kept given (rule, w)) given) c.is_dropped-dropped.ensures in
    record {
      is =
          ap (λ (t : List ℕ). fold (given_to_first kept) t (weighed_of (is_dropped rules) rest)) done
          ∙ sym (give_step kept given (is_dropped rules) ((i, rule), w) rest)
          ∙ sym (ap (λ (t : List ((ℕ × Rule) × ℕ)). fold (given_to_first kept) given (weighed_of (is_dropped rules) t)) at)
          ∙ c.loop-i.invariant.is;
      fits =
          subst (λ (t : List ℕ). sum t + second_sum (weighed_of (is_dropped rules) rest) ≤ sum ws) (sym done)
          (let step = still_fits kept given (is_dropped rules) ((i, rule), w) rest in
          let fits : sum given + second_sum (weighed_of (is_dropped rules) (((i, rule), w) ∷ rest)) ≤ sum ws =
          subst (λ (t : List ((ℕ × Rule) × ℕ)). sum given + second_sum (weighed_of (is_dropped rules) t) ≤ sum ws) at c.loop-i.invariant.fits in
          omega (arith, step));
      each = c.loop-i.invariant.each ∙ sym (given_if_length kept given (is_dropped rules (i, rule)) (rule, w)) ∙ sym (ap length done);
    }

pub returns : goal.returns
returns c =
    sym (ap (λ (t : List ((ℕ × Rule) × ℕ)). fold (given_to_first c.args.kept.now) c.loop-i.given.items (weighed_of (is_dropped c.args.rules.now) t)) (zip_end c.args.rules.now c.args.weights.now c.loop-i.i c.requires.same c.loop-i-test.false))
    ∙ c.loop-i.invariant.is

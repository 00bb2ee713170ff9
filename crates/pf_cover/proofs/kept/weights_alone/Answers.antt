use Rattle.std.proofs.Common.{List, [], ◌∷◌, Bool, cond, ℕ, ◌+◌, ◌++◌, get_or, drop, sym, ap, ◌∙◌, append-nil}
use Rattle.std.specs.List.{zip}
use Rattle.pf_rule.specs.declared.rule.Rule.{Rule}
use Rattle.pf_cover.specs.Kept.{is_dropped, placed}
use Rattle.pf_cover.proofs.Giving.{own_step, zip_at, zip_end}
use Rattle.pf_cover.proofs.Keeping.{own_of}
use Rattle.pf_cover.proofs.kept.weights_alone.Goals as goal

pub loop-i-preserved : goal.loop-i-preserved
loop-i-preserved c =
    let rules = c.args.rules.now in
    let ws = c.args.weights.now in
    let i = c.loop-i.i in
    let rule = c.index-rules-i.result in
    let done = c.loop-i.own.items in
    let rest = drop (i + 1) (zip (placed rules) ws) in
    let at = zip_at rules ws i rule c.requires.same c.loop-i-test.true c.index-rules-i.is in
    let step = own_step done (is_dropped rules) ((i, rule), get_or ws i 0) rest in
    ap (λ (t : List ℕ). t ++ own_of (is_dropped rules) rest)
    (c.in_ok-push_weight_unless.ensures ∙ ap (λ (b : Bool). done ++ cond b [] (get_or ws i 0 ∷ [])) c.is_dropped-dropped.ensures)
    ∙ sym step
    ∙ sym (ap (λ (t : List ((ℕ × Rule) × ℕ)). done ++ own_of (is_dropped rules) t) at)
    ∙ c.loop-i.invariant

pub returns : goal.returns
returns c =
    sym (append-nil c.loop-i.own.items)
    ∙ sym (ap (λ (t : List ((ℕ × Rule) × ℕ)). c.loop-i.own.items ++ own_of (is_dropped c.args.rules.now) t) (zip_end c.args.rules.now c.args.weights.now c.loop-i.i c.requires.same c.loop-i-test.false))
    ∙ c.loop-i.invariant

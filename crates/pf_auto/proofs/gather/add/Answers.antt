use Rattle.std.proofs.Common.{◌≡◌, cond, Some, None, Option, sym, ap, ◌∙◌, arith}
use Rattle.std.specs.HashMap as hash
use Rattle.std.specs.Option.{unwrap_or}
use Rattle.pf_auto.proofs.Gathering.{put_back, weight_begun}
use Rattle.pf_auto.specs.Beside.{besides, keyed}
use Rattle.pf_auto.specs.Ends.{beside}
use Rattle.pf_auto.specs.Groups.{begun, grown, weight_of}
use Rattle.pf_auto.specs.declared.beside.Beside.{Beside}
use Rattle.pf_auto.specs.declared.group.Group.{Group}
use Rattle.pf_rule.specs.Equal.{rules}
use Rattle.pf_rule.specs.declared.rule.Rule.{Rule}
use Rattle.pf_auto.proofs.gather.add.Goals as goal

pub with-requires : goal.with-requires
with-requires c =
    let m = c.args.groups.now in
    let key = beside c.args.end c.args.rule.now in
    let k : c.of-key.result ≡ keyed key = ap keyed c.of-key.ensures in
    let g : c.begun-begun.result.weight ≡ weight_of (hash.get besides.same m (keyed key)) =
    ap (λ (one : Group). one.weight) c.begun-begun.ensures
    ∙ weight_begun c.remove.result c.args.place
    ∙ ap weight_of (c.remove.ensures.value ∙ ap (λ (t : Beside). hash.get besides.same m t) k) in
    omega (arith, c.requires)

pub returns : goal.returns
returns c = λ key.
    let m = c.args.groups.now in
    let here = beside c.args.end c.args.rule.now in
    let k : c.of-key.result ≡ keyed here = ap keyed c.of-key.ensures in
    let old : Rule → Option Group = λ one. hash.get besides.same m (keyed one) in
    c.in_ok-insert.ensures.updates.0 (keyed key)
    ∙ ap (λ (o : Option Group). cond (rules.same c.of-key.result.rule key) (Some c.in_ok-group.group) o) (c.remove.ensures.updates.0 (keyed key))
    ∙ ap (λ (r : Rule). cond (rules.same r key) (Some c.in_ok-group.group) (cond (rules.same r key) None (old key))) c.of-key.ensures
    ∙ ap (λ (g : Group). cond (rules.same here key) (Some g) (cond (rules.same here key) None (old key)))
    (c.in_ok-group.ensures ∙ ap (grown c.in-Some.prefix c.args.weight) (c.begun-begun.ensures ∙ ap (λ (o : Option Group). unwrap_or o (begun c.args.place)) (c.remove.ensures.value ∙ ap (λ (t : Beside). hash.get besides.same m t) k)))
    ∙ put_back c.args.end c.args.place c.args.rule.now c.args.weight c.in-Some.prefix key old (sym c.in-Some.ensures)

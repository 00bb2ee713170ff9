use Rattle.std.proofs.Common.{[], ◌∷◌, ◌++◌, ap, ◌∙◌}
use Rattle.std.specs.Option.{unwrap_or}
use Rattle.pf_host.proofs.Kept.{is_found, kept, on_err, same_kept}
use Rattle.pf_host.proofs.index.keep_value.Goals as goal

pub returns-in_err-push-clause-err : goal.returns-in_err-push-clause-err
returns-in_err-push-clause-err g c =
    let w = c.push.new.self in
    on_err c.from_residual.result (same_kept c.args.by_name.now.entries (c.get_mut.follows.lender w).entries c.args.name w c.in-Some.values.now (c.get_mut.follows.holds w).0 c.in_err-push.ensures.err c.in-Some.ensures.value)

pub returns-in-Some-clause-ok : goal.returns-in-Some-clause-ok
returns-in-Some-clause-ok g c =
    let w = c.push.new.self in
    let old = c.args.by_name.now.entries in
    let found = c.in-Some.ensures.value in
    let updates = (c.get_mut.follows.holds w).3 (is_found c.in-Some.values.now found) in
    kept old (c.get_mut.follows.lender w).entries c.args.name c.args.value w updates.0
    (c.in_ok-push.ensures.ok ∙ ap (λ o. unwrap_or o [] ++ c.args.value ∷ []) found)

pub returns-clause-ok : goal.returns-clause-ok
returns-clause-ok g c =
    let w = c.push-2.new.self in
    let old = c.args.by_name.now.entries in
    let updates = rw c.get_mut.follows.holds-at-none at c.in_ok-insert.ensures.updates.0 in
    kept old c.insert.new.self.entries c.args.name c.args.value w updates
    (c.in_ok-push-2.ensures.ok ∙ (ap (λ v. v ++ c.args.value ∷ []) c.new-values.ensures ∙ ap (λ o. unwrap_or o [] ++ c.args.value ∷ []) c.in_default.ensures.value))

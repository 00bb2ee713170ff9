use Rattle.std.proofs.Common.{ℕ, List, ◌<◌, length, get_or, sym, ap, ◌∙◌, subst, arith}
use Rattle.pf_optim.specs.Ruleset.{Written, form_of}
use Rattle.pf_optim.specs.Skips.{IsSkip, skip}
use Rattle.pf_optim.proofs.Skipping.{length_rows, row_at, skip_is}
use Rattle.pf_rule.specs.declared.rule.Rule.{Rule}
use Rattle.pf_optim.proofs.ruleset.Ruleset.skip.Goals as goal

pub index-requires : goal.index-requires
index-requires c =
    let inv = c.self.invariant in
    let rows = ap length inv.skips_are ∙ length_rows 0 c.self.inside.fast.items in
    let fast = ap length (inv.rules_are ∙ ap (λ (w : Written). (form_of w).rules) c.self.view_is) in
    omega (arith, rows, fast, c.requires.inside, c.self.inside.skips.ok)

pub returns-clause-skip : goal.returns-clause-skip
returns-clause-skip c =
    let inv = c.self.invariant in
    let fast = inv.rules_are ∙ ap (λ (w : Written). (form_of w).rules) c.self.view_is in
    let inside : c.args.place < length c.self.inside.fast.items = omega (arith, ap length fast, c.requires.inside) in
    ap (λ (t : List ℕ). get_or t c.args.field 0) (c.index.ensures ∙ ap (λ (t : List (List ℕ)). get_or t c.args.place c.index.result.now) inv.skips_are)
    ∙ row_at c.self.inside.fast.items 0 c.args.place c.args.field c.index.result.now inside c.requires.known
    ∙ omega (arith, ap (λ (t : List Rule). skip t c.args.place c.args.field) fast)

pub returns-clause-is : goal.returns-clause-is
returns-clause-is c =
    let rules = (form_of c.args.self.now).rules in
    let P : ℕ → Type 0 = λ n. IsSkip rules c.args.place c.args.field n in
    subst P (sym (returns-clause-skip c)) (skip_is rules c.args.place c.args.field c.requires.inside)

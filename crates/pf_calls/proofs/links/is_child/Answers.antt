use Rattle.std.proofs.Common.{Decides, not, subst, sym, ◌∙◌}
use Rattle.std.proofs.lemmas.Bool.{false≢true}
use Rattle.pf_calls.specs.Links.{IsChild}
use Rattle.pf_calls.proofs.Children.{told_apart, told_named}
use Rattle.pf_calls.specs.CallLaws.{paths_decide}
use Rattle.pf_calls.proofs.links.is_child.Goals as goal

pub returns-then-eq : goal.returns-then-eq
returns-then-eq c =
    let same = (paths_decide c.in-Some.front.now c.names-in-Some.result.now).0 (sym c.eq.ensures ∙ c.if-eq.true) ∙ c.names-in-Some.ensures.same in
    let is = sym c.names.ensures.same ∙ c.in-Some.ensures.cases.0 in
    let told = told_named c.args.at.now c.args.path.now c.in-Some.front.now c.in-Some.name.now is same in
    subst (λ b. Decides (not b) (IsChild c.args.at.now c.args.path.now)) (sym c.is_reserved.ensures) told

pub returns-else-eq : goal.returns-else-eq
returns-else-eq c =
    let is = sym c.names.ensures.same ∙ c.in-Some.ensures.cases.0 in
    let off = told_apart c.args.at.now c.args.path.now c.in-Some.front.now c.in-Some.name.now is (λ same.
    false≢true (sym c.if-eq.false ∙ c.eq.ensures ∙ (paths_decide c.in-Some.front.now c.names-in-Some.result.now).1 (same ∙ sym c.names-in-Some.ensures.same))) in
    (λ h. absurd (false≢true (sym c.if-eq.false ∙ h)), λ child. absurd (off child))

use Rattle.std.proofs.Common.{◌≡◌, List, drop, sym, ap, ◌∙◌, subst}
use Rattle.std.specs.List.{remove}
use Rattle.pf_plan.specs.Numbered.{PlacesWithin}
use Rattle.pf_plan.specs.declared.draft.Filling.{Filling}
use Rattle.pf_plan.proofs.Places.{body_open, closed_first, closed_within}
use Rattle.pf_plan.proofs.draft.Draft.closed.Goals as goal

pub returns-clause-within : goal.returns-clause-within
returns-clause-within c = λ count so.
    let draft = c.args.self in
    let rest : c.of.result ≡ drop 1 draft.outer = c.of.ensures ∙ c.remove-filling.ensures.items ∙ ap (λ (items : List Filling). remove items 0) c.into_items-outer.ensures in
    rw (c.in_ok-here.ensures, rest)
    (subst (PlacesWithin count) (closed_first draft c.remove-filling.result (body_open draft (sym c.if-not-is_in_body.ensures)) (rw c.into_items-outer.ensures at c.remove-filling.ensures.value)) (closed_within draft count so))

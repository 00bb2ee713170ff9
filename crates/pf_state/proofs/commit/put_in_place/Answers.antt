use Rattle.std.proofs.Common.{◌≡◌, ℕ, List, not, ap, ◌∙◌}
use Rattle.std.specs.FinMap as fin
use Rattle.pf_state.specs.Commits.{is_cleared}
use Rattle.pf_state.specs.Outlines.{with_shelves}
use Rattle.pf_state.specs.declared.ready.Staged.{Staged}
use Rattle.pf_state.proofs.Replacing.{committed_by}
use Rattle.pf_state.proofs.commit.put_in_place.Goals as goal

pub returns-in-Some-clause-rulesets : goal.returns-in-Some-clause-rulesets
returns-in-Some-clause-rulesets c =
    committed_by c.args.tree.now.payloads c.clear_all.new.tree.payloads c.install_all.new.tree.payloads c.args.ready.parts c.args.shelves.items
    (c.clear_all.ensures.payloads ∙ ap (λ (parts : List Staged). fin.retain_keys c.args.tree.now.payloads (λ at. not (is_cleared parts at))) c.items.ensures)
    c.requires.renewed
    (c.install_all.ensures.payloads ∙ ap (λ (parts : List Staged). with_shelves c.clear_all.new.tree.payloads parts c.args.shelves.items) c.into_items.ensures)

pub returns-in_default-clause-rulesets : goal.returns-in_default-clause-rulesets
returns-in_default-clause-rulesets c =
    committed_by c.args.tree.now.payloads c.clear_all.new.tree.payloads c.install_all.new.tree.payloads c.args.ready.parts c.args.shelves.items
    (c.clear_all.ensures.payloads ∙ ap (λ (parts : List Staged). fin.retain_keys c.args.tree.now.payloads (λ at. not (is_cleared parts at))) c.items.ensures)
    c.requires.renewed
    (c.install_all.ensures.payloads ∙ ap (λ (parts : List Staged). with_shelves c.clear_all.new.tree.payloads parts c.args.shelves.items) c.into_items.ensures)

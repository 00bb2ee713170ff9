use Rattle.std.proofs.Common.{◌≡◌, ℕ, refl, ap, ◌∙◌}
use Rattle.std.specs.FinMap as fin
use Rattle.pf_shelf.specs.Change.{answer, changed_at}
use Rattle.pf_shelf.specs.Shelf.{Tables}
use Rattle.pf_state.specs.Tables.{changed_rulesets}
use Rattle.pf_state.proofs.Changing.{change_done, change_undone, on_err, on_ok, taken_tables}
use Rattle.pf_state.proofs.tables.change_in.Goals as goal

pub returns-clause-answer : goal.returns-clause-answer
returns-clause-answer c enough =
    c.change-answer.ensures.answer enough
    ∙ ap (λ (t : Tables). answer (fin.get t c.args.name.now) c.args.kind c.args.entries.now c.args.room) (taken_tables c.install.new.payload _ c.install.ensures.swapped)

pub returns-clause-ok : goal.returns-clause-ok
returns-clause-ok c =
    on_ok c.change-answer.result _ _
    (λ (made : c.change-answer.new.self ≡ changed_at c.install.new.payload.shelf c.args.name.now c.args.kind c.args.entries.now).
    change_done c.args.tree.now.payloads c.install.new.self.payloads c.install-2.new.self.payloads c.args.path.now c.args.name.now c.args.kind c.args.entries.now c.install.new.payload _ c.change-answer.new.self _
    refl c.install.ensures.payloads c.install.ensures.swapped c.requires.there made c.install-2.ensures.payloads)
    c.change-answer.ensures.ok

pub returns-clause-err : goal.returns-clause-err
returns-clause-err c =
    on_err c.change-answer.result _ _
    (λ (same : c.change-answer.new.self ≡ c.install.new.payload.shelf).
    change_undone c.args.tree.now.payloads c.install.new.self.payloads c.install-2.new.self.payloads c.args.path.now c.install.new.payload _ c.change-answer.new.self
    c.install.ensures.payloads c.install.ensures.swapped same c.install-2.ensures.payloads)
    c.change-answer.ensures.err

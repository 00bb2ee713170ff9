use Rattle.std.proofs.Common.{◌∙◌}
use Rattle.pf_shelf.proofs.Told.{taken_away}
use Rattle.pf_shelf.proofs.alter.add_all.Goals as goal

pub returns-then-is_err-clause-err : goal.returns-then-is_err-clause-err
returns-then-is_err-clause-err c =
    taken_away c.args.table.now c.args.fresh.now c.add_each.new.table c.remove_each.new.table c.deref.result.now c.deref-then-is_err.result.now
    (c.deref.ensures.value ∙ c.in_ok-list.ensures) (c.deref-then-is_err.ensures.value ∙ c.in_ok-list.ensures) c.requires c.add_each.ensures.front c.remove_each.ensures

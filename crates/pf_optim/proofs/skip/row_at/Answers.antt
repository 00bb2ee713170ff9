use Rattle.pf_optim.proofs.Skipping.{row_found}
use Rattle.pf_optim.proofs.skip.row_at.Goals as goal

pub returns-in-len1-up : goal.returns-in-len1-up
returns-in-len1-up c =
    row_found c.args.place c.args.rule.now c.other-item.result c.args.behind.now c.args.next.now c.row_by.result c.in-len1-up.len_at_least c.other-item.is c.requires.next c.row_by.ensures

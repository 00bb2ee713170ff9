use Rattle.std.proofs.Common.{sym, ◌∙◌}
use Rattle.pf_optim.proofs.SaidRows.{row_added, told_by_lookup}
use Rattle.pf_optim.proofs.reading.add_row.Goals as goal

pub returns-then-contains_key : goal.returns-then-contains_key
returns-then-contains_key c =
    sym (told_by_lookup c.args.counts.now.entries c.args.row.now) ∙ sym c.contains_key.ensures ∙ c.if-contains_key.true

pub returns : goal.returns
returns c = row_added c.args.counts.now c.insert.new.self c.args.row.now (sym c.contains_key.ensures ∙ c.if-contains_key.false) c.in_ok-insert.ensures.entries

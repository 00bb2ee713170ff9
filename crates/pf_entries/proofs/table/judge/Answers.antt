use Rattle.pf_entries.proofs.Judging.{judged_within}
use Rattle.pf_entries.proofs.table.judge.Goals as goal

pub returns-clause-within : goal.returns-clause-within
returns-clause-within c = λ count h numbered.
    judged_within c.args.facts.now c.args.tables.now c.args.form c.args.place c.args.files.now c.settled.result c.settled.ensures.means count h numbered

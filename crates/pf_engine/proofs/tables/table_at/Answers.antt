use Rattle.pf_engine.proofs.Changing.{none_at}
use Rattle.pf_engine.proofs.tables.table_at.Goals as goal

pub returns-in-None : goal.returns-in-None
returns-in-None c = none_at c.args.rulesets.now c.args.path.now c.args.name.now c.in-None.ensures

use Rattle.pf_engine.proofs.SomeThing.{line_does_no_less, line_does_some}
use Rattle.pf_engine.proofs.laws.a_line_does_something.Goals as goal

pub returns-clause-some : goal.returns-clause-some
returns-clause-some c = line_does_some

pub returns-clause-no_less : goal.returns-clause-no_less
returns-clause-no_less c = line_does_no_less (record { comes = c.a_load_comes_to_something.ensures; no_want = c.no_load_comes_to_want_of_memory.ensures })

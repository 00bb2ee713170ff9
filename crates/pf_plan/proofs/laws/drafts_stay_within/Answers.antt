use Rattle.pf_plan.proofs.Places.{begun_within, closed_within, lines_within, load_within, opened_within, queue_within, rules_within, table_within, unit_within}
use Rattle.pf_plan.proofs.laws.drafts_stay_within.Goals as goal

pub returns-clause-begun : goal.returns-clause-begun
returns-clause-begun c = λ count path place h. begun_within path place count h

pub returns-clause-rules : goal.returns-clause-rules
returns-clause-rules c = λ count draft rules queues place so h. rules_within draft rules queues place count so h

pub returns-clause-table : goal.returns-clause-table
returns-clause-table c = λ count draft table so. table_within draft table count so

pub returns-clause-lines : goal.returns-clause-lines
returns-clause-lines c = λ count draft lines so. lines_within draft lines count so

pub returns-clause-queue : goal.returns-clause-queue
returns-clause-queue c = λ count draft queue so h. queue_within draft queue count so h

pub returns-clause-opened : goal.returns-clause-opened
returns-clause-opened c = λ count draft path place nameless so h. opened_within draft path place nameless count so h

pub returns-clause-closed : goal.returns-clause-closed
returns-clause-closed c = λ count draft so. closed_within draft count so

pub returns-clause-load : goal.returns-clause-load
returns-clause-load c = λ count draft path file so. load_within draft path file count so

pub returns-clause-unit : goal.returns-clause-unit
returns-clause-unit c = λ count draft path place so h. unit_within draft path place count so h

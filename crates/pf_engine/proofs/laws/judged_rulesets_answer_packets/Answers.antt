use Rattle.std.proofs.Common.{Some, None, refl}
use Rattle.pf_engine.proofs.laws.judged_rulesets_answer_packets.Goals as goal

pub returns-clause-rules : goal.returns-clause-rules
returns-clause-rules c = λ node. elim node [ None ↦ refl | Some node ↦ refl ]

pub returns-clause-tables : goal.returns-clause-tables
returns-clause-tables c = λ node. elim node [ None ↦ refl | Some node ↦ refl ]

pub returns-clause-calls : goal.returns-clause-calls
returns-clause-calls c = λ rulesets. refl

use Rattle.pf_load.proofs.statement.take_rules.Goals as goal

pub returns-in-Ok-clause-within : goal.returns-in-Ok-clause-within
returns-in-Ok-clause-within c = λ count le. c.lay_rules.ensures.within count le tt

pub returns-in-Err-Kind-clause-within : goal.returns-in-Err-Kind-clause-within
returns-in-Err-Kind-clause-within c = λ count le. c.lay_rules-in-Err-Kind.ensures.within count le le

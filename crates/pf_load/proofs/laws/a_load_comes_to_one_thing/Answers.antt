use Rattle.pf_load.proofs.OneLoad.{one_load}
use Rattle.pf_load.proofs.OneStatement.{one_statement}
use Rattle.pf_load.proofs.laws.a_load_comes_to_one_thing.Goals as goal

pub returns : goal.returns
returns c = λ disk facts options file. one_load disk (c.opening_is_one.ensures disk) options c.ends_have_one_fault.ensures facts
    (one_statement c.tokens_have_one_declaration.ensures c.a_statement_comes_to_one_thing.ensures c.declarations_come_to_one_thing.ensures disk facts)
    (c.lead_is_one.ensures disk) file

use Rattle.pf_genload.proofs.Loading.{loads_whole}
use Rattle.pf_genload.proofs.laws.a_generated_configuration_loads.Goals as goal

pub returns : goal.returns
returns c = loads_whole c.printed_texts_read_back.ensures.prefix c.a_load_comes_to_one_thing.ensures

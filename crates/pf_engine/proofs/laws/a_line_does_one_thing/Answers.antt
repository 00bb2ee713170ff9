use Rattle.pf_engine.proofs.OneThing.{line_does_one}
use Rattle.pf_engine.proofs.laws.a_line_does_one_thing.Goals as goal

pub returns : goal.returns
returns c = line_does_one (record {
  loads = c.a_load_comes_to_one_thing.ensures;
  record_text = c.a_record_is_read_one_way.ensures;
  rows = c.profiles_have_one_meaning.ensures.rows;
  row_line = c.profiles_have_one_meaning.ensures.line;
  rows_apart = c.profiles_have_one_meaning.ensures.apart;
  facts = c.facts_have_one_meaning.ensures;
  fact_line = c.facts_and_one_fault_exclude_each_other.ensures.one;
  facts_apart = c.facts_and_one_fault_exclude_each_other.ensures.apart;
  addr = c.texts_are_read_in_one_way.ensures.address;
  prefix = c.texts_are_read_in_one_way.ensures.prefix;
})

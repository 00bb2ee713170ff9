use Rattle.pf_engine.proofs.Beginning.{begun_has_next, flush_begins, load_begins, next_rises, open_begins, others_keep}
use Rattle.pf_engine.proofs.OneThing.{ReadOneWay}
use Rattle.pf_engine.proofs.laws.rulesets_are_begun_with_the_next_ticket.Goals as goal

pub returns : goal.returns
returns c =
    let ones : ReadOneWay = record {
      loads = c.a_load_comes_to_one_thing.ensures;
      record_text = c.a_record_is_read_one_way.ensures;
      rows = c.profiles_have_one_meaning.ensures.rows;
      row_line = c.profiles_have_one_meaning.ensures.line;
      rows_apart = c.profiles_have_one_meaning.ensures.apart;
      facts = c.facts_have_one_meaning.ensures;
      fact_line = c.facts_and_one_fault_exclude_each_other.ensures.one;
      facts_apart = c.facts_and_one_fault_exclude_each_other.ensures.apart;
      addr = c.texts_are_read_in_one_way.ensures.address;
      prefix = c.texts_are_read_in_one_way.ensures.prefix;
    } in
    record {
      load = load_begins ones;
      opened = open_begins ones;
      flush = flush_begins;
      begun = begun_has_next ones;
      others = others_keep;
      rises = next_rises;
    }

use Rattle.std.proofs.Common.{ap, ◌∙◌, sym, is_some}
use Rattle.pf_record.proofs.KeyLemmas.{is_some-first, is_some-option_map, TakesAll-more, TakesAll-none}
use Rattle.pf_record.proofs.values.KeyValues.cut.Goals as goal

pub returns : goal.returns
returns c = record {
  rest = _;
  all =
      TakesAll-more c.take_value.ensures
      (TakesAll-more c.take_value-2.ensures
      (TakesAll-more c.take_value-3.ensures
      (TakesAll-more c.take_value-4.ensures
      (TakesAll-more c.take_value-5.ensures
      (TakesAll-more c.take_value-6.ensures
      (TakesAll-more c.take_value-7.ensures
      (TakesAll-more c.take_value-8.ensures
      (TakesAll-more c.take_value-9.ensures
      (TakesAll-more c.take_value-10.ensures (TakesAll-none _))))))))));
  more = c.is_some.ensures ∙ sym (is_some-option_map _ _) ∙ ap is_some c.next_word.ensures.taken ∙ is_some-first _;
}

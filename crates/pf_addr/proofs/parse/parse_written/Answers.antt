use Rattle.pf_addr.proofs.Texts.{written_from}
use Rattle.pf_addr.proofs.parse.parse_written.Goals as goal

pub returns-in-Err : goal.returns-in-Err
returns-in-Err c = written_from c.args.text.now _ (λ a h. let wrong = c.in-Err.ensures.only a h in absurd cc) c.parse_cut.ensures

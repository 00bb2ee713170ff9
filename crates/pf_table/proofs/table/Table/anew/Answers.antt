use Rattle.std.proofs.Common.{◌≡◌, ap, ◌∙◌}
use Rattle.std.proofs.lemmas.Result.{IfOk-weaker}
use Rattle.pf_table.specs.Table.{Signs, table_of}
use Rattle.pf_table.specs.TableLaws.{table_back}
use Rattle.pf_table.proofs.table.Table.anew.Goals as goal

pub returns : goal.returns
returns c =
    IfOk-weaker c.of.result (λ (t : Signs). t ≡ table_of c.deref.result.now) (λ (t : Signs). t ≡ c.args.self.now)
    (λ t e. e ∙ ap table_of (c.deref.ensures.value ∙ c.in_ok-list.ensures) ∙ table_back c.args.self.now) c.of.ensures

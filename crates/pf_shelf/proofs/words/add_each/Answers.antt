use Rattle.std.proofs.Common.{◌++◌, take, List, sym, ap, ◌∙◌, append-nil}
use Rattle.pf_table.specs.declared.entry.Entry.{Entry}
use Rattle.pf_table.specs.Table.{Signs, entries_of, table_of, with_entry}
use Rattle.pf_table.specs.Pushed.{more_items}
use Rattle.pf_table.specs.TableLaws.{table_back}
use Rattle.pf_shelf.proofs.Signed.{added_more}
use Rattle.pf_shelf.proofs.words.add_each.Goals as goal

pub loop-word-init : goal.loop-word-init
loop-word-init c = sym (ap table_of (append-nil (entries_of c.args.table.now)) ∙ table_back c.args.table.now)

pub loop-word-preserved : goal.loop-word-preserved
loop-word-preserved c =
    c.in_ok-add.ensures.ok
    ∙ ap (λ (t : Signs). with_entry t c.word-item.result) c.loop-word.invariant
    ∙ added_more c.args.table.now (take c.loop-word.word-index c.args.words.now) c.word-item.result
    ∙ sym (ap (λ (t : List Entry). table_of (entries_of c.args.table.now ++ t)) (more_items c.args.words.now c.loop-word.word-index c.word-item.result c.loop-word-test.true c.word-item.is))

pub returns-in_err-add-clause-front : goal.returns-in_err-add-clause-front
returns-in_err-add-clause-front c = record { count = c.loop-word.word-index; is = c.in_err-add.ensures.err ∙ c.loop-word.invariant }

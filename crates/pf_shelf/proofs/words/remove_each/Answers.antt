use Rattle.std.proofs.Common.{take, List, sym, ap, ◌∙◌}
use Rattle.pf_table.specs.declared.entry.Entry.{Entry}
use Rattle.pf_table.specs.Table.{Signs, without_entry}
use Rattle.pf_table.specs.Pushed.{more_items}
use Rattle.pf_shelf.specs.Change.{changed}
use Rattle.pf_shelf.specs.declared.change.ChangeKind.TheVariants.{Delete}
use Rattle.pf_shelf.proofs.Signed.{deleted_more, deleted_none}
use Rattle.pf_shelf.proofs.words.remove_each.Goals as goal

pub loop-word-init : goal.loop-word-init
loop-word-init c = deleted_none c.args.table.now

pub loop-word-preserved : goal.loop-word-preserved
loop-word-preserved c =
    c.remove.ensures.left
    ∙ ap (λ (t : Signs). without_entry t c.word-item.result) c.loop-word.invariant
    ∙ deleted_more (take c.loop-word.word-index c.args.words.now) c.word-item.result c.args.table.now
    ∙ sym (ap (λ (t : List Entry). changed Delete t c.args.table.now) (more_items c.args.words.now c.loop-word.word-index c.word-item.result c.loop-word-test.true c.word-item.is))

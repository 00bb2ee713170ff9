use Rattle.std.proofs.Common.{take, List, sym, ap, ◌∙◌}
use Rattle.std.specs.List.{filter}
use Rattle.pf_table.specs.declared.entry.Entry.{Entry}
use Rattle.pf_table.specs.Table.{Signs, table_of, with_entry}
use Rattle.pf_table.specs.Pushed.{more_items}
use Rattle.pf_shelf.specs.Change.{has_entry}
use Rattle.pf_shelf.proofs.Signed.{failed_more, passed_more}
use Rattle.pf_shelf.proofs.words.held.Goals as goal
use Rattle.pf_shelf.proofs.words.held.Goals.{then-has+in_ok-add, else-has}

pub loop-word-preserved : goal.loop-word-preserved
loop-word-preserved c =
    let front = take c.loop-word.word-index c.args.words.now in
    let word = c.word-item.result in
    let step = more_items c.args.words.now c.loop-word.word-index word c.loop-word-test.true c.word-item.is in
    elim c.if-has.branch [
      | then-has+in_ok-add w ↦
          w.held-is ∙ w.in_ok-add.ensures.ok
          ∙ ap (λ (t : Signs). with_entry t word) c.loop-word.invariant
          ∙ passed_more (has_entry c.args.table.now) front word (sym c.has.ensures ∙ w.if-has.true)
          ∙ sym (ap (λ (t : List Entry). table_of (filter (has_entry c.args.table.now) t)) step)
      | else-has w ↦
          w.held-is ∙ c.loop-word.invariant
          ∙ failed_more (has_entry c.args.table.now) front word (sym c.has.ensures ∙ w.if-has.false)
          ∙ sym (ap (λ (t : List Entry). table_of (filter (has_entry c.args.table.now) t)) step)
    ]

use Rattle.std.proofs.Common.{◌≡◌, take, List, sym, ap, ◌∙◌, not, Bool, true, false}
use Rattle.std.specs.Prelude.{is_some}
use Rattle.std.specs.List.{filter}
use Rattle.std.specs.FinMap as finite
use Rattle.pf_table.specs.declared.entry.Entry.{Entry}
use Rattle.pf_table.specs.Table.{Signs, table_of, with_entry}
use Rattle.pf_table.specs.Pushed.{more_items}
use Rattle.pf_shelf.specs.Change.{is_fresh}
use Rattle.pf_shelf.proofs.Signed.{failed_more, passed_more}
use Rattle.pf_shelf.proofs.words.fresh.Goals as goal
use Rattle.pf_shelf.proofs.words.fresh.Goals.{then-is_none+in_ok-add, else-is_none}

turned : (a b : Bool) → a ≡ not b → not a ≡ b
turned a true h = ap not h
turned a false h = ap not h

pub loop-word-preserved : goal.loop-word-preserved
loop-word-preserved c =
    let front = take c.loop-word.word-index c.args.words.now in
    let word = c.word-item.result in
    let step = more_items c.args.words.now c.loop-word.word-index word c.loop-word-test.true c.word-item.is in
    let lacks : not (is_some (finite.get c.args.table.now word.prefix)) ≡ c.is_none.result = ap (λ o. not (is_some o)) (sym c.sign_of.ensures) ∙ turned (is_some c.sign_of.result) c.is_none.result c.is_none.ensures in
    elim c.if-is_none.branch [
      | then-is_none+in_ok-add w ↦
          w.fresh-is ∙ w.in_ok-add.ensures.ok
          ∙ ap (λ (t : Signs). with_entry t word) c.loop-word.invariant
          ∙ passed_more (is_fresh c.args.table.now) front word (lacks ∙ w.if-is_none.true)
          ∙ sym (ap (λ (t : List Entry). table_of (filter (is_fresh c.args.table.now) t)) step)
      | else-is_none w ↦
          w.fresh-is ∙ c.loop-word.invariant
          ∙ failed_more (is_fresh c.args.table.now) front word (lacks ∙ w.if-is_none.false)
          ∙ sym (ap (λ (t : List Entry). table_of (filter (is_fresh c.args.table.now) t)) step)
    ]

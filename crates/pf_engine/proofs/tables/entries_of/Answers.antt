use Rattle.std.proofs.Common.{List, ℕ, Err, sym, subst, ◌∙◌}
use Rattle.pf_state.specs.Words.{IsEntryWord}
use Rattle.pf_table.specs.declared.entry.Entry.{Entry}
use Rattle.pf_state.specs.Words.{ReadsAll}
use Rattle.pf_engine.proofs.Tabling.{GoesOn, all_read, begins, not_read, one_more}
use Rattle.pf_engine.proofs.tables.entries_of.Goals as goal

pub loop-word-init : goal.loop-word-init
loop-word-init c = subst (λ (items : List Entry). GoesOn IsEntryWord c.args.words c.args.words items) (sym c.new-entries.ensures) (begins IsEntryWord c.args.words)

pub loop-word-preserved : goal.loop-word-preserved
loop-word-preserved c =
    one_more IsEntryWord c.args.words c.loop-word.left c.next_word.new.self c.loop-word.entries c.push.new.self c.in-Some.word.now c.in-Some-entry_of.entry
    c.in-Some.ensures.some c.in_ok-push-in-Some-entry_of.ensures.ok c.in-Some-entry_of.ensures.found c.loop-word.invariant

pub returns-in-None : goal.returns-in-None
returns-in-None c =
    subst (λ (word : List ℕ). ReadsAll IsEntryWord c.args.words (Err word)) (sym (c.of.ensures ∙ c.in_ok-from_slice-in-None.ensures.items))
    (not_read IsEntryWord c.args.words c.loop-word.left c.next_word.new.self c.loop-word.entries c.in-Some.word.now c.in-Some.ensures.some c.in-None.ensures.none c.loop-word.invariant)

pub returns : goal.returns
returns c = all_read IsEntryWord c.args.words c.loop-word.left c.loop-word.entries c.in_default.ensures.none c.loop-word.invariant

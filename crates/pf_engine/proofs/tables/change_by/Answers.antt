use Rattle.pf_engine.proofs.Changing.{by_words, not_words}
use Rattle.pf_engine.proofs.tables.change_by.Goals as goal

pub returns-in-All-clause-answers : goal.returns-in-All-clause-answers
returns-in-All-clause-answers c =
    by_words c.args.machine.now c.change.new.machine c.args.path.now c.args.name.now c.args.kind c.args.words c.in_ok-entries.field-0 c.in-All.entries c.items.result.now c.change.result c.args.out.now.items c.change.new.out.items
    c.in_ok-entries.ensures c.in-All.is c.items.ensures c.change.ensures.answers

pub returns-in-Not-clause-answers : goal.returns-in-Not-clause-answers
returns-in-Not-clause-answers c =
    not_words c.args.machine.now c.args.path.now c.args.name.now c.args.kind c.args.words c.in_ok-entries.field-0 c.in-Not.word c.refuse.result c.args.out.now.items c.refuse.new.out.items
    c.in_ok-entries.ensures c.in-Not.is c.refuse.ensures.refused c.refuse.ensures.told

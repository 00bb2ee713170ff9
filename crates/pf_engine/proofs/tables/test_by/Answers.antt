use Rattle.pf_engine.proofs.Changing.{not_addrs, test_words}
use Rattle.pf_engine.proofs.tables.test_by.Goals as goal

pub returns-in-All-clause-answers : goal.returns-in-All-clause-answers
returns-in-All-clause-answers c =
    test_words c.args.machine.now c.args.path.now c.args.name.now c.args.words c.in_ok-addrs.field-0 c.in-All.addrs c.items.result.now c.test_table.result c.args.out.now.items c.test_table.new.out.items
    c.in_ok-addrs.ensures c.in-All.is c.items.ensures c.test_table.ensures.answers

pub returns-in-Not-clause-answers : goal.returns-in-Not-clause-answers
returns-in-Not-clause-answers c =
    not_addrs c.args.machine.now c.args.path.now c.args.name.now c.args.words c.in_ok-addrs.field-0 c.in-Not.word c.refuse.result c.args.out.now.items c.refuse.new.out.items
    c.in_ok-addrs.ensures c.in-Not.is c.refuse.ensures.refused c.refuse.ensures.told

use Rattle.pf_script.specs.declared.command.TableAction.TheVariants as actions
use Rattle.pf_engine.proofs.Changing.{by_action}
use Rattle.pf_engine.proofs.tables.act.Goals as goal

pub returns-in-Add-clause-answers : goal.returns-in-Add-clause-answers
returns-in-Add-clause-answers c = by_action c.args.machine.now c.change_by.new.machine c.args.path.now c.args.name.now c.args.action (actions.Add c.in-Add.words) c.change_by.result c.args.out.now.items c.change_by.new.out.items c.in-Add.is c.change_by.ensures.answers

pub returns-in-Delete-clause-answers : goal.returns-in-Delete-clause-answers
returns-in-Delete-clause-answers c = by_action c.args.machine.now c.change_by-in-Delete.new.machine c.args.path.now c.args.name.now c.args.action (actions.Delete c.in-Delete.words) c.change_by-in-Delete.result c.args.out.now.items c.change_by-in-Delete.new.out.items c.in-Delete.is c.change_by-in-Delete.ensures.answers

pub returns-in-Replace-clause-answers : goal.returns-in-Replace-clause-answers
returns-in-Replace-clause-answers c = by_action c.args.machine.now c.change_by-in-Replace.new.machine c.args.path.now c.args.name.now c.args.action (actions.Replace c.in-Replace.words) c.change_by-in-Replace.result c.args.out.now.items c.change_by-in-Replace.new.out.items c.in-Replace.is c.change_by-in-Replace.ensures.answers

pub returns-in-Flush-clause-answers : goal.returns-in-Flush-clause-answers
returns-in-Flush-clause-answers c = by_action c.args.machine.now c.change.new.machine c.args.path.now c.args.name.now c.args.action (actions.Flush) c.change.result c.args.out.now.items c.change.new.out.items c.in-Flush.is c.change.ensures.answers

pub returns-in-Show-clause-answers : goal.returns-in-Show-clause-answers
returns-in-Show-clause-answers c = by_action c.args.machine.now c.args.machine.now c.args.path.now c.args.name.now c.args.action (actions.Show) c.show_table.result c.args.out.now.items c.show_table.new.out.items c.in-Show.is c.show_table.ensures.answers

pub returns-in-Test-clause-answers : goal.returns-in-Test-clause-answers
returns-in-Test-clause-answers c = by_action c.args.machine.now c.args.machine.now c.args.path.now c.args.name.now c.args.action (actions.Test c.in-Test.words) c.test_by.result c.args.out.now.items c.test_by.new.out.items c.in-Test.is c.test_by.ensures.answers

use Rattle.std.proofs.Common.{subst}
use Rattle.std.specs.Prelude.{IfOk}
use Rattle.pf_state.specs.declared.machine.Machine.{Machine}
use Rattle.pf_engine.specs.Answering.{Adds, DoesSo, is_refused}
use Rattle.pf_engine.specs.TableLines.{TableDoes}
use Rattle.pf_engine.proofs.engine.Engine.table.Goals as goal

pub returns-clause-answers : goal.returns-clause-answers
returns-clause-answers c =
    subst (λ (machine : Machine). IfOk c.act.result (λ outcome. Adds c.args.out.now.items c.act.new.out.items (λ bytes. DoesSo (TableDoes machine c.args.path.now c.args.name.now c.args.action) c.act.new.machine bytes (is_refused outcome))))
    c.self.view_is c.act.ensures.answers

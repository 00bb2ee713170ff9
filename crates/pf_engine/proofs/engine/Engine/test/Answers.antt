use Rattle.std.proofs.Common.{refl, Ok, Err}
use Rattle.pf_reply.specs.declared.refusal.Refusal.TheVariants.{BadPacket}
use Rattle.pf_engine.specs.TestLines.{TestDoes, tested}
use Rattle.pf_engine.specs.declared.outcome.Outcome.TheVariants.{Done}
use Rattle.pf_engine.proofs.Doing.{refused_so, told_so}
use Rattle.pf_engine.proofs.engine.Engine.test.Goals as goal

pub returns-in_ok-tell_answer-in-Ok-clause-answers : goal.returns-in_ok-tell_answer-in-Ok-clause-answers
returns-in_ok-tell_answer-in-Ok-clause-answers c =
    let machine = c.args.self.now in
    told_so (TestDoes machine c.args.text.now) (tested machine (Ok c.in-Ok.packet)) machine Done c.args.out.now.items c.tell_answer.new.out.items _
    (record { read = Ok c.in-Ok.packet; reads = c.in-Ok.ensures.reads; is = refl }) refl refl refl c.in_ok-tell_answer-in-Ok.ensures.told

pub returns-in-Err-clause-answers : goal.returns-in-Err-clause-answers
returns-in-Err-clause-answers c =
    let machine = c.args.self.now in
    refused_so (TestDoes machine c.args.text.now) machine (BadPacket c.in-Err.field-0.0) c.refuse.result c.args.out.now.items c.refuse.new.out.items
    (record { read = Err c.in-Err.field-0; reads = c.in-Err.ensures.reads; is = refl }) c.refuse.ensures.refused
    c.refuse.ensures.told

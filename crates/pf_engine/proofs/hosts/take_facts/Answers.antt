use Rattle.std.proofs.Common.{length, ap, ◌∙◌}
use Rattle.pf_engine.proofs.FactsTaken.{so_refused, so_taken}
use Rattle.pf_engine.proofs.hosts.take_facts.Goals as goal

pub returns-in_ok-tell-in-Is-clause-answers : goal.returns-in_ok-tell-in-Is-clause-answers
returns-in_ok-tell-in-Is-clause-answers c =
    so_taken c.args.machine.now c.put_facts.new.machine c.args.read c.in-Is.facts (length c.interfaces.result.now) c.args.out.now.items c.tell.new.out.items c.deref.result.now
    c.in-Is.is (ap length c.interfaces.ensures) c.put_facts.ensures (c.deref.ensures.value ∙ c.in_ok-reply_line-in-Is.ensures) c.in_ok-tell-in-Is.ensures.ok

pub returns-in-Refused-clause-answers : goal.returns-in-Refused-clause-answers
returns-in-Refused-clause-answers c =
    so_refused c.args.machine.now c.args.read c.in-Refused.refusal c.refuse.result c.args.out.now.items c.refuse.new.out.items c.in-Refused.is c.refuse.ensures.refused c.refuse.ensures.told

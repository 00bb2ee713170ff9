use Rattle.std.proofs.Common.{◌≡◌, true, sym, subst}
use Rattle.pf_rule.specs.Effect.{is_deciding}
use Rattle.pf_rule.specs.declared.walk.Answer.{Answer}
use Rattle.pf_engine.proofs.Decided.{answer_decides}
use Rattle.pf_engine.proofs.engine.Engine.tell_answer.Goals as goal

pub put_answer-requires : goal.put_answer-requires
put_answer-requires c =
    subst (λ (answer : Answer). is_deciding answer.decision.action ≡ true) (sym c.ask.ensures)
    (answer_decides c.args.self.now.rulesets c.args.self.now.facts c.args.self.now.whole.skip c.args.packet.now)

-- The answer to a packet.
use Rattle.std.specs.Prelude.{List, false}
use Rattle.pf_rule.specs.Around.{Around}
use Rattle.pf_rule.specs.Laying.{laid_over}
use Rattle.pf_rule.specs.Opening.{opening_walk}
use Rattle.pf_rule.specs.Walk.{walked}
use Rattle.pf_rule.specs.declared.packet.Packet.{Packet}
use Rattle.pf_rule.specs.declared.params.Params.{Params}
use Rattle.pf_rule.specs.declared.rule.Rule.{Rule}
use Rattle.pf_rule.specs.declared.walk.Answer.{Answer}
use Rattle.pf_rule.specs.declared.walk.Decision.{Decision}
use Rattle.pf_rule.specs.declared.walk.Walk.{Walk}

-- a decision with its parameters laid over those that match rules have set
abbrev pub decision_over : Decision → Params → Decision
decision_over decision params = record decision { params = laid_over decision.params params }

-- the walk's tag, and its last decision over its parameters
abbrev pub answer_of_walk : Walk → Answer
answer_of_walk walk = record { skip = false; tag = walk.tag; decision = decision_over walk.last walk.params }

-- what the rules as written answer: the walk through them from its opening
unfoldable pub answer_of : Around → List Rule → Packet → Answer
answer_of around rules packet = answer_of_walk (walked around rules (opening_walk packet))

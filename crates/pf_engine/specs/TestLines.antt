-- `test RECORD`: what the rulesets answer to a packet. The answer is that of the walk through the rules as they are written.
use Rattle.std.specs.Prelude.{◌≡◌, ℕ, false, List, [], ◌∷◌, Result, Ok, Err}
use Rattle.pf_eval.specs.Answers.{answer_of}
use Rattle.pf_record.specs.AnswerText.{answer_text}
use Rattle.pf_record.specs.Record.{IsReadAs}
use Rattle.pf_record.specs.declared.field.PacketFault.{PacketFault}
use Rattle.pf_rule.specs.declared.packet.Packet.{Packet}
use Rattle.pf_rule.specs.declared.walk.Answer.{Answer}
use Rattle.pf_reply.specs.declared.refusal.Refusal.TheVariants.{BadPacket}
use Rattle.pf_runs.specs.Runs.{Stepped}
use Rattle.pf_state.specs.declared.machine.Machine.{Machine}
use Rattle.pf_engine.specs.Steps.{refused}

-- the answer of the machine to a packet
abbrev pub asked : Machine → Packet → Answer
asked machine packet = answer_of machine.rulesets machine.facts machine.whole.skip packet

abbrev pub tested : Machine → Result Packet PacketFault → Stepped Machine
tested machine (Ok packet) = record { machine = machine; reply = answer_text (asked machine packet) ∷ []; refused = false; unread = [] }
tested machine (Err fault) = refused machine (BadPacket fault.0)

pub record TestDoes (machine : Machine) (text : List ℕ) (does : Stepped Machine) : Type 0 where
  pub read : Result Packet PacketFault
  pub reads : IsReadAs text read
  pub is : does ≡ tested machine read

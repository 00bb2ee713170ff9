-- The machines that scripts reach, and what they answer by a walk.
use Rattle.std.specs.Prelude.{◌≡◌, ℕ, List, [], if◌then◌else◌}
use Rattle.pf_eval.specs.Answers.{is_skipped, skipped_answer}
use Rattle.pf_rule.specs.Answer.{answer_of_walk}
use Rattle.pf_rule.specs.Opening.{opening_walk}
use Rattle.pf_rule.specs.declared.packet.Packet.{Packet}
use Rattle.pf_rule.specs.declared.walk.Answer.{Answer}
use Rattle.pf_rule.specs.declared.walk.Walk.{Walk}
use Rattle.pf_runs.specs.Runs.{Event, Follow, machine_after}
use Rattle.pf_source.specs.Disk.{Disk}
use Rattle.pf_state.specs.Machine.{empty_machine}
use Rattle.pf_state.specs.declared.machine.Machine.{Machine}
use Rattle.pf_engine.specs.Step.{step}

-- a machine that lines leave, which were executed from the empty machine on, with outages of files or without
pub record IsReached (machine : Machine) : Type 0 where
  pub disk : Disk
  pub events : List (Event Machine)
  pub follow : Follow step disk empty_machine events
  pub is : machine ≡ machine_after empty_machine events

-- the answer to a packet, where from each path the rules are walked like this; on an interface of `set skip` none is
abbrev pub answer_by : (List (List ℕ) → Walk → Walk) → Machine → Packet → Answer
answer_by walk_from machine packet =
    if is_skipped machine.facts machine.whole.skip (opening_walk packet) then skipped_answer (opening_walk packet) else answer_of_walk (walk_from [] (opening_walk packet))

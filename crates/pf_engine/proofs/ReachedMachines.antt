-- What is true of each machine that a script reaches.
use Rattle.std.proofs.Common.{◌≡◌, ℕ, List, [], ◌∷◌, sym, ap, subst, if◌then◌else◌}
use Rattle.pf_calls.specs.Graph.{IsShallow}
use Rattle.pf_eval.specs.Answers.{answer_of, is_skipped, skipped_answer, written_world}
use Rattle.pf_eval.specs.World.{IsWalk, packet_walker, walk_at}
use Rattle.pf_rule.specs.Answer.{answer_of_walk}
use Rattle.pf_rule.specs.Opening.{opening_walk}
use Rattle.pf_rule.specs.declared.packet.Packet.{Packet}
use Rattle.pf_rule.specs.declared.walk.Walk.{Walk}
use Rattle.pf_runs.specs.Runs.{Event, Follow, Stepped, machine_after}
use Rattle.pf_source.specs.Disk.{Disk, without}
use Rattle.pf_state.specs.Machine.{empty_machine}
use Rattle.pf_state.specs.Rulesets.{graph_in}
use Rattle.pf_state.specs.declared.machine.Machine.{Machine}
use Rattle.pf_engine.specs.Reached.{IsReached, answer_by}
use Rattle.pf_engine.specs.Step.{step}
use Rattle.pf_engine.specs.TestLines.{asked}

abbrev IsCalm : Machine → Type 0
IsCalm machine = IsShallow (graph_in machine.rulesets) 64

-- what each line keeps
abbrev pub StaysCalm : Type 0
StaysCalm = (disk : Disk) (machine : Machine) (line : List ℕ) (does : Stepped Machine) → IsShallow (graph_in machine.rulesets) 64 → step disk machine line does → IsShallow (graph_in does.machine.rulesets) 64

followed : StaysCalm → (disk : Disk) (machine : Machine) (events : List (Event Machine)) → IsCalm machine → Follow step disk machine events → IsCalm (machine_after machine events)
followed stays disk machine [] calm follow = calm
followed stays disk machine (event ∷ events) calm follow =
    followed stays disk event.does.machine events (stays (without event.outage disk) machine event.line event.does calm follow.0) follow.2

pub reached_shallow : StaysCalm → IsShallow (graph_in empty_machine.rulesets) 64 → (machine : Machine) → IsReached machine → IsShallow (graph_in machine.rulesets) 64
reached_shallow stays first machine reached = subst IsCalm (sym reached.is) (followed stays reached.disk empty_machine reached.events first reached.follow)

-- the answer is that of a walk which is the one with a bound
pub same_answer : (machine : Machine) (walk_from : List (List ℕ) → Walk → Walk) (packet : Packet)
    → walk_from [] (opening_walk packet) ≡ walk_at packet_walker (written_world machine.rulesets machine.facts) [] (opening_walk packet)
    → asked machine packet ≡ answer_by walk_from machine packet
unfolding answer_of
same_answer machine walk_from packet same =
    ap (λ (walk : Walk). if is_skipped machine.facts machine.whole.skip (opening_walk packet) then skipped_answer (opening_walk packet) else answer_of_walk walk) (sym same)

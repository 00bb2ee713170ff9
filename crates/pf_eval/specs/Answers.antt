-- What the rulesets of a tree answer to a packet (pf.conf(5), PACKET FILTERING, ANCHORS and "set skip").
use Rattle.std.specs.Prelude.{ℕ, Bool, List, [], true, if◌then◌else◌}
use Rattle.std.specs.FinMap as fin
use Rattle.pf_eval.specs.Rulesets.{Rulesets, around_in, automatic_in, named_children, optimised_in, tables_in, written_in}
use Rattle.pf_eval.specs.World.{World, packet_walker, walk_at}
use Rattle.pf_host.specs.Facts.{HostFacts}
use Rattle.pf_host.specs.Queries.{in_group}
use Rattle.pf_rule.specs.Answer.{answer_of_walk}
use Rattle.pf_rule.specs.Opening.{opening_walk}
use Rattle.pf_rule.specs.Probe.{skipped_by}
use Rattle.pf_rule.specs.declared.packet.Packet.{Packet}
use Rattle.pf_rule.specs.declared.walk.Answer.{Answer}
use Rattle.pf_rule.specs.declared.walk.Walk.{Walk}

-- the rules as they are written, which name no table of the optimiser's
abbrev pub written_world : Rulesets → HostFacts → World
written_world trees facts = record {
  rules = λ at. written_in (fin.get trees at);
  around = λ at. around_in facts (tables_in (fin.get trees at)) (tables_in (fin.get trees [])) [];
  children = named_children trees;
}

-- the optimised rules, with the tables that they name
abbrev pub optimised_world : Rulesets → HostFacts → World
optimised_world trees facts = record {
  rules = λ at. optimised_in (fin.get trees at);
  around = λ at. around_in facts (tables_in (fin.get trees at)) (tables_in (fin.get trees [])) (automatic_in (fin.get trees at));
  children = named_children trees;
}

-- the packet's interface is one that `set skip` names
abbrev pub is_skipped : HostFacts → List (List ℕ) → Walk → Bool
is_skipped facts skip walk = skipped_by (in_group facts) skip walk

-- after the rules as they are written, from the main ruleset on
abbrev pub walked_from_main : Rulesets → HostFacts → Walk → Walk
walked_from_main trees facts walk = walk_at packet_walker (written_world trees facts) [] walk

-- a skipped packet passes with the tag and the decision that it came with
abbrev pub skipped_answer : Walk → Answer
skipped_answer walk = record (answer_of_walk walk) { skip = true }

-- the answer to a walk
abbrev pub answer_from : Rulesets → HostFacts → List (List ℕ) → Walk → Answer
answer_from trees facts skip walk =
    if is_skipped facts skip walk then skipped_answer walk else answer_of_walk (walked_from_main trees facts walk)

-- the answer to a packet
unfoldable pub answer_of : Rulesets → HostFacts → List (List ℕ) → Packet → Answer
answer_of trees facts skip packet = answer_from trees facts skip (opening_walk packet)

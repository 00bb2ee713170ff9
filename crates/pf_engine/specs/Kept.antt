-- What is true of the machine between lines.
use Rattle.std.specs.Prelude.{◌<◌, ◌≤◌}
use Rattle.pf_calls.specs.Graph.{IsShallow}
use Rattle.pf_state.specs.Limits.{most_entries}
use Rattle.pf_state.specs.Rulesets.{count_entries, graph_in}
use Rattle.pf_state.specs.declared.machine.Machine.{Machine}

-- no more entries stand than may, the next ticket isn't 0, which stands for none, no ruleset calls itself, and no more than 64 call
-- one another in a chain
pub record IsKept (machine : Machine) : Type 0 where
  pub entries : count_entries machine.rulesets ≤ most_entries
  pub drawn : 0 < machine.next
  pub shallow : IsShallow (graph_in machine.rulesets) 64

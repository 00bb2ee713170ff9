-- The machine: what stands between two script lines. Rulesets by their paths, the settings of the whole, the facts of the host,
-- the open sessions by their names, and the tickets by which a session learns that another load came between (pf(4), DIOCXBEGIN).
use Rattle.std.specs.Prelude.{ℕ, List, [], Option, None}
use Rattle.std.specs.FinMap as finite
use Rattle.std.specs.Option.{option_map_or}
use Rattle.pf_host.specs.Facts.{no_facts}
use Rattle.pf_optim.specs.declared.node.Node.{Node}
use Rattle.pf_plan.specs.declared.plan.Whole.{Whole}
use Rattle.pf_shelf.specs.Shelf.{name_cmp}
use Rattle.pf_tree.specs.Order.{path_cmp}
use Rattle.pf_state.specs.declared.machine.Machine.{Machine}
use Rattle.pf_state.specs.declared.ready.Opened.{Opened}

-- no options, no interfaces that are passed over, no queues
abbrev pub no_settings : Whole
no_settings = record { options = []; skip = []; queues = [] }

-- at first nothing stands, and the first ticket is 1
abbrev pub empty_machine : Machine
empty_machine = record {
  rulesets = finite.empty;
  whole = no_settings;
  facts = no_facts;
  sessions = finite.empty;
  tickets = finite.empty;
  next = 1;
}

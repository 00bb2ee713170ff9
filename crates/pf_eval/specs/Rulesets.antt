-- The rulesets of a tree of anchors, and what stands around the rules of each (pf.conf(5), ANCHORS and TABLES).
use Rattle.std.specs.Prelude.{◌≡◌, ℕ, Bool, false, List, [], not, Option, Some, None}
use Rattle.std.specs.FinMap as fin
use Rattle.std.specs.List.{filter, filter_map, slice_get}
use Rattle.std.specs.Option.{option_map_or, option_or}
use Rattle.pf_addr.specs.declared.addr.Addr.{Addr}
use Rattle.pf_auto.specs.declared.merging.AutoTable.{AutoTable}
use Rattle.pf_base.specs.Path.{is_reserved}
use Rattle.pf_calls.specs.Calls.{call_graph}
use Rattle.pf_calls.specs.Graph.{Graph}
use Rattle.pf_host.specs.Facts.{HostFacts}
use Rattle.pf_host.specs.Queries.{dynamic, in_group}
use Rattle.pf_optim.specs.Ruleset.{IsSound, form_of}
use Rattle.pf_optim.specs.declared.node.Node.{Node}
use Rattle.pf_parts.specs.declared.call.Call.{Call}
use Rattle.pf_rule.specs.Around.{Around, around_by}
use Rattle.pf_rule.specs.declared.criteria.AddrSet.{AddrSet}
use Rattle.pf_rule.specs.declared.criteria.AddrSet.TheVariants.{Prefix, Range, Table, Dynamic, Auto}
use Rattle.pf_rule.specs.declared.effect.Action.{Action}
use Rattle.pf_rule.specs.declared.effect.Action.TheVariants.{Pass, Block, Match, Anchor}
use Rattle.pf_rule.specs.declared.rule.Rule.{Rule}
use Rattle.pf_shelf.specs.Shelf.{Tables}
use Rattle.pf_table.specs.Table.{entries_of, member}
use Rattle.pf_table.specs.declared.entry.Entry.{Entry}
use Rattle.pf_tree.specs.Order.{path_cmp}
use Rattle.pf_tree.specs.Paths.{child_names}

-- the rulesets by their paths, each with its tables; a path without rules and tables has none
abbrev pub Rulesets : Type 0
Rulesets = fin.FinMap path_cmp Node

-- the rules of a ruleset as they are written
abbrev pub written_in : Option Node → List Rule
written_in None = []
written_in (Some node) = node.rules.rules

-- the optimised ones
abbrev pub optimised_in : Option Node → List Rule
optimised_in None = []
optimised_in (Some node) = (form_of node.rules).rules

-- the tables that the optimiser made
abbrev pub automatic_in : Option Node → List AutoTable
automatic_in None = []
automatic_in (Some node) = (form_of node.rules).tables

-- the declared tables
abbrev pub tables_in : Option Node → Tables
tables_in None = fin.empty
tables_in (Some node) = node.shelf

-- the entries of the table of this name: that of the ruleset itself, or where it declares none, the main ruleset's; where
-- neither has one there are none
abbrev pub entries_named : Tables → Tables → List ℕ → List Entry
entries_named own main name =
    option_map_or (λ found. entries_of found.table) (option_or (fin.get own name) (fin.get main name)) []

-- the entries of the table that the optimiser made with this number; they are numbered from 0 in their order
abbrev pub entries_made : List AutoTable → ℕ → List Entry
entries_made made number = option_map_or (λ table. table.entries) (slice_get made number) []

-- whether an address is in a table
abbrev pub member_by : Tables → Tables → List AutoTable → AddrSet → Addr → Bool
member_by own main made (Table name) addr = member (entries_named own main name) addr
member_by own main made (Auto number) addr = member (entries_made made number) addr
member_by own main made (Prefix prefix) addr = false
member_by own main made (Range range) addr = false
member_by own main made (Dynamic what) addr = false

-- what stands around the rules of a ruleset: its own tables, then the main ruleset's, those that the optimiser made, and
-- the interfaces of the host
abbrev pub around_in : HostFacts → Tables → Tables → List AutoTable → Around
around_in facts own main made = around_by (member_by own main made) (in_group facts) (dynamic facts)

-- the names of the rulesets right below a path, in byte order, without those of anchors that have no name: these begin with `_`
abbrev pub named_children : Rulesets → List (List ℕ) → List (List ℕ)
named_children trees at = filter (λ name. not (is_reserved name)) (child_names trees at)

-- the call of an anchor rule
abbrev pub call_of : Action → Option Call
call_of (Anchor call) = Some call
call_of Pass = None
call_of (Block kind) = None
call_of Match = None

abbrev pub calls_in : List Rule → List Call
calls_in rules = filter_map (λ rule. call_of rule.effect.action) rules

-- which rulesets call which, by their anchor rules as they are written
abbrev pub graph_in : Rulesets → Graph (List (List ℕ))
graph_in trees = call_graph (fin.keys trees) (λ at. calls_in (written_in (fin.get trees at)))

-- all rulesets are of the kind that a ruleset is
pub record AreSound (trees : Rulesets) : Type 0 where
  pub each : (at : List (List ℕ)) (node : Node) → fin.get trees at ≡ Some node → IsSound node.rules

-- The rulesets of the tree of anchors (pf.conf(5), ANCHORS): by their paths, each with its rules and its declared tables.
use Rattle.std.specs.Prelude.{ℕ, List, [], length, map, Option, Some, None}
use Rattle.std.specs.FinMap as finite
use Rattle.std.specs.List.{filter_map, sum_by}
use Rattle.pf_calls.specs.Calls.{call_graph}
use Rattle.pf_calls.specs.Graph.{Graph}
use Rattle.pf_optim.specs.declared.node.Node.{Node}
use Rattle.pf_parts.specs.declared.call.Call.{Call}
use Rattle.pf_rule.specs.declared.effect.Action.{Action}
use Rattle.pf_rule.specs.declared.effect.Action.TheVariants.{Pass, Block, Match, Anchor}
use Rattle.pf_rule.specs.declared.rule.Rule.{Rule}
use Rattle.pf_shelf.specs.Shelf.{Tables, total}
use Rattle.pf_tree.specs.Order.{path_cmp}

-- a path without rules and tables has no ruleset
abbrev pub Rulesets : Type 0
Rulesets = finite.FinMap path_cmp Node

-- the rules of a ruleset as they are written
abbrev pub written_in : Option Node → List Rule
written_in None = []
written_in (Some node) = node.rules.rules

-- its declared tables
abbrev pub tables_in : Option Node → Tables
tables_in None = finite.empty
tables_in (Some node) = node.shelf

-- the call of an anchor rule
abbrev pub call_of : Action → Option Call
call_of (Anchor call) = Some call
call_of Pass = None
call_of (Block kind) = None
call_of Match = None

abbrev pub calls_in : List Rule → List Call
calls_in rules = filter_map (λ rule. call_of rule.effect.action) rules

-- which rulesets call which, by their anchor rules as they are written
abbrev pub graph_in : Rulesets → Graph (List (List ℕ))
graph_in rulesets = call_graph (finite.keys rulesets) (λ at. calls_in (written_in (finite.get rulesets at)))

-- the number of rules as they are written, and of the entries of all declared tables
abbrev pub count_rules : Rulesets → ℕ
count_rules rulesets = sum_by (λ node. length node.rules.rules) (finite.values rulesets)

abbrev pub count_entries : Rulesets → ℕ
count_entries rulesets = sum_by (λ node. total node.shelf) (finite.values rulesets)

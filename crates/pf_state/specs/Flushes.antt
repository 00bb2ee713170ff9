-- `flush rules PATH` (pfctl(8), Loads and sessions): the rules of one ruleset and the rulesets of anchors without a name below
-- it go; its tables stay. The path is begun anew.
use Rattle.std.specs.Prelude.{ℕ, not, List, [], ◌∷◌, Option, Some, None}
use Rattle.std.specs.FinMap as finite
use Rattle.std.specs.Option.{option_and_then}
use Rattle.pf_base.specs.declared.kind.Level.TheVariants.{None as at_no_level}
use Rattle.pf_optim.specs.Ruleset.{written_of}
use Rattle.pf_optim.specs.declared.node.Node.{Node}
use Rattle.pf_tree.specs.Meaning.{put_payload}
use Rattle.pf_tree.specs.Paths.{is_nameless_below}
use Rattle.pf_state.specs.Commits.{shown_node}
use Rattle.pf_state.specs.Rulesets.{Rulesets}
use Rattle.pf_state.specs.Tickets.{drawn}
use Rattle.pf_state.specs.declared.machine.Machine.{Machine}

-- a ruleset's tables without its rules
abbrev pub without_rules : Node → Node
without_rules node = record node { rules = written_of [] at_no_level [] }

-- what is left of it
abbrev pub left_of : Node → Option Node
left_of node = shown_node (without_rules node)

abbrev pub flushed_rulesets : List (List ℕ) → Rulesets → Rulesets
flushed_rulesets path rulesets =
    put_payload (finite.retain_keys rulesets (λ at. not (is_nameless_below path at))) path (option_and_then left_of (finite.get rulesets path))

abbrev pub flushed : List (List ℕ) → Machine → Machine
flushed path machine = record (drawn (path ∷ []) machine) { rulesets = flushed_rulesets path machine.rulesets }

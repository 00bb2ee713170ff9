-- What a load puts in place, all at once (pf(4), DIOCXCOMMIT; pf.conf(5), TABLES): the rules of each of its rulesets replace
-- those that stand there, its tables are renewed from those that stand there, and the rulesets of anchors without a name that
-- stand below go. All others stay as they are.
use Rattle.std.specs.Prelude.{ℕ, Bool, not, List, [], ◌∷◌, find, map, length, Option, Some, None, if◌then◌else◌}
use Rattle.std.specs.FinMap as finite
use Rattle.std.specs.List.{list_any}
use Rattle.pf_base.specs.declared.kind.Level.{Level}
use Rattle.pf_calls.specs.Calls.{path_eq}
use Rattle.pf_optim.specs.Node.{is_bare}
use Rattle.pf_optim.specs.Profile.{weights_of}
use Rattle.pf_optim.specs.Ruleset.{written_of}
use Rattle.pf_optim.specs.declared.node.Node.{Node}
use Rattle.pf_optim.specs.declared.rows.Row.{Row}
use Rattle.pf_plan.specs.declared.plan.Part.{Part}
use Rattle.pf_plan.specs.declared.plan.Plan.{Plan}
use Rattle.pf_plan.specs.declared.plan.Whole.{Whole}
use Rattle.pf_shelf.specs.Renewed.{renewed}
use Rattle.pf_shelf.specs.Shelf.{Tables}
use Rattle.pf_tree.specs.Meaning.{put_payload, shown}
use Rattle.pf_tree.specs.Paths.{is_nameless_below}
use Rattle.pf_state.specs.Rulesets.{Rulesets, tables_in}
use Rattle.pf_state.specs.Tickets.{drawn}
use Rattle.pf_state.specs.declared.machine.Machine.{Machine}
use Rattle.pf_state.specs.declared.ready.Ready.{Ready}
use Rattle.pf_state.specs.declared.ready.Staged.{Staged}

-- a ruleset of a plan with the level and the weights by which it is optimised: how often the profile says each rule was used
abbrev pub staged_of : Level → List Row → Part → Staged
staged_of level profile part = record {
  path = part.path;
  rules = written_of part.rules level (weights_of profile part.path (length part.rules));
  tables = part.tables;
}

-- a plan with the weights of a profile
abbrev pub ready_of : List Row → Plan → Ready
ready_of profile plan = record { parts = map (staged_of plan.level profile) plan.parts; whole = plan.whole }

-- the paths of its rulesets
abbrev pub paths_of : List Staged → List (List (List ℕ))
paths_of parts = map (λ part. part.path) parts

-- its tables, renewed from those that stand at its path
abbrev pub shelf_of : Rulesets → Staged → Tables
shelf_of rulesets part = renewed (tables_in (finite.get rulesets part.path)) part.tables

-- what stands at its path then
abbrev pub node_of : Rulesets → Staged → Node
node_of rulesets part = record { rules = part.rules; shelf = shelf_of rulesets part }

-- nothing where it has neither rules nor tables
abbrev pub shown_node : Node → Option Node
shown_node node = shown (λ (node : Node). is_bare node.rules node.shelf) node

-- whether a path is that of a nameless anchor below one of the rulesets, or stands below such a one
abbrev pub is_cleared : List Staged → List (List ℕ) → Bool
is_cleared parts at = list_any (λ part. is_nameless_below part.path at) parts

-- each ruleset of the list is put at its path
abbrev pub with_parts : Rulesets → List Staged → Rulesets → Rulesets
with_parts before [] rulesets = rulesets
with_parts before (part ∷ parts) rulesets = put_payload (with_parts before parts rulesets) part.path (shown_node (node_of before part))

-- the rulesets after a load
abbrev pub committed : List Staged → Rulesets → Rulesets
committed parts rulesets = with_parts rulesets parts (finite.retain_keys rulesets (λ at. not (is_cleared parts at)))

-- the ruleset of the list with this path
abbrev pub part_at : List Staged → List (List ℕ) → Option Staged
part_at parts path = find (λ part. path_eq path part.path) parts

-- what stands at a path after the load: the part that fills it; else nothing where it goes, and else what stands there
abbrev pub stands_by : List Staged → Rulesets → List (List ℕ) → Option Staged → Option Node
stands_by parts rulesets path (Some part) = shown_node (node_of rulesets part)
stands_by parts rulesets path None = if is_cleared parts path then None else finite.get rulesets path

abbrev pub stands_at : List Staged → Rulesets → List (List ℕ) → Option Node
stands_at parts rulesets path = stands_by parts rulesets path (part_at parts path)

-- the settings of the whole, where a load is into the main ruleset
abbrev pub settings_behind : Whole → Option Whole → Whole
settings_behind whole None = whole
settings_behind whole (Some new) = new

-- the machine with a plan in place
abbrev pub placed : Ready → Machine → Machine
placed ready machine = record machine { rulesets = committed ready.parts machine.rulesets; whole = settings_behind machine.whole ready.whole }

-- a load draws a ticket for its rulesets and puts its plan in place, in one event
abbrev pub loaded : Ready → Machine → Machine
loaded ready machine = placed ready (drawn (paths_of ready.parts) machine)

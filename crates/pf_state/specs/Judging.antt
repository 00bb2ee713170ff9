-- Whether a plan may be put in place: by the tree as it would stand then.
use Rattle.std.specs.Prelude.{◌≡◌, ◌↔◌, ℕ, ◌<◌, List, [], ◌∷◌, Option, Some, None}
use Rattle.std.specs.Option.{option_map}
use Rattle.pf_calls.specs.Graph.{Graph, IsDeep, IsFirstOnCycle, IsShallow}
use Rattle.pf_calls.specs.declared.row.CallFault.{CallFault}
use Rattle.pf_calls.specs.declared.row.CallFault.TheVariants.{Cycle, Deep}
use Rattle.pf_tree.specs.Order.{path_cmp}
use Rattle.pf_reply.specs.declared.refusal.Refusal.{Refusal}
use Rattle.pf_reply.specs.declared.refusal.Refusal.TheVariants as refusals
use Rattle.pf_state.specs.Commits.{committed, paths_of}
use Rattle.pf_state.specs.Limits.{first_of, plan_limits, tree_limits}
use Rattle.pf_state.specs.Rulesets.{Rulesets, graph_in}
use Rattle.pf_state.specs.Tickets.{stale}
use Rattle.pf_state.specs.declared.machine.Machine.{Machine}
use Rattle.pf_state.specs.declared.ready.Opened.{Opened}
use Rattle.pf_state.specs.declared.ready.Ready.{Ready}

-- What is wrong with the calls of rulesets: the first in path order that calls itself, over others or at once; or, where none
-- does, a chain of calls of more than 64; or nothing.
pub record CallsAre (graph : Graph (List (List ℕ))) (fault : Option CallFault) : Type 0 where
  pub cycle : (path : List (List ℕ)) → (fault ≡ Some (Cycle path)) ↔ IsFirstOnCycle graph path_cmp path
  pub deep : (depth : ℕ) → (fault ≡ Some (Deep depth)) ↔ ((64 < depth) × IsDeep graph depth)
  pub none : (fault ≡ None) ↔ IsShallow graph 64

abbrev pub call_refusal : CallFault → Refusal
call_refusal (Cycle path) = refusals.CallCycle path
call_refusal (Deep depth) = refusals.CallDepth depth

-- The refusal of rulesets that would stand in the tree: these first, then a fault of their calls, then the limits.
pub record Judged (first : List (Option Refusal)) (rulesets : Rulesets) (refusal : Option Refusal) : Type 0 where
  pub calls : Option CallFault
  pub are : CallsAre (graph_in rulesets) calls
  pub is : refusal ≡ first_of (first_of first ∷ option_map call_refusal calls ∷ tree_limits rulesets)

-- a plan that is loaded
abbrev pub LoadJudged : Machine → Ready → Option Refusal → Type 0
LoadJudged machine ready refusal = Judged [] (committed ready.parts machine.rulesets) refusal

-- the plan of a session: a ruleset that was begun anew since the session was opened comes first
abbrev pub CommitJudged : Machine → Opened → Option Refusal → Type 0
CommitJudged machine opened refusal =
    Judged (stale machine.tickets opened.ticket (paths_of opened.ready.parts) ∷ []) (committed opened.ready.parts machine.rulesets) refusal

-- The graph of calls: which rulesets an anchor rule leads to (pf.conf(5), ANCHORS).
use Rattle.std.specs.Prelude.{ℕ, Bool, true, false, List, [], ◌∷◌, ◌++◌, map, Option, Some, None, nat_eq, if◌then◌else◌}
use Rattle.std.specs.Option.{option_and_then}
use Rattle.std.specs.List.{filter_map, flat_map}
use Rattle.std.specs.Set.{is_member}
use Rattle.std.specs.Cmp.Lexicographic.{pointwise}
use Rattle.pf_base.specs.Path.{is_reserved}
use Rattle.pf_parts.specs.declared.call.Call.{Call}
use Rattle.pf_parts.specs.CallTarget.{target_of}
use Rattle.pf_tree.specs.Paths.{name_behind}
use Rattle.pf_calls.specs.declared.row.CallRow.{CallRow}
use Rattle.pf_calls.specs.Graph.{Graph}

abbrev pub path_eq : List (List ℕ) → List (List ℕ) → Bool
path_eq = pointwise (pointwise nat_eq)

-- a path with a name behind it, unless that begins with `_`
abbrev pub named_below : List (List ℕ) → List ℕ → Option (List (List ℕ))
named_below at name = if is_reserved name then None else Some (at ++ name ∷ [])

-- the child of a path on the way to another
abbrev pub child_on : List (List ℕ) → List (List ℕ) → Option (List (List ℕ))
child_on at path = option_and_then (named_below at) (name_behind at path)

-- the children of a path, over the paths of a map; one may stand here several times
abbrev pub children_of : List (List (List ℕ)) → List (List ℕ) → List (List (List ℕ))
children_of paths at = filter_map (child_on at) paths

-- a call leads to its target, and a wildcard to the target's children and not to the target itself
abbrev pub led_to : List (List (List ℕ)) → Bool → Option (List (List ℕ)) → List (List (List ℕ))
led_to paths children None = []
led_to paths false (Some target) = target ∷ []
led_to paths true (Some target) = children_of paths target

-- where a call of a rule at this path leads
abbrev pub called : List (List (List ℕ)) → List (List ℕ) → Call → List (List (List ℕ))
called paths at call = led_to paths call.children (target_of call at)

-- The call graph over the map with these paths: a step leads where a call of a rule at the path leads.
abbrev pub call_graph : List (List (List ℕ)) → (List (List ℕ) → List Call) → Graph (List (List ℕ))
call_graph paths calls = record { has = is_member path_eq paths; steps = λ at. flat_map (called paths at) (calls at) }

abbrev pub path_of : CallRow → List (List ℕ)
path_of row = row.path

abbrev pub paths_of : List CallRow → List (List (List ℕ))
paths_of rows = map path_of rows

-- the calls at a path, none where no row has it
abbrev pub calls_at : List CallRow → List (List ℕ) → List Call
calls_at [] at = []
calls_at (row ∷ rows) at = if path_eq at row.path then row.calls else calls_at rows at

-- the call graph of a map's rows
abbrev pub graph_of : List CallRow → Graph (List (List ℕ))
graph_of rows = call_graph (paths_of rows) (calls_at rows)

-- What the limits and the graph of calls see of the rulesets of a tree.
use Rattle.std.specs.Prelude.{◌≡◌, ℕ, List, [], ◌∷◌, ◌++◌, length, Option, Some, None, if◌then◌else◌}
use Rattle.std.specs.FinMap as finite
use Rattle.std.specs.Option.{option_map}
use Rattle.pf_parts.specs.declared.call.Call.{Call}
use Rattle.pf_optim.specs.declared.node.Node.{Node}
use Rattle.pf_shelf.specs.Shelf.{Tables, total}
use Rattle.pf_tree.specs.Meaning.{put_payload}
use Rattle.pf_tree.specs.Order.{path_cmp}
use Rattle.pf_state.specs.Commits.{is_cleared, shown_node}
use Rattle.pf_state.specs.Rulesets.{Rulesets, calls_in}
use Rattle.pf_state.specs.declared.outline.Outline.{Outline}
use Rattle.pf_state.specs.declared.ready.Staged.{Staged}

abbrev pub outline_of : Node → Outline
outline_of node = record { rules = length node.rules.rules; entries = total node.shelf; calls = calls_in node.rules.rules }

-- these are the outlines of the rulesets, at each path
pub record AreOutlined (rulesets : Rulesets) (outlines : finite.FinMap path_cmp Outline) : Type 0 where
  pub at : (path : List (List ℕ)) → finite.get outlines path ≡ option_map outline_of (finite.get rulesets path)

-- each ruleset with this shelf is put at its path
abbrev pub with_shelves : Rulesets → List Staged → List Tables → Rulesets
with_shelves rulesets [] shelves = rulesets
with_shelves rulesets (part ∷ parts) [] = rulesets
with_shelves rulesets (part ∷ parts) (shelf ∷ shelves) =
    put_payload (with_shelves rulesets parts shelves) part.path (shown_node (record { rules = part.rules; shelf = shelf }))

-- calls, with one more
abbrev pub with_call : List Call → Option Call → List Call
with_call calls None = calls
with_call calls (Some call) = calls ++ call ∷ []

-- outlines, with that of the ruleset at a path
abbrev pub with_outline : finite.FinMap path_cmp Outline → List (List ℕ) → Option Node → finite.FinMap path_cmp Outline
with_outline outlines path None = outlines
with_outline outlines path (Some node) = finite.insert outlines path (outline_of node)

-- the same, unless the ruleset goes with a load
abbrev pub with_left : List Staged → Rulesets → finite.FinMap path_cmp Outline → List (List ℕ) → finite.FinMap path_cmp Outline
with_left parts rulesets outlines path = if is_cleared parts path then outlines else with_outline outlines path (finite.get rulesets path)

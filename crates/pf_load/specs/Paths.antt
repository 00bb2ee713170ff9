-- Which rulesets a load fills (pf.conf(5), ANCHORS; pfctl(8), -a): first the one that it is into, then rulesets below it, each once.
use Rattle.std.specs.Prelude.{◌≡◌, ℕ, All, List, ◌++◌, Option, Some, slice_get}
use Rattle.std.specs.Option.{option_map}
use Rattle.pf_plan.specs.declared.plan.Part.{Part}
use Rattle.pf_plan.specs.declared.plan.Plan.{Plan}

-- a path begins with the names of another
pub record IsBelow (at path : List (List ℕ)) : Type 0 where
  pub names : List (List ℕ)
  pub is : path ≡ at ++ names

-- the parts of a plan that is loaded into the ruleset at this path
pub record FillsOnce (at : List (List ℕ)) (plan : Plan) : Type 0 where
  -- the first one fills that ruleset
  pub first : option_map (λ (part : Part). part.path) (slice_get plan.parts 0) ≡ Some at
  -- all of them fill rulesets whose paths begin with its path
  pub below : All (λ (part : Part). IsBelow at part.path) plan.parts
  -- no two fill one ruleset
  pub once : (i j : ℕ) (one other : Part) → slice_get plan.parts i ≡ Some one → slice_get plan.parts j ≡ Some other → one.path ≡ other.path → i ≡ j

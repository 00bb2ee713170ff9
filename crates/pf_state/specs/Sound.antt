-- What is known of the plan of a load, by which its rulesets can be optimised.
use Rattle.std.specs.Prelude.{◌≡◌, ◌≤◌, true, List, [], ◌∷◌, length}
use Rattle.pf_optim.specs.Meaning.{are_written}
use Rattle.pf_plan.specs.declared.plan.Part.{Part}
use Rattle.pf_plan.specs.declared.plan.Plan.{Plan}

-- at most 16,384 rules, none of which names a table that the optimiser makes
pub record IsPartSound (part : Part) : Type 0 where
  pub few : length part.rules ≤ 16384
  pub written : are_written part.rules ≡ true

abbrev pub AreSound : List Part → Type 0
AreSound [] = Unit {0}
AreSound (part ∷ parts) = IsPartSound part × AreSound parts

abbrev pub IsPlanSound : Plan → Type 0
IsPlanSound plan = AreSound plan.parts

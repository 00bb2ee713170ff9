-- What a plan is like, as an optimiser wants written rules: each ruleset has no more rules than it may have, and no rule tests an
-- automatic table.
use Rattle.std.specs.Prelude.{◌≡◌, Bool, true, ◌&&◌, nat_le, List, length}
use Rattle.std.specs.List.{list_all}
use Rattle.pf_expand.specs.Written.{has_no_auto}
use Rattle.pf_rule.specs.declared.rule.Rule.{Rule}
use Rattle.pf_plan.specs.Drafts.{most_rules}
use Rattle.pf_plan.specs.declared.draft.Draft.{Draft}
use Rattle.pf_plan.specs.declared.draft.Filling.{Filling}
use Rattle.pf_plan.specs.declared.draft.Ruleset.{Ruleset}
use Rattle.pf_plan.specs.declared.plan.Part.{Part}
use Rattle.pf_plan.specs.declared.plan.Plan.{Plan}
use Rattle.pf_load.specs.declared.loading.Next.{Next}
use Rattle.pf_load.specs.declared.loading.Next.TheVariants.{Reading, Finished}

abbrev pub are_written : List Rule → Bool
are_written rules = list_all has_no_auto rules

abbrev pub is_ruleset_written : Ruleset → Bool
is_ruleset_written filled = are_written filled.rules

abbrev pub is_filling_written : Filling → Bool
is_filling_written filling = is_ruleset_written filling.own && list_all is_ruleset_written filling.inside

-- at most 16,384 rules, of which none tests an automatic table
abbrev pub is_part_fit : Part → Bool
is_part_fit part = nat_le (length part.rules) most_rules && are_written part.rules

abbrev pub is_plan_fit : Plan → Bool
is_plan_fit plan = list_all is_part_fit plan.parts

-- a draft from which such a plan is made, unless its unit ends with too many rules
pub record IsDraftFit (draft : Draft) : Type 0 where
  pub parts : list_all is_part_fit draft.parts ≡ true
  pub here : is_filling_written draft.here ≡ true
  pub outer : list_all is_filling_written draft.outer ≡ true

-- a fit draft stays fit
abbrev pub StaysFit : Draft → Draft → Type 0
StaysFit draft new = IsDraftFit draft → IsDraftFit new

-- the draft of a unit that begins, or the plan, is fit
abbrev pub IsNextFit : Next → Type 0
IsNextFit (Reading lexer draft) = IsDraftFit draft
IsNextFit (Finished plan) = is_plan_fit plan ≡ true

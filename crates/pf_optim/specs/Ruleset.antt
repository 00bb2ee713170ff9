-- What a ruleset is: its rules as they are written, and how much the optimiser does with them.
use Rattle.std.specs.Prelude.{◌≡◌, ℕ, ◌<◌, ◌^◌, true, List, [], ◌∷◌, length, sum}
use Rattle.pf_optim.specs.Meaning.{are_written}
use Rattle.pf_optim.specs.Optimised.{Listed, optimised}
use Rattle.pf_optim.specs.SkipSteps.{rows_from}
use Rattle.pf_base.specs.declared.kind.Level.{Level}
use Rattle.pf_base.specs.declared.kind.Level.TheVariants.{None}
use Rattle.pf_auto.specs.declared.merging.AutoTable.{AutoTable}
use Rattle.pf_rule.specs.declared.rule.Rule.{Rule}

-- rules as they are written, each with how often it was used, and a level
pub record Written : Type 0 where
  pub rules : List Rule
  pub level : Level
  pub weights : List ℕ

-- without rules the level is none
abbrev pub written_of : List Rule → Level → List ℕ → Written
written_of [] level weights = record { rules = []; level = None; weights = [] }
written_of (rule ∷ rules) level weights = record { rules = rule ∷ rules; level = level; weights = weights }

-- the optimised form
abbrev pub form_of : Written → Listed
form_of written = optimised written.level written.rules written.weights

-- what a ruleset keeps of its rules: fewer than 2^30, each with a weight, none with an automatic table, and without rules no level
pub record IsSound (written : Written) : Type 0 where
  pub few : length written.rules < 2 ^ 30
  pub weighed : length written.rules ≡ length written.weights
  pub light : sum written.weights < 2 ^ 60
  pub plain : are_written written.rules ≡ true
  pub empty : written ≡ written_of written.rules written.level written.weights

-- these are the rules, the tables and the skips of its optimised form
pub record IsForm (written : Written) (fast : List Rule) (tables : List AutoTable) (skips : List (List ℕ)) : Type 0 where
  pub sound : IsSound written
  pub rules_are : fast ≡ (form_of written).rules
  pub tables_are : tables ≡ (form_of written).tables
  pub skips_are : skips ≡ rows_from 0 fast
  pub few : length fast < 2 ^ 30

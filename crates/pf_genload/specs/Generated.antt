-- A generated configuration, and what its load comes to (pfctl(8), -g).
use Rattle.std.specs.Prelude.{◌≡◌, ℕ, Bool, true, not, List, [], ◌∷◌, length, codes, Option, Some, Ok}
use Rattle.std.specs.List.{list_all}
use Rattle.pf_base.specs.declared.kind.Level.{Level}
use Rattle.pf_gen.specs.Texts.{config_of}
use Rattle.pf_host.specs.Facts.{no_facts}
use Rattle.pf_load.specs.Load.{Loads, Outcome}
use Rattle.pf_load.specs.declared.loading.LoadOptions.{LoadOptions}
use Rattle.pf_plan.specs.Ends.{level_of}
use Rattle.pf_plan.specs.declared.plan.Plan.{Plan}
use Rattle.pf_plan.specs.declared.plan.Whole.{Whole}
use Rattle.pf_rule.specs.Effect.{is_anchor}
use Rattle.pf_rule.specs.declared.rule.Rule.{Rule}
use Rattle.pf_source.specs.Disk.{Disk}
use Rattle.pf_source.specs.Told.{file_of}

-- the configuration of a number as the one file of a disk: a generated run reads no other
abbrev pub generated_disk : ℕ → Disk
generated_disk number = file_of (record { files = record { name = codes "generated"; bytes = config_of number } ∷ []; sure = true })

-- the load fills the main ruleset, at this level where one is given; it is given no macros
abbrev pub options_at : Option Level → LoadOptions
options_at level = record { level = level; path = []; defines = [] }

-- only an anchor rule calls a ruleset (pf.conf(5), ANCHORS)
abbrev pub calls_no_ruleset : Rule → Bool
calls_no_ruleset rule = not (is_anchor rule.effect.action)

-- no option is set, no interface is passed over, and no queue is declared
abbrev pub nothing_set : Whole
nothing_set = record { options = []; skip = []; queues = [] }

-- the plan of the main ruleset alone, with these rules, no table, and nothing that is set beside
abbrev pub plan_with : List Rule → Option Level → Plan
plan_with rules level = record {
  parts = record { path = []; rules = rules; tables = [] } ∷ [];
  whole = Some nothing_set;
  level = level_of level [];
}

-- what the load of the configuration of a number comes to at a level, where no facts of the host are known
abbrev pub LoadsAs : ℕ → Option Level → Outcome → Type 0
LoadsAs number level outcome = Loads (generated_disk number) no_facts (options_at level) (codes "generated") outcome

-- The configuration of a number is one list of rules, as many as it has lines: `block all` and 2,000 behind it. None of them calls
-- a ruleset. At each level its load comes to the plan with these rules, and to nothing else.
pub record LoadsWhole (number : ℕ) : Type 0 where
  pub rules : List Rule
  pub count : length rules ≡ 2001
  pub calls : list_all calls_no_ruleset rules ≡ true
  pub loads : (level : Option Level) → LoadsAs number level (Ok (plan_with rules level))
  pub only : (level : Option Level) (outcome : Outcome) → LoadsAs number level outcome → outcome ≡ Ok (plan_with rules level)

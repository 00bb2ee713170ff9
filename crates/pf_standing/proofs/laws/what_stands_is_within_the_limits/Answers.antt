use Rattle.pf_standing.specs.Within.{IsWithin}
use Rattle.pf_standing.proofs.Carrying.{by_run, by_step}
use Rattle.pf_standing.proofs.Limited.{empty_within, keeps_within}
use Rattle.pf_standing.proofs.laws.what_stands_is_within_the_limits.Goals as goal

pub returns : goal.returns
returns c = record {
  first = empty_within;
  on = by_step IsWithin keeps_within;
  sessions = λ machine reached. (by_run IsWithin keeps_within empty_within machine reached).sessions;
  rules = λ machine reached. (by_run IsWithin keeps_within empty_within machine reached).rules;
  rulesets = λ machine reached. (by_run IsWithin keeps_within empty_within machine reached).rulesets;
  entries = λ machine reached. (by_run IsWithin keeps_within empty_within machine reached).entries;
  planned_rules = λ machine reached. (by_run IsWithin keeps_within empty_within machine reached).planned_rules;
  planned_rulesets = λ machine reached. (by_run IsWithin keeps_within empty_within machine reached).planned_rulesets;
  planned_entries = λ machine reached. (by_run IsWithin keeps_within empty_within machine reached).planned_entries;
}

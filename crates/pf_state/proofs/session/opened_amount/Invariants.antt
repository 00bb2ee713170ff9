use Rattle.std.proofs.Common.{◌≡◌, length, map}
use Rattle.std.specs.List.{sum_by}
use Rattle.std.specs.Map.Iter.{deref}
use Rattle.pf_state.specs.Limits.{planned_entries, planned_rules}
use Rattle.pf_state.specs.declared.ready.Opened.{Opened}
use Rattle.pf_state.proofs.session.opened_amount.Given as goal

abbrev pub invariant-loop-opened : goal.invariant-loop-opened
invariant-loop-opened l = record {
  rules : l.amount.rules ≡ sum_by (λ (opened : Opened). planned_rules opened.ready) (map deref l.yielded);
  rulesets : l.amount.rulesets ≡ sum_by (λ (opened : Opened). length opened.ready.parts) (map deref l.yielded);
  entries : l.amount.entries ≡ sum_by (λ (opened : Opened). planned_entries opened.ready) (map deref l.yielded);
}

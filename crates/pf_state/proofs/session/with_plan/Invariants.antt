use Rattle.std.proofs.Common.{◌≡◌, ◌+◌, length, take}
use Rattle.std.specs.List.{sum_by}
use Rattle.pf_state.specs.Limits.{declared_entries}
use Rattle.pf_state.specs.declared.ready.Staged.{Staged}
use Rattle.pf_state.proofs.session.with_plan.Given as goal

abbrev pub invariant-loop-part : goal.invariant-loop-part
invariant-loop-part l = record {
  rules : l.sum.rules ≡ l.initial.sum.rules + sum_by (λ (part : Staged). length part.rules.rules) (take l.part-index l.part-items);
  rulesets : l.sum.rulesets ≡ l.initial.sum.rulesets + l.part-index;
  entries : l.sum.entries ≡ l.initial.sum.entries + sum_by declared_entries (take l.part-index l.part-items);
}

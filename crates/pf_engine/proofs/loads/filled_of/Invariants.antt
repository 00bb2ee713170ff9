use Rattle.std.proofs.Common.{◌≡◌, length, take}
use Rattle.std.specs.List.{sum_by}
use Rattle.pf_state.specs.declared.ready.Staged.{Staged}
use Rattle.pf_engine.proofs.loads.filled_of.Given as goal

abbrev pub invariant-loop-part : goal.invariant-loop-part
invariant-loop-part l = record {
  rulesets : l.filled.rulesets ≡ length l.ready.parts;
  rules : l.filled.rules ≡ sum_by (λ (part : Staged). length part.rules.rules) (take l.part-index l.part-items);
  tables : l.filled.tables ≡ sum_by (λ (part : Staged). length part.tables) (take l.part-index l.part-items);
}

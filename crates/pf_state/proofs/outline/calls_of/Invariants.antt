use Rattle.std.proofs.Common.{◌≡◌, ◌++◌, drop}
use Rattle.pf_state.specs.Rulesets.{calls_in}
use Rattle.pf_state.proofs.outline.calls_of.Given as goal

abbrev pub invariant-loop-rule : goal.invariant-loop-rule
invariant-loop-rule l = l.calls ++ calls_in (drop l.rule-index l.rules) ≡ calls_in l.rules

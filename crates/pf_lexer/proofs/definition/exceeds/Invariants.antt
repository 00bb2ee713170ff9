use Rattle.std.proofs.Common.{◌≡◌, ◌+◌, ◌≤◌, drop}
use Rattle.pf_lexer.specs.Faults.{most_bytes}
use Rattle.pf_lexer.proofs.ValueTexts.{total}
use Rattle.pf_lexer.proofs.definition.exceeds.Given as goal

abbrev pub invariant-loop-value : goal.invariant-loop-value
invariant-loop-value l = record {
  counted : l.length + total (drop l.value-index l.values) ≡ total l.values;
  few : l.length ≤ most_bytes + 1;
}

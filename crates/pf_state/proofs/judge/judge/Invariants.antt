use Rattle.std.proofs.Common.{◌≡◌, ℕ, List}
use Rattle.std.specs.List.{sum_by}
use Rattle.pf_state.specs.declared.outline.Outline.{Outline}
use Rattle.pf_state.proofs.Calling.{rows_of}
use Rattle.pf_state.proofs.judge.judge.Given as goal

abbrev pub invariant-loop-path : goal.invariant-loop-path
invariant-loop-path l = record {
  rules : l.rules ≡ sum_by (λ (e : List (List ℕ) × Outline). e.1.rules) l.yielded;
  entries : l.entries ≡ sum_by (λ (e : List (List ℕ) × Outline). e.1.entries) l.yielded;
  rows : l.rows.items ≡ rows_of l.yielded;
}

use Rattle.std.proofs.Common.{◌≡◌, ◌++◌}
use Rattle.pf_optim.proofs.form.append_tables.Given as goal

abbrev pub invariant-loop-table : goal.invariant-loop-table
invariant-loop-table l = l.tables ≡ l.initial.tables ++ l.yielded

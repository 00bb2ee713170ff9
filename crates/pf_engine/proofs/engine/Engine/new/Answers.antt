use Rattle.std.proofs.Common.{sym, subst}
use Rattle.pf_state.specs.declared.machine.Machine.{Machine}
use Rattle.pf_engine.specs.Kept.{IsKept}
use Rattle.pf_engine.proofs.Judged.{empty_kept}
use Rattle.pf_engine.proofs.engine.Engine.new.Goals as goal

pub invariant_of-result : goal.invariant_of-result
invariant_of-result c = subst (λ (m : Machine). IsKept m) (sym c.new.ensures) empty_kept

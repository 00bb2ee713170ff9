use Rattle.pf_engine.proofs.Refusing.{leaves}
use Rattle.pf_engine.proofs.laws.a_refusal_changes_nothing.Goals as goal

pub returns : goal.returns
returns c = leaves

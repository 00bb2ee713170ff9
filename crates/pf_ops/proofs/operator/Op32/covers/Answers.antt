use Rattle.pf_ops.proofs.Subsets.{covers_exact, one_form}
use Rattle.pf_ops.proofs.operator.Op32.covers.Goals as goal

pub returns-clause-subset : goal.returns-clause-subset
returns-clause-subset c =
    rw (c.covers.ensures, ← c.self.view_is, ← c.other.view_is) (covers_exact _ c.self.inside.numbers c.other.inside.numbers c.self.invariant c.other.invariant)

pub returns-clause-one_form : goal.returns-clause-one_form
returns-clause-one_form c =
    rw (← c.self.view_is, ← c.other.view_is) (one_form _ c.self.inside.numbers c.other.inside.numbers c.self.invariant c.other.invariant)

use Rattle.std.proofs.Common.{true, take, refl, arith}
use Rattle.pf_base.specs.Padding.{length_front}
use Rattle.pf_base.specs.PathKept.{no_name}
use Rattle.pf_base.proofs.PathGrammar.{grammar_read}
use Rattle.pf_base.proofs.path.Path.names.Goals as goal

pub returns-clause-read_back : goal.returns-clause-read_back
returns-clause-read_back c =
    let kept = c.self.invariant.0 in
    let fits = kept.fits in
    let counted = length_front no_name 8 c.self.inside.names c.self.inside.count kept in
    rw (← c.self.view_is) (grammar_read true _ (take c.self.inside.count c.self.inside.names) (record { written = refl; few = omega arith; named = c.self.invariant.1 }))

-- What is left of the value is still such a rest, and the first cell is gone.
use Rattle.std.proofs.Common.{drop, ap, ◌∙◌, arith}
use Rattle.pf_token.proofs.ValueLemmas.{IsValueRest-next, value_next}
use Rattle.pf_token.proofs.reader.Reader.advance.Goals as goal

pub invariant_of-self : goal.invariant_of-self
invariant_of-self c =
    let here = c.self.inside in
    IsValueRest-next here.value.items here.at c.self.invariant (omega (arith, here.value.ok.0))

pub returns-then-self-len : goal.returns-then-self-len
returns-then-self-len c =
    let here = c.self.inside in
    value_next here.value.items here.at here.used here.file (omega (arith, here.value.ok.0)) ∙ ap (drop 1) c.self.view_is

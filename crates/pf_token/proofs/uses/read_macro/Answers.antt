-- The step at the `$`.
use Rattle.std.proofs.Common.{◌≡◌, sym, ap, ◌∙◌, subst, arith}
use Rattle.std.specs.Prelude.{IsSomeAnd}
use Rattle.pf_token.specs.declared.cell.Cell.{Cell}
use Rattle.pf_token.specs.Bytes.{class_of}
use Rattle.pf_token.specs.declared.byte.ByteClass.TheVariants.{Dollar}
use Rattle.pf_token.specs.Macros.{value_of}
use Rattle.pf_token.specs.Reading.{macro_step, weight}
use Rattle.pf_token.proofs.DollarLemmas.{step_at, weight_dollar}
use Rattle.pf_token.proofs.uses.read_macro.Goals as goal

pub returns-clause-step : goal.returns-clause-step
returns-clause-step c =
    let dollar = c.in-Some.dollar in
    let next = sym c.in-Some.is ∙ c.peek.ensures in
    let is : class_of dollar.byte ≡ Dollar = subst (λ o. IsSomeAnd o (λ (cell : Cell). class_of cell.byte ≡ Dollar)) (sym next) c.requires in
    step_at c.args.file.now dollar next (value_of c.args.macros.now) Dollar is
    ∙ ap (macro_step (value_of c.args.macros.now) dollar.place) (sym c.advance.ensures)
    ∙ c.in_ok-found-in-Some.ensures.step dollar.place

pub returns-clause-lighter : goal.returns-clause-lighter
returns-clause-lighter c =
    let dollar = c.in-Some.dollar in
    let next = sym c.in-Some.is ∙ c.peek.ensures in
    let is : class_of dollar.byte ≡ Dollar = subst (λ o. IsSomeAnd o (λ (cell : Cell). class_of cell.byte ≡ Dollar)) (sym next) c.requires in
    let less = c.in_ok-found-in-Some.ensures.lighter dollar.place in
    omega (arith, weight_dollar c.args.file.now dollar next is, ap weight c.advance.ensures)

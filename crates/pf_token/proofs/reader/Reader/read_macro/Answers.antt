-- The value in use is over, so the `$` stands in the file.
use Rattle.std.proofs.Common.{◌≡◌, ℕ, ◌++◌, false, List, [], Some, drop, sym, ap, ◌∙◌, subst, arith}
use Rattle.std.specs.Prelude.{IsSomeAnd}
use Rattle.pf_token.specs.declared.byte.ByteClass.TheVariants.{Dollar}
use Rattle.pf_token.specs.declared.cell.Cell.{Cell}
use Rattle.pf_token.specs.Bytes.{class_of}
use Rattle.pf_token.specs.Cells.{cells_at, first_cell, has_dollar}
use Rattle.pf_base.specs.declared.fault.Place.{Place}
use Rattle.pf_token.specs.Pieces.{fault}
use Rattle.pf_token.specs.Macros.{value_of}
use Rattle.pf_token.specs.Reading.{step, use_step, weight}
use Rattle.pf_token.proofs.DollarLemmas.{value_over}
use Rattle.pf_token.proofs.reader.Reader.read_macro.Goals as goal

abbrev begins_dollar : List Cell → Type 0
begins_dollar cells = IsSomeAnd (first_cell cells) (λ (cell : Cell). class_of cell.byte ≡ Dollar)

-- what the reader stood for, where its value is over
in_file : (value : List ℕ) (used : Place) (file old : List Cell) → has_dollar value ≡ false → cells_at used value ++ file ≡ old → begins_dollar old → (value ≡ []) × (file ≡ old)
in_file value used file old plain is next =
    let over = value_over value used file plain (subst begins_dollar (sym is) next) in
    (over, ap (λ v. cells_at used v ++ file) (sym over) ∙ is)

pub read_macro-requires : goal.read_macro-requires
read_macro-requires c =
    let here = c.self.inside in
    subst begins_dollar (sym (in_file (drop here.at here.value.items) here.used here.file c.args.self.now c.self.invariant.plain c.self.view_is c.requires).1) c.requires

pub returns-in-Refused-clause-step : goal.returns-in-Refused-clause-step
returns-in-Refused-clause-step c =
    let here = c.self.inside in
    let file = in_file (drop here.at here.value.items) here.used here.file c.args.self.now c.self.invariant.plain c.self.view_is c.requires in
    ap (step (value_of c.args.macros.now)) (sym file.1)
    ∙ c.in_ok-place.ensures.step
    ∙ ap (λ found. use_step c.in_ok-place.place found c.read_macro.new.file) c.in-Refused.is
    ∙ ap (λ v. (Some (fault c.in-Refused.cause c.in_ok-place.place), cells_at here.used v ++ c.read_macro.new.file)) (sym file.0)

pub returns-in-Refused-clause-lighter : goal.returns-in-Refused-clause-lighter
returns-in-Refused-clause-lighter c =
    let here = c.self.inside in
    let file = in_file (drop here.at here.value.items) here.used here.file c.args.self.now c.self.invariant.plain c.self.view_is c.requires in
    let less = rw c.in-Refused.is at c.in_ok-place.ensures.lighter in
    omega (arith, ap weight file.1, ap (λ v. weight (cells_at here.used v ++ c.read_macro.new.file)) file.0)

pub returns-in-Value-clause-step : goal.returns-in-Value-clause-step
returns-in-Value-clause-step c =
    let here = c.self.inside in
    let file = in_file (drop here.at here.value.items) here.used here.file c.args.self.now c.self.invariant.plain c.self.view_is c.requires in
    ap (step (value_of c.args.macros.now)) (sym file.1)
    ∙ c.in_ok-place.ensures.step
    ∙ ap (λ found. use_step c.in_ok-place.place found c.read_macro.new.file) c.in-Value.is

pub returns-in-Value-clause-lighter : goal.returns-in-Value-clause-lighter
returns-in-Value-clause-lighter c =
    let here = c.self.inside in
    let file = in_file (drop here.at here.value.items) here.used here.file c.args.self.now c.self.invariant.plain c.self.view_is c.requires in
    let less = rw c.in-Value.is at c.in_ok-place.ensures.lighter in
    omega (arith, ap weight file.1)

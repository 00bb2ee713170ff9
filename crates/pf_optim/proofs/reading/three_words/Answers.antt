use Rattle.std.proofs.Common.{◌≡◌, ◌∷◌, sym, ◌∙◌, rules}
use Rattle.pf_base.specs.Text.{fields_of}
use Rattle.pf_optim.proofs.SaidRows.{has_rest, too_many}
use Rattle.pf_optim.proofs.reading.three_words.Goals as goal

pub returns-then-is_some-clause-none : goal.returns-then-is_some-clause-none
returns-then-is_some-clause-none c =
    let one = c.in_ok-rest.field-0.now in
    let two = c.in_ok-rest-2.field-0.now in
    let first : fields_of c.args.line.now ≡ c.split_field.result.0.now ∷ fields_of one = search rules in
    let second : fields_of one ≡ c.split_field-2.result.0.now ∷ fields_of two = search rules in
    too_many c.args.line.now one two c.split_field.result.0.now c.split_field-2.result.0.now c.split_field-3.result.0.now first second
    (has_rest c.split_field-3.result.1 two c.split_field-3.result.0.now (sym c.is_some.ensures ∙ c.if-is_some.true) c.split_field-3.ensures.more)

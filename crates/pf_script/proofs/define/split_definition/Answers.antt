use Rattle.std.proofs.Common.{get_or, sym}
use Rattle.std.proofs.lemmas.List.{take_rest}
use Rattle.pf_base.specs.CutLaws.{first_of_position, none_of_position}
use Rattle.pf_script.proofs.Equals.{is_equals, no_value, name_at, value_at}
use Rattle.pf_script.proofs.define.split_definition.Goals as goal

pub returns-in_err-end-clause-none : goal.returns-in_err-end-clause-none
returns-in_err-end-clause-none c =
    rw c.from_residual.ensures (no_value c.args.word.now (none_of_position is_equals c.args.word.now (sym c.in_err-end.ensures)))

pub returns-clause-name : goal.returns-clause-name
returns-clause-name c =
    let word = c.args.word.now in
    let end = c.in_ok-end.end in
    name_at word end (get_or word end 0) (first_of_position is_equals word end 0 (sym c.in_ok-end.ensures))

pub returns-clause-value : goal.returns-clause-value
returns-clause-value c =
    let word = c.args.word.now in
    let end = c.in_ok-end.end in
    rw take_rest (value_at word end (get_or word end 0) (first_of_position is_equals word end 0 (sym c.in_ok-end.ensures)))

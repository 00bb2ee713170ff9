use Rattle.std.proofs.Common.{get_or, sym}
use Rattle.std.proofs.lemmas.List.{take_rest}
use Rattle.pf_base.specs.Text.{is_space}
use Rattle.pf_base.specs.CutLaws.{first_of_position, none_of_position}
use Rattle.pf_base.proofs.Lines.{cuts_field, last_field}
use Rattle.pf_base.proofs.text.split_field.Goals as goal

pub returns-in-None-clause-last : goal.returns-in-None-clause-last
returns-in-None-clause-last c = last_field c.args.text.now (none_of_position is_space c.args.text.now (sym c.in-None.ensures))

pub returns-in-Some-clause-more : goal.returns-in-Some-clause-more
returns-in-Some-clause-more c =
    let text = c.args.text.now in
    let end = c.in-Some.end in
    let first = first_of_position is_space text end 0 (sym c.in-Some.ensures) in
    rw take_rest (cuts_field text end (get_or text end 0) first)

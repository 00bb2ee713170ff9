use Rattle.std.proofs.Common.{get_or, sym}
use Rattle.std.proofs.lemmas.List.{take_rest}
use Rattle.pf_base.specs.Text.{is_newline}
use Rattle.pf_base.specs.CutLaws.{first_of_position, none_of_position}
use Rattle.pf_base.proofs.Lines.{cuts_line, ends_no_line}
use Rattle.pf_base.proofs.text.split_line.Goals as goal

pub returns-in_err-end-clause-none : goal.returns-in_err-end-clause-none
returns-in_err-end-clause-none c =
    rw c.from_residual.ensures (ends_no_line c.args.text.now (none_of_position is_newline c.args.text.now (sym c.in_err-end.ensures)))

pub returns-clause-line : goal.returns-clause-line
returns-clause-line c =
    let text = c.args.text.now in
    let end = c.in_ok-end.end in
    let first = first_of_position is_newline text end 0 (sym c.in_ok-end.ensures) in
    rw take_rest (cuts_line text end (get_or text end 0) first)

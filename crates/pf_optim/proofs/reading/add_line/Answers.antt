use Rattle.std.proofs.Common.{sym, ◌∙◌, inl}
use Rattle.pf_optim.proofs.SaidRows.{takes_row}
use Rattle.pf_optim.specs.ProfileSteps.{rows_of}
use Rattle.pf_optim.proofs.reading.add_line.Goals as goal

pub returns-in-None : goal.returns-in-None
returns-in-None c = record { said = sym c.is_passed_over.ensures ∙ c.if-is_passed_over.false; fault = inl c.in-None.ensures.none }

pub returns-in-Some : goal.returns-in-Some
returns-in-Some c =
    takes_row c.add_row.result c.args.line.now c.in-Some.row (rows_of c.args.counts.now.entries) (rows_of c.add_row.new.counts.entries) (sym c.is_passed_over.ensures ∙ c.if-is_passed_over.false) c.in-Some.ensures.some c.add_row.ensures

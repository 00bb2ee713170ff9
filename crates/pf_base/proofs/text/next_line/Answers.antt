use Rattle.std.proofs.Common.{sym, ◌∙◌}
use Rattle.pf_base.proofs.TextLines.{empty_lines, first_line, last_line}
use Rattle.pf_base.proofs.text.next_line.Goals as goal

pub returns-in-Some-clause-line : goal.returns-in-Some-clause-line
returns-in-Some-clause-line c = first_line c.args.text.now c.in-Some.line.now c.in-Some.behind.now c.in-Some.ensures.line

pub returns-then-is_empty-clause-none : goal.returns-then-is_empty-clause-none
returns-then-is_empty-clause-none c = empty_lines c.args.text.now (sym c.is_empty.ensures ∙ c.if-is_empty.true)

pub returns-else-is_empty-clause-line : goal.returns-else-is_empty-clause-line
returns-else-is_empty-clause-line c = last_line c.args.text.now (sym c.is_empty.ensures ∙ c.if-is_empty.false) c.in-None.ensures.none

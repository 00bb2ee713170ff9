use Rattle.pf_host.specs.Facts.{facts_in}
use Rattle.std.proofs.Common.{sym, ◌∙◌}
use Rattle.pf_host.specs.Reading.{line_read}
use Rattle.pf_host.proofs.Texts.{passed, takes_text}
use Rattle.pf_host.proofs.lists.Lists.add_line.Goals as goal

pub returns-then-passes_over : goal.returns-then-passes_over
returns-then-passes_over c before said = passed before c.args.text.now (facts_in c.args.self.now) (sym c.passes_over.ensures ∙ c.if-passes_over.true) said

pub returns-in-Some : goal.returns-in-Some
returns-in-Some c = takes_text c.add.result c.args.text.now (line_read c.in-Some.statement) (facts_in c.args.self.now) (facts_in c.add.new.self) (sym c.passes_over.ensures ∙ c.if-passes_over.false) c.in-Some.ensures.some c.add.ensures

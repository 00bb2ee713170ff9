use Rattle.std.proofs.Common.{ap, sym, ◌∙◌}
use Rattle.pf_grammar.specs.Statements.{statement}
use Rattle.pf_grammar.proofs.FormLemmas.{none_before_more, refused}
use Rattle.pf_grammar.proofs.forms.read_draft.Goals as goal

-- something is left behind the statement
pub returns-else-is_at_end-clause-only : goal.returns-else-is_at_end-clause-only
returns-else-is_at_end-clause-only c = λ draft is. absurd (none_before_more c.args.tokens.now c.args.body _ _
    (ap (λ start. (statement c.args.body).reads start) (sym c.new-cursor.ensures) ∙ c.in-Ok.ensures)
    (sym c.is_at_end.ensures ∙ c.if-is_at_end.false) draft is)

pub returns-else-is_at_end-clause-fault : goal.returns-else-is_at_end-clause-fault
returns-else-is_at_end-clause-fault c = refused c.args.tokens.now c.args.body _ c.form_fault-else-is_at_end.ensures
    (none_before_more c.args.tokens.now c.args.body _ _
    (ap (λ start. (statement c.args.body).reads start) (sym c.new-cursor.ensures) ∙ c.in-Ok.ensures)
    (sym c.is_at_end.ensures ∙ c.if-is_at_end.false))

use Rattle.std.proofs.Common.{subst, Option}
use Rattle.pf_syntax.specs.declared.fault.FormFault.{FormFault}
use Rattle.pf_grammar.specs.Forms.{HasForm}
use Rattle.pf_grammar.proofs.FormLemmas.{late_refused}
use Rattle.pf_grammar.proofs.forms.parse_rule.Goals as goal

-- the form's late fault refuses it
pub returns-in-Some-clause-fault : goal.returns-in-Some-clause-fault
returns-in-Some-clause-fault c =
    let P : Option FormFault → Type 0 = λ late. HasForm c.args.tokens.now c.args.body c.in_ok-form.field-0.form late in
    late_refused c.args.tokens.now c.args.body c.in-Some.fault c.in_ok-form.field-0.form (subst P c.in-Some.is c.in_ok-form.ensures.found)

use Rattle.std.proofs.Common.{◌≡◌, ◌∙◌}
use Rattle.pf_expand.specs.Expansion.{fault_of}
use Rattle.pf_expand.specs.Faults.{faults_of, first_some}
use Rattle.pf_expand.proofs.statement.fault_of.Goals as goal

pub returns : goal.returns
unfolding fault_of
returns c =
    let faults = c.items-2.ensures ∙ c.in_ok-faults.ensures in
    c.first_fault.ensures ∙ (λ i. first_some (faults_of c.args.form.now (c.items.ensures i) (faults i) (c.in_ok-none.ensures i)))

use Rattle.pf_optim.proofs.OneMeaning.{never_both, one_fault, one_meaning}
use Rattle.pf_optim.proofs.laws.profiles_have_one_meaning.Goals as goal

pub returns-clause-rows : goal.returns-clause-rows
returns-clause-rows c text rows others = one_meaning text rows others

pub returns-clause-line : goal.returns-clause-line
returns-clause-line c text line other = one_fault text line other

pub returns-clause-apart : goal.returns-clause-apart
returns-clause-apart c text rows line = never_both text rows line

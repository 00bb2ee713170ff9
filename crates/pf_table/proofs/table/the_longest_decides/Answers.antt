use Rattle.pf_table.proofs.Narrowest.{found, none_inside}
use Rattle.pf_table.proofs.table.the_longest_decides.Goals as goal

pub returns-clause-found : goal.returns-clause-found
returns-clause-found c = found

pub returns-clause-none : goal.returns-clause-none
returns-clause-none c = λ entries a e h k inside. none_inside entries a h e k inside

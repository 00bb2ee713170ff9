use Rattle.pf_script.proofs.Lines.{exactly, says_none}
use Rattle.pf_script.proofs.laws.a_line_says_what_it_spells.Goals as goal

pub returns-clause-some : goal.returns-clause-some
returns-clause-some c = exactly c.cut_laws.ensures.split

pub returns-clause-none : goal.returns-clause-none
returns-clause-none c = says_none c.cut_laws.ensures.split

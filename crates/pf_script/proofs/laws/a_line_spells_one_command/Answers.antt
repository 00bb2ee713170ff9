use Rattle.pf_script.proofs.Lines.{one_command}
use Rattle.pf_script.proofs.laws.a_line_spells_one_command.Goals as goal

pub returns : goal.returns
returns c = one_command c.cut_laws.ensures.split

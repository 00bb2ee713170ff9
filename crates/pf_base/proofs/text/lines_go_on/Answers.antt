use Rattle.pf_base.proofs.Lines.{lines_go_on_lem}
use Rattle.pf_base.proofs.text.lines_go_on.Goals as goal

pub returns : goal.returns
returns c = lines_go_on_lem

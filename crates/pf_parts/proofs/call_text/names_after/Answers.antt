use Rattle.std.proofs.Common.{ap, Ok}
use Rattle.pf_base.specs.Path.{path_of_names}
use Rattle.pf_parts.proofs.call_text.names_after.Goals as goal

pub returns-in-None : goal.returns-in-None
unfolding path_of_names
returns-in-None c = rw c.in-None.is (ap Ok c.main.ensures)

use Rattle.pf_decl.proofs.FileTokens.{read_file}
use Rattle.pf_decl.proofs.MadeSettings.{declared_lines_read_back}
use Rattle.pf_decl.proofs.ReadingBack.{lines_read_back}
use Rattle.pf_decl.proofs.read_back.shown_lines_read_back.Goals as goal

pub returns : goal.returns
returns c = record { settings = lines_read_back; declared = declared_lines_read_back; texts = read_file }

use Rattle.std.proofs.Common.{◌≡◌, List, [], Ok}
use Rattle.pf_optim.specs.declared.rows.Row.{Row}
use Rattle.pf_engine.specs.FilesRead.{read_as}
use Rattle.pf_engine.specs.LoadLines.{ProfileSays}
use Rattle.pf_engine.specs.declared.loads.Read.{Read}
use Rattle.pf_engine.proofs.Reading.{nothing_says}
use Rattle.pf_engine.proofs.Results.{if_ok}
use Rattle.pf_engine.proofs.loads.no_profile.Goals as goal

pub returns-clause-none : goal.returns-clause-none
returns-clause-none c =
    if_ok c.profile_in.result (λ (read : Read (List Row)). ProfileSays [] (read_as read)) (λ (read : Read (List Row)). read_as read ≡ Ok [])
    (λ read says. nothing_says (read_as read) says) c.profile_in.ensures.says

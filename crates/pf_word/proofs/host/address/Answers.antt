use Rattle.std.proofs.Common.{◌≡◌, ◌∙◌, ◌∷◌, [], Ok, Err, ap, refl, sym}
use Rattle.pf_word.specs.Hosts.{is_address}
use Rattle.pf_word.proofs.host.address.Goals as goal

pub returns-in-Ok : goal.returns-in-Ok
returns-in-Ok c = is_address c.in-Ok.addr c.in-Ok.ensures.found refl

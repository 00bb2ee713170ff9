use Rattle.std.proofs.Common.{◌≡◌, ◌∙◌, ◌∷◌, [], Ok, Err, ap, refl, sym}
use Rattle.pf_word.specs.Hosts.{a_prefix}
use Rattle.pf_word.proofs.Adding.{mask_fails}
use Rattle.pf_word.proofs.host.masked_prefixes.Goals as goal

pub returns-in_ok-prefixes-in-Ok : goal.returns-in_ok-prefixes-in-Ok
returns-in_ok-prefixes-in-Ok c = a_prefix c.in-Ok.prefix c.in-Ok.ensures.found (ap Ok c.in_ok-prefixes-in-Ok.ensures)

pub returns-in-Err : goal.returns-in-Err
returns-in-Err c = rw c.mask_fault.ensures (mask_fails c.args.word.now c.args.mask.now c.in-Err.fault c.in-Err.ensures.only c.in-Err.ensures.too_long c.in-Err.ensures.not_an_address)

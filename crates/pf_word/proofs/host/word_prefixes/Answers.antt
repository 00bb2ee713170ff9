use Rattle.std.proofs.Common.{◌≡◌, ◌∙◌, ◌∷◌, [], Ok, Err, ap, refl, sym}
use Rattle.pf_word.specs.Hosts.{an_address}
use Rattle.pf_word.proofs.host.word_prefixes.Goals as goal

pub returns-in_ok-prefixes-in-Ok : goal.returns-in_ok-prefixes-in-Ok
returns-in_ok-prefixes-in-Ok c = an_address c.in-Ok.addr c.in-Ok.ensures.found (ap Ok (c.in_ok-prefixes-in-Ok.ensures ∙ ap (λ p. p ∷ []) c.of.ensures.value))

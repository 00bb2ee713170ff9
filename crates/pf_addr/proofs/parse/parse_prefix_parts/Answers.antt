use Rattle.std.proofs.Common.{inr, refl}
use Rattle.pf_addr.proofs.Prefixes.{prefix_found, prefix_only, prefix_too_long}
use Rattle.pf_addr.proofs.Texts.{writes_masked}
use Rattle.pf_addr.proofs.parse.parse_prefix_parts.Goals as goal

pub returns-in-Some-clause-found : goal.returns-in-Some-clause-found
returns-in-Some-clause-found c =
    prefix_found _ c.in-Some.addr c.in-Some.len _ (inr c.in-Some.ensures) c.prefix_of.ensures.ok c.prefix_of.ensures.too_long

pub returns-in-Some-clause-only : goal.returns-in-Some-clause-only
returns-in-Some-clause-only c =
    prefix_only _ c.in-Some.addr c.in-Some.len _ (inr c.in-Some.ensures) c.prefix_of.ensures.ok c.prefix_of.ensures.too_long

pub returns-in-Some-clause-too_long : goal.returns-in-Some-clause-too_long
returns-in-Some-clause-too_long c =
    prefix_too_long _ c.in-Some.addr c.in-Some.len _ (inr c.in-Some.ensures) c.prefix_of.ensures.ok c.prefix_of.ensures.too_long

pub returns-in-None-clause-only : goal.returns-in-None-clause-only
returns-in-None-clause-only c p h = absurd (c.in-None.ensures h.addr p.len (writes_masked _ _ h.addr p.len h.writes))

pub returns-in-None-clause-too_long : goal.returns-in-None-clause-too_long
returns-in-None-clause-too_long c n = (λ e. absurd cc, λ h. absurd (c.in-None.ensures h.addr n (writes_masked _ _ h.addr n h.writes)))

pub returns-in-None-clause-not_an_address : goal.returns-in-None-clause-not_an_address
returns-in-None-clause-not_an_address c = (λ e a n h. c.in-None.ensures a n (writes_masked _ _ a n h), λ none. refl)
